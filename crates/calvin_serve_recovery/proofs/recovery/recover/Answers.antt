use Rattle.std.proofs.Common.{inl}
use Rattle.calvin_serve_recovery.specs.Beginnings.{start_at}
use Rattle.calvin_serve_recovery.proofs.Beginnings.{starts_same}
use Rattle.calvin_serve_recovery.proofs.Opened.{too_long, no_journal, not_begun, not_listed, recovers}
use Rattle.calvin_serve_recovery.proofs.Crashes.{stands_still, keeps_opened, keeps_part, keeps_lines, as_found}
use Rattle.calvin_serve_recovery.proofs.Steps.{ok_then, err_then, err_both, some_then}
use Rattle.calvin_serve_recovery.proofs.recovery.recover.Goals as goal

pub returns-in-Ok-find_start-clause-ok : goal.returns-in-Ok-find_start-clause-ok
returns-in-Ok-find_start-clause-ok g c =
    let form = g.A.Row.StoredRow.form in
    let grammar = g.A.Args.Operation.grammar in
    let heading = c.args.heading.now in
    let told = g.L.Log.told c.args.log in
    let new = c.in-Ok-find_start.started.opening.lines in
    let lines = c.in-Ok.opening.lines in
    let start = start_at c.in-Ok-find_start.started.epoch c.in-Ok-find_start.started.store in
    let begun = c.in-Ok-find_start.ensures.ok in
    let opens = c.in-Ok.ensures.ok in
    ok_then c.run_all.result
    (λ desk runs. recovers heading form start g.A.App.meaning g.A.Reply.Printed.printed grammar c.args.setting told lines new opens begun desk runs)
    c.run_all.ensures.ok

pub returns-in-Ok-find_start-clause-any_moment : goal.returns-in-Ok-find_start-clause-any_moment
returns-in-Ok-find_start-clause-any_moment g c =
    let form = g.A.Row.StoredRow.form in
    let heading = c.args.heading.now in
    let told = g.L.Log.told c.args.log in
    let new = c.in-Ok-find_start.started.opening.lines in
    let lines = c.in-Ok.opening.lines in
    let start = start_at c.in-Ok-find_start.started.epoch c.in-Ok-find_start.started.store in
    let begun = c.in-Ok-find_start.ensures.ok in
    let opens = c.in-Ok.ensures.ok in
    err_then c.run_all.result
    (λ r stands. keeps_opened heading told (g.L.Log.told r.log) lines (g.met.L.Log.in_order c.args.log) opens c.in-Ok.ensures.untold (stands_still lines new (g.L.Log.told r.log) (starts_same form start lines new begun) stands))
    c.run_all.ensures.any_moment

pub returns-in-Ok-find_start-clause-no_journal : goal.returns-in-Ok-find_start-clause-no_journal
returns-in-Ok-find_start-clause-no_journal g c =
    let form = g.A.Row.StoredRow.form in
    let grammar = g.A.Args.Operation.grammar in
    let heading = c.args.heading.now in
    let partitions = c.args.setting.partitions in
    let told = g.L.Log.told c.args.log in
    let new = c.in-Ok-find_start.started.opening.lines in
    let lines = c.in-Ok.opening.lines in
    let start = start_at c.in-Ok-find_start.started.epoch c.in-Ok-find_start.started.store in
    let begun = c.in-Ok-find_start.ensures.ok in
    let opens = c.in-Ok.ensures.ok in
    err_then c.run_all.result
    (λ r none is. no_journal heading form grammar partitions told lines opens (not_listed form grammar partitions start lines new begun (none is)))
    c.run_all.ensures.no_epoch

pub returns-in-Ok-find_start-clause-spent : goal.returns-in-Ok-find_start-clause-spent
returns-in-Ok-find_start-clause-spent g c =
    let form = g.A.Row.StoredRow.form in
    let heading = c.args.heading.now in
    let told = g.L.Log.told c.args.log in
    let new = c.in-Ok-find_start.started.opening.lines in
    let lines = c.in-Ok.opening.lines in
    let start = start_at c.in-Ok-find_start.started.epoch c.in-Ok-find_start.started.store in
    let begun = c.in-Ok-find_start.ensures.ok in
    let opens = c.in-Ok.ensures.ok in
    err_then c.run_all.result (λ r long is. too_long heading form start told lines new opens begun (long is)) c.run_all.ensures.spent

pub returns-in-Ok-find_start-clause-as_it_was : goal.returns-in-Ok-find_start-clause-as_it_was
returns-in-Ok-find_start-clause-as_it_was g c =
    let form = g.A.Row.StoredRow.form in
    let grammar = g.A.Args.Operation.grammar in
    let heading = c.args.heading.now in
    let partitions = c.args.setting.partitions in
    let told = g.L.Log.told c.args.log in
    let new = c.in-Ok-find_start.started.opening.lines in
    let lines = c.in-Ok.opening.lines in
    let start = start_at c.in-Ok-find_start.started.epoch c.in-Ok-find_start.started.store in
    let begun = c.in-Ok-find_start.ensures.ok in
    let opens = c.in-Ok.ensures.ok in
    err_both c.run_all.result
    (λ r none stands is. keeps_lines heading form grammar partitions told (g.L.Log.told r.log) lines opens c.in-Ok.ensures.untold (stands_still lines new (g.L.Log.told r.log) (starts_same form start lines new begun) stands)
    (not_listed form grammar partitions start lines new begun (none is)))
    c.run_all.ensures.no_epoch c.run_all.ensures.any_moment

pub returns-in-Err-find_start-clause-no_journal : goal.returns-in-Err-find_start-clause-no_journal
returns-in-Err-find_start-clause-no_journal g c =
    let form = g.A.Row.StoredRow.form in
    let grammar = g.A.Args.Operation.grammar in
    let heading = c.args.heading.now in
    let partitions = c.args.setting.partitions in
    let told = g.L.Log.told c.args.log in
    let lines = c.in-Ok.opening.lines in
    let opens = c.in-Ok.ensures.ok in
    λ is. no_journal heading form grammar partitions told lines opens (not_begun form grammar partitions lines (c.in-Err-find_start.ensures.no_start is))

pub returns-in-Err-find_start-clause-any_moment : goal.returns-in-Err-find_start-clause-any_moment
returns-in-Err-find_start-clause-any_moment g c =
    let heading = c.args.heading.now in
    let told = g.L.Log.told c.args.log in
    let lines = c.in-Ok.opening.lines in
    let opens = c.in-Ok.ensures.ok in
    keeps_opened heading told (g.L.Log.told c.in-Err-find_start.refused.log) lines (g.met.L.Log.in_order c.args.log) opens c.in-Ok.ensures.untold c.in-Err-find_start.ensures.any_moment

pub returns-in-Err-find_start-clause-as_it_was : goal.returns-in-Err-find_start-clause-as_it_was
returns-in-Err-find_start-clause-as_it_was g c =
    let form = g.A.Row.StoredRow.form in
    let grammar = g.A.Args.Operation.grammar in
    let heading = c.args.heading.now in
    let partitions = c.args.setting.partitions in
    let told = g.L.Log.told c.args.log in
    let lines = c.in-Ok.opening.lines in
    let opens = c.in-Ok.ensures.ok in
    λ is. keeps_lines heading form grammar partitions told (g.L.Log.told c.in-Err-find_start.refused.log) lines opens c.in-Ok.ensures.untold c.in-Err-find_start.ensures.any_moment
    (not_begun form grammar partitions lines (c.in-Err-find_start.ensures.no_start is))

pub returns-in-Err-clause-no_journal : goal.returns-in-Err-clause-no_journal
returns-in-Err-clause-no_journal g c =
    let told = g.L.Log.told c.args.log in
    λ is. some_then told (λ disk none. inl none) (c.in-Err.ensures.no_journal is)

pub returns-in-Err-clause-any_moment : goal.returns-in-Err-clause-any_moment
returns-in-Err-clause-any_moment g c =
    let heading = c.args.heading.now in
    let told = g.L.Log.told c.args.log in
    keeps_part heading c.requires.one_line told (g.L.Log.told c.in-Err.refused.log) c.in-Err.ensures.any_moment

pub returns-in-Err-clause-as_it_was : goal.returns-in-Err-clause-as_it_was
returns-in-Err-clause-as_it_was g c =
    let told = g.L.Log.told c.args.log in
    λ is. as_found told (g.L.Log.told c.in-Err.refused.log) (c.in-Err.ensures.as_it_was is)
