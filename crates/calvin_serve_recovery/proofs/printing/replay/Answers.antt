use Rattle.std.proofs.Common.{inl, inr}
use Rattle.calvin_serve_recovery.specs.Beginnings.{start_at}
use Rattle.calvin_serve_recovery.proofs.Beginnings.{starts_same}
use Rattle.calvin_serve_recovery.proofs.Opened.{too_long, no_journal, not_begun, not_listed, prints, prints_in_part}
use Rattle.calvin_serve_recovery.proofs.Crashes.{stands_still, keeps_opened, keeps_part, keeps_lines, as_found}
use Rattle.calvin_serve_recovery.proofs.Steps.{ok_then, err_then, err_both, on_ok, on_err, some_then}
use Rattle.calvin_serve_recovery.proofs.printing.replay.Goals as goal

pub returns-in-Ok-find_start-clause-ok : goal.returns-in-Ok-find_start-clause-ok
returns-in-Ok-find_start-clause-ok g c =
    let form = g.A.Row.StoredRow.form in
    let grammar = g.A.Args.Operation.grammar in
    let heading = c.args.heading.now in
    let told = g.L.Log.told c.args.log in
    let new = c.in-Ok-find_start.started.opening.lines in
    let lines = c.in-Ok.opening.lines in
    let start = start_at c.in-Ok-find_start.started.epoch c.in-Ok-find_start.started.store in
    let begun = c.in-Ok-find_start.ensures.ok in
    let opens = c.in-Ok.ensures.ok in
    on_ok c.print_all.result
    (λ all. prints heading form start g.A.App.meaning g.A.Reply.Printed.printed grammar c.args.setting (c.answered_as_a_script.ensures g.A.App.meaning g.A.Reply.Printed.printed c.args.setting)
    told lines new opens begun (g.K.Sink.taken c.args.sink.now) (g.K.Sink.taken c.print_all.new.sink) all)
    c.print_all.ensures.ok

pub returns-in-Ok-find_start-clause-err : goal.returns-in-Ok-find_start-clause-err
returns-in-Ok-find_start-clause-err g c =
    let form = g.A.Row.StoredRow.form in
    let grammar = g.A.Args.Operation.grammar in
    let heading = c.args.heading.now in
    let told = g.L.Log.told c.args.log in
    let new = c.in-Ok-find_start.started.opening.lines in
    let lines = c.in-Ok.opening.lines in
    let start = start_at c.in-Ok-find_start.started.epoch c.in-Ok-find_start.started.store in
    let begun = c.in-Ok-find_start.ensures.ok in
    let opens = c.in-Ok.ensures.ok in
    on_err c.print_all.result
    (λ some. inr (prints_in_part heading form start g.A.App.meaning g.A.Reply.Printed.printed grammar c.args.setting
    told lines new opens begun (g.K.Sink.taken c.args.sink.now) (g.K.Sink.taken c.print_all.new.sink) some))
    c.print_all.ensures.err

pub returns-in-Ok-find_start-clause-left : goal.returns-in-Ok-find_start-clause-left
returns-in-Ok-find_start-clause-left g c =
    let form = g.A.Row.StoredRow.form in
    let heading = c.args.heading.now in
    let told = g.L.Log.told c.args.log in
    let new = c.in-Ok-find_start.started.opening.lines in
    let lines = c.in-Ok.opening.lines in
    let start = start_at c.in-Ok-find_start.started.epoch c.in-Ok-find_start.started.store in
    let begun = c.in-Ok-find_start.ensures.ok in
    let opens = c.in-Ok.ensures.ok in
    ok_then c.print_all.result
    (λ left stands. keeps_opened heading told (g.L.Log.told left) lines (g.met.L.Log.in_order c.args.log) opens c.in-Ok.ensures.untold (stands_still lines new (g.L.Log.told left) (starts_same form start lines new begun) stands))
    c.print_all.ensures.left

pub returns-in-Ok-find_start-clause-any_moment : goal.returns-in-Ok-find_start-clause-any_moment
returns-in-Ok-find_start-clause-any_moment g c =
    let form = g.A.Row.StoredRow.form in
    let heading = c.args.heading.now in
    let told = g.L.Log.told c.args.log in
    let new = c.in-Ok-find_start.started.opening.lines in
    let lines = c.in-Ok.opening.lines in
    let start = start_at c.in-Ok-find_start.started.epoch c.in-Ok-find_start.started.store in
    let begun = c.in-Ok-find_start.ensures.ok in
    let opens = c.in-Ok.ensures.ok in
    err_then c.print_all.result
    (λ r stands. keeps_opened heading told (g.L.Log.told r.log) lines (g.met.L.Log.in_order c.args.log) opens c.in-Ok.ensures.untold (stands_still lines new (g.L.Log.told r.log) (starts_same form start lines new begun) stands))
    c.print_all.ensures.any_moment

pub returns-in-Ok-find_start-clause-no_journal : goal.returns-in-Ok-find_start-clause-no_journal
returns-in-Ok-find_start-clause-no_journal g c =
    let form = g.A.Row.StoredRow.form in
    let grammar = g.A.Args.Operation.grammar in
    let heading = c.args.heading.now in
    let partitions = c.args.setting.partitions in
    let told = g.L.Log.told c.args.log in
    let new = c.in-Ok-find_start.started.opening.lines in
    let lines = c.in-Ok.opening.lines in
    let start = start_at c.in-Ok-find_start.started.epoch c.in-Ok-find_start.started.store in
    let begun = c.in-Ok-find_start.ensures.ok in
    let opens = c.in-Ok.ensures.ok in
    err_then c.print_all.result
    (λ r none is. no_journal heading form grammar partitions told lines opens (not_listed form grammar partitions start lines new begun (none is)))
    c.print_all.ensures.no_epoch

pub returns-in-Ok-find_start-clause-spent : goal.returns-in-Ok-find_start-clause-spent
returns-in-Ok-find_start-clause-spent g c =
    let form = g.A.Row.StoredRow.form in
    let heading = c.args.heading.now in
    let told = g.L.Log.told c.args.log in
    let new = c.in-Ok-find_start.started.opening.lines in
    let lines = c.in-Ok.opening.lines in
    let start = start_at c.in-Ok-find_start.started.epoch c.in-Ok-find_start.started.store in
    let begun = c.in-Ok-find_start.ensures.ok in
    let opens = c.in-Ok.ensures.ok in
    err_then c.print_all.result (λ r long is. too_long heading form start told lines new opens begun (long is)) c.print_all.ensures.spent

pub returns-in-Ok-find_start-clause-as_it_was : goal.returns-in-Ok-find_start-clause-as_it_was
returns-in-Ok-find_start-clause-as_it_was g c =
    let form = g.A.Row.StoredRow.form in
    let grammar = g.A.Args.Operation.grammar in
    let heading = c.args.heading.now in
    let partitions = c.args.setting.partitions in
    let told = g.L.Log.told c.args.log in
    let new = c.in-Ok-find_start.started.opening.lines in
    let lines = c.in-Ok.opening.lines in
    let start = start_at c.in-Ok-find_start.started.epoch c.in-Ok-find_start.started.store in
    let begun = c.in-Ok-find_start.ensures.ok in
    let opens = c.in-Ok.ensures.ok in
    err_both c.print_all.result
    (λ r none stands is. keeps_lines heading form grammar partitions told (g.L.Log.told r.log) lines opens c.in-Ok.ensures.untold (stands_still lines new (g.L.Log.told r.log) (starts_same form start lines new begun) stands)
    (not_listed form grammar partitions start lines new begun (none is)))
    c.print_all.ensures.no_epoch c.print_all.ensures.any_moment

pub returns-in-Err-find_start-clause-no_journal : goal.returns-in-Err-find_start-clause-no_journal
returns-in-Err-find_start-clause-no_journal g c =
    let form = g.A.Row.StoredRow.form in
    let grammar = g.A.Args.Operation.grammar in
    let heading = c.args.heading.now in
    let partitions = c.args.setting.partitions in
    let told = g.L.Log.told c.args.log in
    let lines = c.in-Ok.opening.lines in
    let opens = c.in-Ok.ensures.ok in
    λ is. no_journal heading form grammar partitions told lines opens (not_begun form grammar partitions lines (c.in-Err-find_start.ensures.no_start is))

pub returns-in-Err-find_start-clause-any_moment : goal.returns-in-Err-find_start-clause-any_moment
returns-in-Err-find_start-clause-any_moment g c =
    let heading = c.args.heading.now in
    let told = g.L.Log.told c.args.log in
    let lines = c.in-Ok.opening.lines in
    let opens = c.in-Ok.ensures.ok in
    keeps_opened heading told (g.L.Log.told c.in-Err-find_start.refused.log) lines (g.met.L.Log.in_order c.args.log) opens c.in-Ok.ensures.untold c.in-Err-find_start.ensures.any_moment

pub returns-in-Err-find_start-clause-as_it_was : goal.returns-in-Err-find_start-clause-as_it_was
returns-in-Err-find_start-clause-as_it_was g c =
    let form = g.A.Row.StoredRow.form in
    let grammar = g.A.Args.Operation.grammar in
    let heading = c.args.heading.now in
    let partitions = c.args.setting.partitions in
    let told = g.L.Log.told c.args.log in
    let lines = c.in-Ok.opening.lines in
    let opens = c.in-Ok.ensures.ok in
    λ is. keeps_lines heading form grammar partitions told (g.L.Log.told c.in-Err-find_start.refused.log) lines opens c.in-Ok.ensures.untold c.in-Err-find_start.ensures.any_moment
    (not_begun form grammar partitions lines (c.in-Err-find_start.ensures.no_start is))

pub returns-in-Err-clause-no_journal : goal.returns-in-Err-clause-no_journal
returns-in-Err-clause-no_journal g c =
    let told = g.L.Log.told c.args.log in
    λ is. some_then told (λ disk none. inl none) (c.in-Err.ensures.no_journal is)

pub returns-in-Err-clause-any_moment : goal.returns-in-Err-clause-any_moment
returns-in-Err-clause-any_moment g c =
    let heading = c.args.heading.now in
    let told = g.L.Log.told c.args.log in
    keeps_part heading c.requires.one_line told (g.L.Log.told c.in-Err.refused.log) c.in-Err.ensures.any_moment

pub returns-in-Err-clause-as_it_was : goal.returns-in-Err-clause-as_it_was
returns-in-Err-clause-as_it_was g c =
    let told = g.L.Log.told c.args.log in
    λ is. as_found told (g.L.Log.told c.in-Err.refused.log) (c.in-Err.ensures.as_it_was is)
