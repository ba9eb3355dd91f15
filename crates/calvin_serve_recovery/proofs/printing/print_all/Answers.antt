use Rattle.std.proofs.Common.{◌≡◌, ◌≤◌, [], ◌++◌, take, IfSome, sym, ◌∙◌, ap, subst}
use Rattle.std.specs.Prelude.{option_map}
use Rattle.std.specs.Io.KnownBytes.{Appends}
use Rattle.calvin_types.specs.declared.limits.TheConstants.{MOST_EPOCHS}
use Rattle.calvin_serve_desk.specs.declared.setting.Setting.{Setting}
use Rattle.calvin_serve_recovery.specs.Runs.{RunsNext, BeginsWithNoEpoch, all_lines}
use Rattle.calvin_serve_recovery.specs.Beginnings.{start_at}
use Rattle.calvin_serve_recovery.proofs.Crashes.{stands_still}
use Rattle.calvin_serve_recovery.proofs.Steps.{ok_then, err_then, on_ok, on_err, runs_none, runs_more, runs_still, run_same, run_no_further, run_too_long}
use Rattle.calvin_serve_recovery.proofs.Texts.{appends-none, appends-more, prints_as_far, prints_all, prints_to_end, prints_next_in_part}
use Rattle.calvin_serve_recovery.proofs.printing.print_all.Goals as goal

pub epochs-init : goal.epochs-init
epochs-init g c =
    let new = c.new-replaying.result in
    record {
      runs = (
        [],
        runs_none g.A.App.meaning g.A.Reply.Printed.printed g.A.Args.Operation.grammar c.args.setting (start_at c.args.started.epoch c.args.started.store) c.args.started.opening.lines new.opening.lines new.epoch new.store (ap (λ o. o.lines) c.new-replaying.ensures.opening)
            c.new-replaying.ensures.epoch c.new-replaying.ensures.rows,
        appends-none (g.K.Sink.taken c.args.sink.now),
      );
      setting = c.new-replaying.ensures.setting;
      failures = ap (λ o. o.failures) c.new-replaying.ensures.opening;
      wrote = λ i. g.K.Sink.failures c.args.sink.now;
    }

pub epochs-preserved : goal.epochs-preserved
epochs-preserved g c =
    let m = g.A.App.meaning in
    let show = g.A.Reply.Printed.printed in
    let grammar = g.A.Args.Operation.grammar in
    let old = c.epochs.replaying in
    let new = c.run_next.new.self in
    let text = c.run_next.new.text.items in
    let held = c.epochs.invariant in
    let out = g.K.Sink.taken c.args.sink.now in
    let out_now = g.K.Sink.taken c.epochs.sink in
    let out_new = g.K.Sink.taken c.write_all.new.sink in
    let next = subst (λ (s : Setting). RunsNext m show grammar s old.opening.lines old.epoch old.store new.opening.lines new.epoch new.store text) held.setting (c.in-Ok-true.ensures.epoch c.in-Ok-true.field-0-test) in
    record {
      runs = (
        held.runs.0 ++ text,
        runs_more m show grammar c.args.setting (start_at c.args.started.epoch c.args.started.store) c.args.started.opening.lines old.opening.lines old.epoch old.store held.runs.0 held.runs.1 new.opening.lines new.epoch new.store text next,
        appends-more out out_now out_new held.runs.0 text held.runs.2 (subst (Appends out_now out_new) c.deref.ensures.value c.in-Ok.ensures.whole),
      );
      setting = c.run_next.ensures.setting ∙ held.setting;
      failures = c.in-Ok-true.ensures.no_failure ∙ held.failures;
      wrote = c.in-Ok.ensures.no_failure ∙ held.wrote;
    }

pub returns-in-Ok-false-clause-ok : goal.returns-in-Ok-false-clause-ok
returns-in-Ok-false-clause-ok g c =
    let m = g.A.App.meaning in
    let show = g.A.Reply.Printed.printed in
    let grammar = g.A.Args.Operation.grammar in
    let old = c.epochs.replaying in
    let new = c.run_next.new.self in
    let held = c.epochs.invariant in
    let still = c.in-Ok-false.ensures.stays c.in-Ok-false.field-0-test in
    let end = subst (λ o. IfSome o (λ lines. lines.ahead ≡ [])) (sym still.0) (c.in-Ok-false.ensures.end c.in-Ok-false.field-0-test) in
    let runs = runs_still m show grammar c.args.setting (start_at c.args.started.epoch c.args.started.store) c.args.started.opening.lines old.opening.lines old.epoch old.store held.runs.0 held.runs.1 new.opening.lines new.epoch new.store still.0 still.1 still.2 in
    on_ok c.print_last.result
    (λ last. prints_all m show grammar c.args.setting (start_at c.args.started.epoch c.args.started.store) c.args.started.opening.lines new.opening.lines new.epoch new.store held.runs.0 runs (g.K.Sink.taken c.args.sink.now) (g.K.Sink.taken c.epochs.sink) end held.runs.2
    (g.K.Sink.taken c.print_last.new.sink) last)
    c.print_last.ensures.ok

pub returns-in-Ok-false-clause-err : goal.returns-in-Ok-false-clause-err
returns-in-Ok-false-clause-err g c =
    let m = g.A.App.meaning in
    let show = g.A.Reply.Printed.printed in
    let grammar = g.A.Args.Operation.grammar in
    let old = c.epochs.replaying in
    let new = c.run_next.new.self in
    let held = c.epochs.invariant in
    let still = c.in-Ok-false.ensures.stays c.in-Ok-false.field-0-test in
    let end = subst (λ o. IfSome o (λ lines. lines.ahead ≡ [])) (sym still.0) (c.in-Ok-false.ensures.end c.in-Ok-false.field-0-test) in
    let runs = runs_still m show grammar c.args.setting (start_at c.args.started.epoch c.args.started.store) c.args.started.opening.lines old.opening.lines old.epoch old.store held.runs.0 held.runs.1 new.opening.lines new.epoch new.store still.0 still.1 still.2 in
    on_err c.print_last.result
    (λ part. prints_to_end m show grammar c.args.setting (start_at c.args.started.epoch c.args.started.store) c.args.started.opening.lines new.opening.lines new.epoch new.store held.runs.0 runs (g.K.Sink.taken c.args.sink.now) (g.K.Sink.taken c.epochs.sink) end held.runs.2
    (g.K.Sink.taken c.print_last.new.sink) part.0 part.1)
    c.print_last.ensures.err

pub returns-in-Ok-false-clause-left : goal.returns-in-Ok-false-clause-left
returns-in-Ok-false-clause-left g c =
    let lines = c.args.started.opening.lines in
    let old = c.epochs.replaying in
    let new = c.run_next.new.self in
    let held = c.epochs.invariant in
    let still = c.in-Ok-false.ensures.stays c.in-Ok-false.field-0-test in
    let same = run_same g.A.Args.Operation.grammar c.args.setting.partitions held.runs.1.epochs lines old.opening.lines held.runs.1.handed in
    ok_then c.print_last.result (λ left stands. stands_still lines new.opening.lines (g.L.Log.told left) (ap (option_map all_lines) still.0 ∙ same) stands) c.print_last.ensures.left

pub returns-in-Ok-false-clause-any_moment : goal.returns-in-Ok-false-clause-any_moment
returns-in-Ok-false-clause-any_moment g c =
    let lines = c.args.started.opening.lines in
    let old = c.epochs.replaying in
    let new = c.run_next.new.self in
    let held = c.epochs.invariant in
    let still = c.in-Ok-false.ensures.stays c.in-Ok-false.field-0-test in
    let same = run_same g.A.Args.Operation.grammar c.args.setting.partitions held.runs.1.epochs lines old.opening.lines held.runs.1.handed in
    err_then c.print_last.result (λ r stands. stands_still lines new.opening.lines (g.L.Log.told r.log) (ap (option_map all_lines) still.0 ∙ same) stands) c.print_last.ensures.any_moment

pub returns-in-Err-clause-err : goal.returns-in-Err-clause-err
returns-in-Err-clause-err g c =
    let old = c.epochs.replaying in
    let held = c.epochs.invariant in
    prints_as_far g.A.App.meaning g.A.Reply.Printed.printed g.A.Args.Operation.grammar c.args.setting (start_at c.args.started.epoch c.args.started.store) c.args.started.opening.lines old.opening.lines old.epoch old.store held.runs.0 held.runs.1 (g.K.Sink.taken c.args.sink.now)
    (g.K.Sink.taken c.epochs.sink) held.runs.2

pub returns-in-Err-clause-any_moment : goal.returns-in-Err-clause-any_moment
returns-in-Err-clause-any_moment g c =
    let old = c.epochs.replaying in
    let held = c.epochs.invariant in
    let same = run_same g.A.Args.Operation.grammar c.args.setting.partitions held.runs.1.epochs c.args.started.opening.lines old.opening.lines held.runs.1.handed in
    stands_still c.args.started.opening.lines c.run_next.new.self.opening.lines (g.L.Log.told c.stop.result.log) (c.in-Err.ensures.err ∙ same) c.stop.ensures.any_moment

pub returns-in-Err-clause-no_epoch : goal.returns-in-Err-clause-no_epoch
returns-in-Err-clause-no_epoch g c = λ is.
    let grammar = g.A.Args.Operation.grammar in
    let old = c.epochs.replaying in
    let held = c.epochs.invariant in
    let none = c.in-Err.ensures.no_epoch (sym c.stop.ensures.fault ∙ is) in
    run_no_further grammar c.args.setting.partitions held.runs.1.epochs c.args.started.opening.lines old.opening.lines held.runs.1.handed
    (subst (λ (s : Setting). IfSome old.opening.lines (λ lines. BeginsWithNoEpoch grammar s.partitions lines.ahead)) held.setting none)

pub returns-in-Err-clause-spent : goal.returns-in-Err-clause-spent
returns-in-Err-clause-spent g c = λ is.
    let old = c.epochs.replaying in
    let held = c.epochs.invariant in
    let spent = c.in-Err.ensures.spent (sym c.stop.ensures.fault ∙ is) in
    run_too_long g.A.Args.Operation.grammar c.args.setting.partitions c.args.started.epoch held.runs.1.epochs c.args.started.opening.lines old.opening.lines held.runs.1.handed (subst (λ n. MOST_EPOCHS ≤ n) held.runs.1.count spent.0) spent.1

pub returns-in-Err-write_all-clause-err : goal.returns-in-Err-write_all-clause-err
returns-in-Err-write_all-clause-err g c =
    let m = g.A.App.meaning in
    let show = g.A.Reply.Printed.printed in
    let grammar = g.A.Args.Operation.grammar in
    let old = c.epochs.replaying in
    let new = c.run_next.new.self in
    let text = c.run_next.new.text.items in
    let held = c.epochs.invariant in
    let out_now = g.K.Sink.taken c.epochs.sink in
    let out_new = g.K.Sink.taken c.write_all.new.sink in
    let next = subst (λ (s : Setting). RunsNext m show grammar s old.opening.lines old.epoch old.store new.opening.lines new.epoch new.store text) held.setting (c.in-Ok-true.ensures.epoch c.in-Ok-true.field-0-test) in
    let part = c.in-Err-write_all.ensures.beginning in
    prints_next_in_part m show grammar c.args.setting (start_at c.args.started.epoch c.args.started.store) c.args.started.opening.lines old.opening.lines old.epoch old.store held.runs.0 held.runs.1 (g.K.Sink.taken c.args.sink.now) out_now held.runs.2 new.opening.lines new.epoch new.store text
    next out_new part.0 (subst (λ w. Appends out_now out_new (take part.0 w)) c.deref.ensures.value part.2)

pub returns-in-Err-write_all-clause-any_moment : goal.returns-in-Err-write_all-clause-any_moment
returns-in-Err-write_all-clause-any_moment g c =
    let m = g.A.App.meaning in
    let show = g.A.Reply.Printed.printed in
    let grammar = g.A.Args.Operation.grammar in
    let old = c.epochs.replaying in
    let new = c.run_next.new.self in
    let text = c.run_next.new.text.items in
    let held = c.epochs.invariant in
    let next = subst (λ (s : Setting). RunsNext m show grammar s old.opening.lines old.epoch old.store new.opening.lines new.epoch new.store text) held.setting (c.in-Ok-true.ensures.epoch c.in-Ok-true.field-0-test) in
    let runs = runs_more m show grammar c.args.setting (start_at c.args.started.epoch c.args.started.store) c.args.started.opening.lines old.opening.lines old.epoch old.store held.runs.0 held.runs.1 new.opening.lines new.epoch new.store text next in
    stands_still c.args.started.opening.lines new.opening.lines (g.L.Log.told c.stop-in-Err-write_all.result.log) (run_same grammar c.args.setting.partitions runs.epochs c.args.started.opening.lines new.opening.lines runs.handed)
    c.stop-in-Err-write_all.ensures.any_moment
