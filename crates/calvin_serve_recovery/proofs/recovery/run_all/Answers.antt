use Rattle.std.proofs.Common.{◌≡◌, ◌≤◌, ◌∙◌, [], ◌++◌, ap, sym, subst}
use Rattle.calvin_types.specs.declared.limits.TheConstants.{MOST_EPOCHS}
use Rattle.calvin_serve_desk.specs.declared.setting.Setting.{Setting}
use Rattle.calvin_serve_recovery.specs.Runs.{RunsNext, BeginsWithNoEpoch, all_lines}
use Rattle.calvin_serve_recovery.specs.Beginnings.{start_at}
use Rattle.std.specs.Prelude.{IfSome, option_map}
use Rattle.calvin_serve_recovery.proofs.Crashes.{stands_still}
use Rattle.calvin_serve_recovery.proofs.Steps.{ok_then, err_then, runs_none, runs_more, runs_still, runs_all, run_same, run_no_further, run_too_long}
use Rattle.calvin_serve_recovery.proofs.recovery.run_all.Goals as goal

pub epochs-init : goal.epochs-init
epochs-init g c =
    let new = c.new-replaying.result in
    record {
      runs = (
        [],
        runs_none g.A.App.meaning g.A.Reply.Printed.printed g.A.Args.Operation.grammar c.args.setting (start_at c.args.started.epoch c.args.started.store) c.args.started.opening.lines new.opening.lines new.epoch new.store (ap (λ o. o.lines) c.new-replaying.ensures.opening)
            c.new-replaying.ensures.epoch c.new-replaying.ensures.rows,
      );
      setting = c.new-replaying.ensures.setting;
      failures = ap (λ o. o.failures) c.new-replaying.ensures.opening;
    }

pub epochs-preserved : goal.epochs-preserved
epochs-preserved g c =
    let m = g.A.App.meaning in
    let show = g.A.Reply.Printed.printed in
    let grammar = g.A.Args.Operation.grammar in
    let old = c.epochs.replaying in
    let new = c.run_next.new.self in
    let text = c.run_next.new.text.items in
    let held = c.epochs.invariant in
    let next = subst (λ (s : Setting). RunsNext m show grammar s old.opening.lines old.epoch old.store new.opening.lines new.epoch new.store text) held.setting (c.in-Ok-true.ensures.epoch c.in-Ok-true.field-0-test) in
    record {
      runs = (held.runs.0 ++ text, runs_more m show grammar c.args.setting (start_at c.args.started.epoch c.args.started.store) c.args.started.opening.lines old.opening.lines old.epoch old.store held.runs.0 held.runs.1 new.opening.lines new.epoch new.store text next);
      setting = c.run_next.ensures.setting ∙ held.setting;
      failures = c.in-Ok-true.ensures.no_failure ∙ held.failures;
    }

pub returns-in-Ok-false-clause-ok : goal.returns-in-Ok-false-clause-ok
returns-in-Ok-false-clause-ok g c =
    let m = g.A.App.meaning in
    let show = g.A.Reply.Printed.printed in
    let grammar = g.A.Args.Operation.grammar in
    let start = start_at c.args.started.epoch c.args.started.store in
    let lines = c.args.started.opening.lines in
    let old = c.epochs.replaying in
    let new = c.run_next.new.self in
    let held = c.epochs.invariant in
    let still = c.in-Ok-false.ensures.stays c.in-Ok-false.field-0-test in
    let end = subst (λ o. IfSome o (λ lines. lines.ahead ≡ [])) (sym still.0) (c.in-Ok-false.ensures.end c.in-Ok-false.field-0-test) in
    let runs = runs_still m show grammar c.args.setting start lines old.opening.lines old.epoch old.store held.runs.0 held.runs.1 new.opening.lines new.epoch new.store still.0 still.1 still.2 in
    ok_then c.finish.result
    (λ desk is. runs_all m show grammar c.args.setting start lines new.opening.lines new.epoch new.store held.runs.0 runs end new.opening.failures new.setting (c.run_next.ensures.setting ∙ held.setting) desk is)
    c.finish.ensures.ok

pub returns-in-Ok-false-clause-any_moment : goal.returns-in-Ok-false-clause-any_moment
returns-in-Ok-false-clause-any_moment g c =
    let lines = c.args.started.opening.lines in
    let old = c.epochs.replaying in
    let new = c.run_next.new.self in
    let held = c.epochs.invariant in
    let still = c.in-Ok-false.ensures.stays c.in-Ok-false.field-0-test in
    let same = run_same g.A.Args.Operation.grammar c.args.setting.partitions held.runs.1.epochs lines old.opening.lines held.runs.1.handed in
    err_then c.finish.result (λ r stands. stands_still lines new.opening.lines (g.L.Log.told r.log) (ap (option_map all_lines) still.0 ∙ same) stands) c.finish.ensures.any_moment

pub returns-in-Err-clause-no_epoch : goal.returns-in-Err-clause-no_epoch
returns-in-Err-clause-no_epoch g c = λ is.
    let grammar = g.A.Args.Operation.grammar in
    let old = c.epochs.replaying in
    let held = c.epochs.invariant in
    let none = c.in-Err.ensures.no_epoch (sym c.stop.ensures.fault ∙ is) in
    run_no_further grammar c.args.setting.partitions held.runs.1.epochs c.args.started.opening.lines old.opening.lines held.runs.1.handed
    (subst (λ (s : Setting). IfSome old.opening.lines (λ lines. BeginsWithNoEpoch grammar s.partitions lines.ahead)) held.setting none)

pub returns-in-Err-clause-spent : goal.returns-in-Err-clause-spent
returns-in-Err-clause-spent g c = λ is.
    let old = c.epochs.replaying in
    let held = c.epochs.invariant in
    let spent = c.in-Err.ensures.spent (sym c.stop.ensures.fault ∙ is) in
    run_too_long g.A.Args.Operation.grammar c.args.setting.partitions c.args.started.epoch held.runs.1.epochs c.args.started.opening.lines old.opening.lines held.runs.1.handed (subst (λ n. MOST_EPOCHS ≤ n) held.runs.1.count spent.0) spent.1

pub returns-in-Err-clause-any_moment : goal.returns-in-Err-clause-any_moment
returns-in-Err-clause-any_moment g c =
    let old = c.epochs.replaying in
    let held = c.epochs.invariant in
    let same = run_same g.A.Args.Operation.grammar c.args.setting.partitions held.runs.1.epochs c.args.started.opening.lines old.opening.lines held.runs.1.handed in
    stands_still c.args.started.opening.lines c.run_next.new.self.opening.lines (g.L.Log.told c.stop.result.log) (c.in-Err.ensures.err ∙ same) c.stop.ensures.any_moment
