use Rattle.std.proofs.Common.{◌≡◌, ◌+◌, ◌≤◌, true, length, IsOkUnless, Err, sym, ap, subst, ◌∙◌}
use Rattle.std.proofs.lemmas.Result.{err_from_is_err_and}
use Rattle.calvin_types.specs.declared.fault.Fault.TheVariants.{OutOfMemory}
use Rattle.calvin_types.specs.declared.limits.TheConstants.{MOST_UNDECIDED}
use Rattle.calvin_script.specs.Scripts.{all_listed, are_taken}
use Rattle.calvin_sim.specs.Simulations.{submitting}
use Rattle.calvin_sim.proofs.Opened.{group_open}
use Rattle.calvin_run.specs.Growing.{IsGrown}
use Rattle.calvin_run.proofs.Growing.{world_of, grown_none}
use Rattle.calvin_run.proofs.Submitted.{group_more}
use Rattle.calvin_run.proofs.submitting.submit_epoch.Goals as goal

pub loop-group-init : goal.loop-group-init
loop-group-init g c = grown_none g.A.App.meaning c.args.book.now

pub returns-in_err-submit_batch-clause-only : goal.returns-in_err-submit_batch-clause-only
returns-in_err-submit_batch-clause-only g c = λ n e opened taken room early.
    let m = g.A.App.meaning in
    let h = c.loop-group.group in
    let less = c.loop-group-test.true in
    let these = sym c.requests_of.ensures.requests in
    let refused = err_from_is_err_and c.from_residual.result c.from_residual.ensures.1 in
    let now = group_open m c.args.partitions (all_listed c.args.epoch.now) n e (world_of m c.args.book.now) (world_of m c.loop-group.book) h less opened c.loop-group.invariant.takes in
    subst (λ r. IsOkUnless r OutOfMemory) (sym (refused.1 ∙ ap Err refused.2))
    (c.in_err-submit_batch.ensures.only (n h) e now (subst (λ l. are_taken l ≡ true) these (taken h less)) (subst (λ l. n h + length l ≤ MOST_UNDECIDED) these (room h less)) early)

pub loop-group-preserved : goal.loop-group-preserved
loop-group-preserved g c =
    group_more g.A.App.meaning (all_listed c.args.epoch.now) c.loop-group.group c.args.book.now c.loop-group.book c.submit_batch.new.book c.loop-group.invariant
    (subst (λ l. IsGrown g.A.App.meaning c.loop-group.book (submitting c.loop-group.group l) c.submit_batch.new.book) c.requests_of.ensures.requests c.in_ok-submit_batch.ensures.ok)
