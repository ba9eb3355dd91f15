use Rattle.std.proofs.Common.{IsOkUnless, Err, sym, ap, subst, ◌∙◌}
use Rattle.std.proofs.lemmas.Result.{err_from_is_err_and}
use Rattle.calvin_types.specs.declared.fault.Fault.TheVariants.{OutOfMemory}
use Rattle.calvin_sim.proofs.Submitted.{one_more, batch_done, request_only, batch_only}
use Rattle.calvin_sim.proofs.submitting.submit_batch.Goals as goal

pub returns-in_err-step-clause-only : goal.returns-in_err-step-clause-only
returns-in_err-step-clause-only g c = λ n e o taken room early.
    let refused = err_from_is_err_and c.from_residual.result c.from_residual.ensures.1 in
    subst (λ r. IsOkUnless r OutOfMemory) (sym (refused.1 ∙ ap Err refused.2))
    (request_only g.A.App.meaning c.args.group c.args.requests.now c.loop-request.request-index c.request-item.result c.args.world.now c.loop-request.world c.step.new.self c.sequencer_of-id.result c.txn.result c.in_err-step.field-0.0
    c.loop-request-test.true c.request-item.is c.sequencer_of-id.ensures c.txn.ensures c.loop-request.invariant c.in_err-step.ensures.step n e o taken room)

pub loop-request-preserved : goal.loop-request-preserved
loop-request-preserved g c =
    one_more g.A.App.meaning c.args.group c.args.requests.now c.loop-request.request-index c.request-item.result c.args.world.now c.loop-request.world c.step.new.self c.sequencer_of-id.result c.txn.result
    c.loop-request-test.true c.request-item.is c.sequencer_of-id.ensures c.txn.ensures c.loop-request.invariant c.in_ok-step.ensures.step

pub returns-clause-done : goal.returns-clause-done
returns-clause-done g c =
    batch_done g.A.App.meaning c.args.group c.args.requests.now c.loop-request.request-index c.args.world.now c.loop-request.world c.step-2.new.self c.sequencer_of-id.result c.step-2.result
    c.loop-request-test.false c.sequencer_of-id.ensures c.loop-request.invariant c.step-2.ensures.step

pub returns-clause-only : goal.returns-clause-only
returns-clause-only g c = λ n e o taken room early.
    batch_only g.A.App.meaning c.args.group c.args.requests.now c.loop-request.request-index c.args.world.now c.loop-request.world c.step-2.new.self c.sequencer_of-id.result c.step-2.result
    c.sequencer_of-id.ensures c.loop-request.invariant c.step-2.ensures.step n e o early
