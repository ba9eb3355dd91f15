use Rattle.std.proofs.Common.{IsOkUnless, Err, sym, ap, subst, ◌∙◌}
use Rattle.std.proofs.lemmas.Result.{err_from_is_err_and}
use Rattle.calvin_types.specs.declared.fault.Fault.TheVariants.{OutOfMemory}
use Rattle.calvin_run.proofs.Growing.{grown_none}
use Rattle.calvin_run.proofs.Submitted.{one_more, batch_done, request_only, batch_only}
use Rattle.calvin_run.proofs.submitting.submit_batch.Goals as goal

pub loop-request-init : goal.loop-request-init
loop-request-init g c = grown_none g.A.App.meaning c.args.book.now

pub returns-in_err-apply-clause-only : goal.returns-in_err-apply-clause-only
returns-in_err-apply-clause-only g c = λ n e o taken room early.
    let refused = err_from_is_err_and c.from_residual.result c.from_residual.ensures.1 in
    subst (λ r. IsOkUnless r OutOfMemory) (sym (refused.1 ∙ ap Err refused.2))
    (request_only g.A.App.meaning c.args.group c.args.requests.now c.loop-request.request-index c.request-item.result c.args.book.now c.loop-request.book c.sequencer_of-id.result c.txn.result c.in_err-apply.field-0.0
    c.loop-request-test.true c.request-item.is c.sequencer_of-id.ensures c.txn.ensures c.loop-request.invariant (c.apply.ensures.only c.in_err-apply.field-0.0 c.in_err-apply.was) n e o taken room)

pub loop-request-preserved : goal.loop-request-preserved
loop-request-preserved g c =
    one_more g.A.App.meaning c.args.group c.args.requests.now c.loop-request.request-index c.request-item.result c.args.book.now c.loop-request.book c.apply.new.self c.sequencer_of-id.result c.txn.result
    c.loop-request-test.true c.request-item.is c.sequencer_of-id.ensures c.txn.ensures c.loop-request.invariant c.in_ok-apply.ensures.ok

pub returns-clause-ok : goal.returns-clause-ok
returns-clause-ok g c =
    batch_done g.A.App.meaning c.args.group c.args.requests.now c.loop-request.request-index c.args.book.now c.loop-request.book c.apply-2.new.self c.sequencer_of-id.result c.apply-2.result
    c.loop-request-test.false c.sequencer_of-id.ensures c.loop-request.invariant c.apply-2.ensures.ok

pub returns-clause-only : goal.returns-clause-only
returns-clause-only g c = λ n e o taken room early.
    batch_only g.A.App.meaning c.args.group c.args.requests.now c.loop-request.request-index c.args.book.now c.loop-request.book c.sequencer_of-id.result c.apply-2.result
    c.sequencer_of-id.ensures c.loop-request.invariant c.apply-2.ensures.only n e o early
