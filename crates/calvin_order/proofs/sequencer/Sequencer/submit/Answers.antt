use Rattle.calvin_order.proofs.KeptRoom.{kept_all, kept_queue, where_refused}
use Rattle.calvin_order.proofs.sequencer.Sequencer.submit.Goals as goal

pub returns-in_err-check_submit-clause-room : goal.returns-in_err-check_submit-clause-room
returns-in_err-check_submit-clause-room g c = where_refused c.from_residual.result _ (kept_all c.args.self.now)

pub returns-in_err-reserve_submit-clause-room : goal.returns-in_err-reserve_submit-clause-room
returns-in_err-reserve_submit-clause-room g c = where_refused c.from_residual-in_err-reserve_submit.result _ (kept_queue c.args.self.now c.reserve_submit.new.self c.in_err-reserve_submit.ensures.same c.in_err-reserve_submit.ensures.kept)
