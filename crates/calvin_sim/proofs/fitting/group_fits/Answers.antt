use Rattle.std.proofs.Common.{length, ap, sym, ◌∙◌}
use Rattle.calvin_sim.proofs.Rooms.{too_many, still_room}
use Rattle.calvin_sim.proofs.fitting.group_fits.Goals as goal

pub returns-then-number-left : goal.returns-then-number-left
returns-then-number-left g c =
    sym (too_many c.args.group c.args.epochs.now c.loop-epoch.epoch-index c.epoch-item.result c.loop-epoch-test.true c.epoch-item.is (length c.requests_of-number.result.now) c.loop-epoch.left
    (ap length c.requests_of-number.ensures.requests) c.if-number-left.true) ∙ c.loop-epoch.invariant

pub loop-epoch-preserved : goal.loop-epoch-preserved
loop-epoch-preserved g c =
    still_room c.args.group c.args.epochs.now c.loop-epoch.epoch-index c.epoch-item.result c.loop-epoch-test.true c.epoch-item.is (length c.requests_of-number.result.now) c.loop-epoch.left
    (ap length c.requests_of-number.ensures.requests) c.if-number-left.false ∙ c.loop-epoch.invariant
