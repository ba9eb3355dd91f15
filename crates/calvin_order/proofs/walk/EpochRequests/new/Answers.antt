use Rattle.std.proofs.Common.{[], ◌∙◌}
use Rattle.calvin_order.specs.Walking.{left_of}
use Rattle.calvin_order.proofs.Walks.{all_left}
use Rattle.calvin_order.proofs.walk.EpochRequests.new.Goals as goal

pub returns : goal.returns
returns g c =
    let B = g.S.BatchSource.assignment c.args.source.now in
    let parts = c.args.config.now.partitions in
    (λ i. left_of B (record { epoch = c.args.epoch; group = 0 }) parts (c.turns_in.ensures.woven i) 0 [] (c.turns_in.ensures.waiting i)) ∙ all_left B _ c.args.epoch parts
