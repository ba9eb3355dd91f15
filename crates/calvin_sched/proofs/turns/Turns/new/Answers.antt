use Rattle.std.proofs.Common.{ap, ◌∙◌}
use Rattle.calvin_sched.specs.Seating.{seated}
use Rattle.calvin_sched.proofs.Seatings.{seated_none}
use Rattle.calvin_sched.proofs.turns.Turns.new.Goals as goal

pub returns : goal.returns
returns g c =
    let kept = ap seated c.new.ensures.items ∙ seated_none in
    λ i. record { kept = kept i; room = 0 }
