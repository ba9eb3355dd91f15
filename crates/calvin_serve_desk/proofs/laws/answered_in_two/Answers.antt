-- Part after part.
use Rattle.calvin_serve_desk.proofs.Parts.{in_two}
use Rattle.calvin_serve_desk.proofs.laws.answered_in_two.Goals as goal

pub returns : goal.returns
returns g c = λ m show setting e rows first rest. in_two m show setting e rows first rest
