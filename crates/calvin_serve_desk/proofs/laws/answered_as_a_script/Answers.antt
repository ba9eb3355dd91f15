-- Epoch after epoch.
use Rattle.calvin_serve_desk.proofs.Scripts.{as_a_script}
use Rattle.calvin_serve_desk.proofs.laws.answered_as_a_script.Goals as goal

pub returns : goal.returns
returns g c = λ m show setting epochs. as_a_script m show setting epochs
