use Rattle.std.proofs.Common.{refl}
use Rattle.calvin_serial.proofs.Texts.{text_reads}
use Rattle.calvin_serial.proofs.engine.text_for.Goals as goal

pub returns : goal.returns
returns g c = text_reads c.text_of-text.result _ _ refl c.text_of-text.ensures.text c.text_of-text.ensures.only
