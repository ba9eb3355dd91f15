-- The first packets stay the first ones.
use Rattle.calvin_book.proofs.Growth.{unheard_kept}
use Rattle.calvin_book.proofs.laws.unheard_stays.Goals as goal

pub returns : goal.returns
returns g c = λ m k xs more s event from unheard. unheard_kept m k xs more s event from unheard
