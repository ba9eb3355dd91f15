-- There is nothing before the first packet.
use Rattle.calvin_book.proofs.Hearing.{at_first}
use Rattle.calvin_book.proofs.laws.unheard_at_first.Goals as goal

pub returns : goal.returns
returns g c = λ m log s. at_first m log s
