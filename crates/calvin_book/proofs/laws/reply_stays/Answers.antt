-- The first reply stays first.
use Rattle.calvin_book.proofs.Growth.{answer_kept}
use Rattle.calvin_book.proofs.laws.reply_stays.Goals as goal

pub returns : goal.returns
returns g c = λ m k xs more a is. answer_kept m k xs more a is
