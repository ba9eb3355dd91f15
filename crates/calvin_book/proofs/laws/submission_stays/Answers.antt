-- What stood there stands there.
use Rattle.calvin_book.proofs.Growth.{submission_kept}
use Rattle.calvin_book.proofs.laws.submission_stays.Goals as goal

pub returns : goal.returns
returns g c = λ m k xs more s is. submission_kept m k xs more s is
