-- It was submitted once, and in time.
use Rattle.calvin_book.proofs.Told.{its_own}
use Rattle.calvin_book.proofs.laws.stands_after_told.Goals as goal

pub returns : goal.returns
returns g c = λ k events w run s is only told told_is B n chosen r t stands same_id same_attempt. (its_own _ g.met.A.App.lawful.writes_within_the_sets events k w run s is only B n chosen r t stands same_id same_attempt).1 told told_is
