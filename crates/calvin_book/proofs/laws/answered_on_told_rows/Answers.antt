-- Its reply is that of the serial run, and it stands in later epochs.
use Rattle.calvin_book.proofs.Ran.{ran_at}
use Rattle.calvin_book.proofs.laws.answered_on_told_rows.Goals as goal

pub returns : goal.returns
returns g c = λ k events w run a is only B chosen. ran_at _ g.met.A.App.lawful.writes_within_the_sets events k w run a is only B chosen
