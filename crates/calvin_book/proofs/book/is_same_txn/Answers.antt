-- By the laws of arguments.
use Rattle.calvin_book.proofs.Same.{told_same}
use Rattle.calvin_book.proofs.book.is_same_txn.Goals as goal

pub returns : goal.returns
returns g c = told_same g.A.Args.PartialEq.eq g.met.A.App.args_exact g.met.A.Args.Eq.laws c.args.one.now c.args.other.now c.eq.result c.eq.ensures
