-- The packet that came is the entry.
use Rattle.std.proofs.Common.{sym, subst}
use Rattle.calvin_histories.specs.declared.entry.Entry.{Entry}
use Rattle.calvin_histories.specs.Locked.{IsNoEntry}
use Rattle.calvin_histories.proofs.opening.live_on.Goals as goal

pub returns-in-Err-clause-only : goal.returns-in-Err-clause-only
returns-in-Err-clause-only g c = subst (λ (entry : Entry g.row.A-Args.Denot g.row.A-Row.Denot g.row.A-Reply.Denot). IsNoEntry g.A.App.meaning c.args.node.now entry c.in-Err.fault) (sym c.in-Came.is) c.in-Err.ensures.only
