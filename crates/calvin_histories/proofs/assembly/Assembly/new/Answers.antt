-- Nothing is taken.
use Rattle.std.proofs.Common.{sym, subst}
use Rattle.calvin_order.specs.Configs.{config_of}
use Rattle.calvin_histories.specs.Assembling.{IsBegun}
use Rattle.calvin_histories.proofs.Assembling.{begun_none}
use Rattle.calvin_histories.proofs.assembly.Assembly.new.Goals as goal

pub returns-clause-begun : goal.returns-clause-begun
returns-clause-begun g c = subst (λ log. IsBegun g.A.App.meaning log c.args.histories.now c.in_ok-taken.taken.items) (sym c.in_ok-book.ensures.ok) (begun_none g.A.App.meaning c.args.histories.now (config_of c.args.config.now g.S.Rows.points g.S.Rows.cold) c.in_ok-taken.taken.items (c.in_ok-taken.ensures.items_if_clones_equal (λ y e. e)))
