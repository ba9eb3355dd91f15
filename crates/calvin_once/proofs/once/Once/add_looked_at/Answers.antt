use Rattle.std.proofs.Common.{sym}
use Rattle.calvin_once.specs.Once.{inside}
use Rattle.calvin_once.proofs.once.Once.add_looked_at.Goals as goal

pub returns-else-dependent : goal.returns-else-dependent
returns-else-dependent g c = g.met.A.App.lawful.independent_sets_are_fixed c.args.args.now c.args.seen.now (inside g.A.App.table_limit c.args.view.now) (sym c.if-dependent.ensures)
