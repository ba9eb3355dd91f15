use Rattle.std.proofs.Common.{arith, ap}
use Rattle.std.specs.FinMap as finmap
use Rattle.calvin_app.proofs.Views.{len-insert-le}
use Rattle.calvin_once.proofs.inside.put_inner.Goals as goal

pub put-requires : goal.put-requires
put-requires g c = omega (arith, c.requires, len-insert-le c.args.rows.now c.args.key c.in-Row.row)

pub returns-clause-few : goal.returns-clause-few
returns-clause-few g c = omega (arith, ap finmap.len c.put.ensures, len-insert-le c.args.rows.now c.args.key c.in-Row.row)
