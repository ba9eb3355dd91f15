use Rattle.std.proofs.Common.{arith}
use Rattle.std.proofs.lemmas.Option.{slice_get_read}
use Rattle.calvin_bench.specs.Replicas.{part_of}
use Rattle.calvin_bench.proofs.RunReplicas.{part_there}
use Rattle.calvin_bench.proofs.one_replica.OneReplica.rows.Goals as goal

pub returns : goal.returns
returns g c =
    let there = slice_get_read c.self.inside.partitions.items c.len.result c.args.partition c.index.result.now (omega (arith, c.len.ensures, c.self.inside.partitions.ok)) c.if-at-len.false c.index.ensures in
    (part_of c.index.result.now, part_there g.A.App.meaning g.met.A.App.lawful.writes_within_the_sets c.self.inside.count c.self.inside.order.items c.self.inside.partitions.items c.self.invariant c.args.self.now c.self.view_is c.args.partition c.index.result.now there, c.rows.ensures)
