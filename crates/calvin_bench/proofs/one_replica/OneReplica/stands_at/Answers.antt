use Rattle.std.proofs.Common.{arith}
use Rattle.std.proofs.lemmas.Option.{slice_get_read}
use Rattle.calvin_bench.proofs.RunReplicas.{stands_again, serial_again}
use Rattle.calvin_bench.proofs.one_replica.OneReplica.stands_at.Goals as goal

pub returns-clause-stands : goal.returns-clause-stands
returns-clause-stands g c =
    let there = slice_get_read c.self.inside.partitions.items c.len.result c.args.partition c.index.result.now (omega (arith, c.len.ensures, c.self.inside.partitions.ok)) c.if-at-len.false c.index.ensures in
    stands_again g.A.App.meaning g.met.A.App.lawful.writes_within_the_sets c.self.inside.count c.self.inside.order.items c.self.inside.partitions.items c.self.invariant c.args.self.now c.self.view_is c.args.partition c.index.result.now there c.due_is.ensures c.stands_at.result c.stands_at.ensures

pub returns-clause-serial : goal.returns-clause-serial
returns-clause-serial g c =
    let there = slice_get_read c.self.inside.partitions.items c.len.result c.args.partition c.index.result.now (omega (arith, c.len.ensures, c.self.inside.partitions.ok)) c.if-at-len.false c.index.ensures in
    serial_again g.A.App.meaning g.met.A.App.lawful.writes_within_the_sets c.self.inside.count c.self.inside.order.items c.self.inside.partitions.items c.self.invariant c.args.self.now c.self.view_is c.args.partition c.index.result.now there c.due_is.ensures c.stands_at.result c.stands_at.ensures
