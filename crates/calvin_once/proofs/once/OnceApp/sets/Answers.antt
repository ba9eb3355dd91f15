use Rattle.std.proofs.Common.{length, ap, arith}
use Rattle.calvin_types.specs.declared.key_set.Sets.{Sets}
use Rattle.calvin_once.proofs.Inner.{few_keys}
use Rattle.calvin_once.proofs.once.OnceApp.sets.Goals as goal

pub grow-requires : goal.grow-requires
grow-requires g c = omega (arith, ap (λ (s : Sets). length s.reads) c.sets-sets.ensures, (g.met.A.App.lawful.bounded_reads c.args.args.now.args c.add_looked_at.new.seen).number, few_keys g.A.App.key_limit g.A.App.table_limit c.args.self.now.narrow)

pub grow-requires-2 : goal.grow-requires-2
grow-requires-2 g c = omega (arith, ap (λ (s : Sets). length s.writes) c.sets-sets.ensures, (g.met.A.App.lawful.bounded_writes c.args.args.now.args c.add_looked_at.new.seen).number, few_keys g.A.App.key_limit g.A.App.table_limit c.args.self.now.narrow)
