use Rattle.calvin_script.proofs.OnceKeys.{few_reads, few_writes, grown}
use Rattle.calvin_script.proofs.once.NamedStockRequestOperation.add_first_sets.Goals as goal

pub grow-requires : goal.grow-requires
grow-requires c = few_reads c.args.self.now.args c.add_first_sets.new.sets c.add_first_sets.ensures

pub grow-requires-2 : goal.grow-requires-2
grow-requires-2 c = few_writes c.args.self.now.args c.add_first_sets.new.sets c.add_first_sets.ensures

pub returns : goal.returns
returns c = grown c.args.self.now c.kept_key-key.result c.add_first_sets.new.sets c.grow.new.self c.grow-2.new.self c.kept_key-key.ensures c.add_first_sets.ensures c.grow.ensures c.grow-2.ensures
