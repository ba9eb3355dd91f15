-- One empty list more.
use Rattle.std.proofs.Common.{[], ◌∷◌, length, length-append, refl, ap, ◌∙◌, arith}
use Rattle.calvin_histories.proofs.Finding.{all_empty, none_listed}
use Rattle.calvin_histories.proofs.senders.Senders.new.Goals as goal

pub loop-node-preserved : goal.loop-node-preserved
loop-node-preserved c = record {
  number = ap length c.in_ok-push.ensures.items ∙ length-append c.loop-node.lists.items (c.new.result ∷ []) ∙ (let e = c.loop-node.invariant.number in omega (arith, e));
  bound = (let less = c.loop-node-test.true in omega (arith, less));
  empty = all_empty c.loop-node.lists.items c.loop-node.invariant.empty c.new.result c.new.ensures c.push.new.self.items c.in_ok-push.ensures.items;
}

pub returns-clause-listed : goal.returns-clause-listed
returns-clause-listed c = (refl, none_listed c.args.config.now.partitions c.args.config.now.replicas c.loop-node.lists.items (let n = c.loop-node.invariant.number in let b = c.loop-node.invariant.bound in let past = c.loop-node-test.false in omega (arith, n, b, past)) c.loop-node.invariant.empty)
