use Rattle.std.proofs.Common.{◌≡◌, ◌+◌, ◌++◌, ◌∷◌, [], take, subst, sym, ap, ◌∙◌, arith}
use Rattle.std.specs.List.{list_any}
use Rattle.std.proofs.lemmas.List.{length-set}
use Rattle.calvin_types.proofs.Fews.{take_at}
use Rattle.calvin_sched.specs.Sites.{IsLeastOf}
use Rattle.calvin_sched.proofs.Alone.{at}
use Rattle.calvin_sched.proofs.Marks.{least_of_one, marked_more}
use Rattle.calvin_sched.proofs.sites.storers_of.Goals as goal

pub loop-i-preserved : goal.loop-i-preserved
loop-i-preserved c =
    let P = c.args.config.now.partitions in
    let before = take c.loop-i.i c.args.keys.now in
    let more : before ++ c.at.result ∷ [] ≡ take (c.loop-i.i + 1) c.args.keys.now = sym (take_at c.args.keys.now c.loop-i.i c.at.result c.at.ensures) in
    record {
      stores = λ p h. marked_more P before c.at.result c.partition_of-partition.result c.partition_of-partition.ensures.partition c.loop-i.stores (omega arith) c.loop-i.invariant.stores p h ∙ ap (list_any (at P p)) more;
      least = subst (λ ks. IsLeastOf P ks c.lesser-least.result) more
          (c.lesser-least.ensures P before (c.at.result ∷ []) c.loop-i.invariant.least (least_of_one P c.at.result c.partition_of-partition.result c.partition_of-partition.ensures.partition c.partition_of-partition.ensures.there));
      size = length-set c.loop-i.stores c.partition_of-partition.result _ ∙ c.loop-i.invariant.size;
    }
