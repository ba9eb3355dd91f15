use Rattle.std.proofs.Common.{◌++◌, ◌∷◌, [], sym, ap, ◌∙◌, take, append_assoc}
use Rattle.calvin_types.proofs.Fews.{take_at}
use Rattle.calvin_lock.proofs.kept_sets.push_all.Goals as goal

pub loop-i-preserved : goal.loop-i-preserved
loop-i-preserved c =
    let keys = c.args.keys.now in
    record {
      items = c.push_reserved.ensures.items ∙ ap (λ xs. xs ++ c.at.result ∷ []) c.loop-i.invariant.items
          ∙ append_assoc c.args.all.now.items (take c.loop-i.i keys) (c.at.result ∷ []) ∙ ap (λ xs. c.args.all.now.items ++ xs) (sym (take_at keys c.loop-i.i c.at.result c.at.ensures));
      capacity = c.push_reserved.ensures.capacity ∙ c.loop-i.invariant.capacity;
    }
