use Rattle.std.proofs.Common.{◌∙◌, ◌+◌, ◌++◌, ◌∷◌, [], ◌==◌, ap, drop, length, length-append, arith}
use Rattle.std.specs.List.{filter}
use Rattle.std.proofs.lemmas.Bool.{eq-eqb, ne_eqb}
use Rattle.calvin_types.specs.Keys.{rises}
use Rattle.calvin_types.proofs.Risings.{rises-filter, kept, passed, all_passed}
use Rattle.calvin_types.proofs.key_set.KeySet.of_table.Goals as goal
use Rattle.calvin_types.proofs.key_set.KeySet.of_table.Goals.{then-key-table, else-key-table}

pub loop-i-preserved : goal.loop-i-preserved
loop-i-preserved c = elim c.if-key-table.branch [
  | then-key-table w ↦ record {
    so_far = ap (λ xs. xs ++ filter (λ k. k.table == c.args.table) (drop (c.loop-i.i + 1) c.self.inside.keys)) (w.keys-is ∙ w.push.ensures) ∙ kept (λ k. k.table == c.args.table) c.self.inside.keys c.loop-i.keys _ c.loop-i.i c.at-key.result c.at-key.ensures c.loop-i.invariant.so_far (eq-eqb _ _ (w.if-key-table.true));
    room = omega (arith, ap length (w.keys-is ∙ w.push.ensures), length-append c.loop-i.keys (c.at-key.result ∷ []), c.loop-i.invariant.room);
  }
  | else-key-table w ↦ record {
    so_far = ap (λ xs. xs ++ filter (λ k. k.table == c.args.table) (drop (c.loop-i.i + 1) c.self.inside.keys)) w.keys-is ∙ passed (λ k. k.table == c.args.table) c.self.inside.keys c.loop-i.keys _ c.loop-i.i c.at-key.result c.at-key.ensures c.loop-i.invariant.so_far (ne_eqb _ _ (w.if-key-table.false));
    room = omega (arith, ap length w.keys-is, c.loop-i.invariant.room);
  }
]

pub invariant_of-result : goal.invariant_of-result
invariant_of-result c =
    ap rises (all_passed (λ k. k.table == c.args.table) c.self.inside.keys c.loop-i.keys c.loop-i.i (omega (arith, c.len-i-end.ensures.len)) c.loop-i.invariant.so_far)
    ∙ rises-filter (λ k. k.table == c.args.table) c.self.inside.keys c.self.invariant
