use Rattle.std.proofs.Common.{◌≡◌, ℕ, ◌≤◌, ◌++◌, ◌∷◌, [], not, ◌&&◌, length, length-append, sym, ap, ◌∙◌, arith}
use Rattle.calvin_sched.proofs.Partitions.{one_more, none_more}
use Rattle.std.specs.Prelude.{◌==◌}
use Rattle.std.specs.List.{filter, range_with_len}
use Rattle.calvin_sched.specs.Keeping.{awaits_at}
use Rattle.calvin_sched.specs.Scheduling.{turn_at}
use Rattle.calvin_node_acts.specs.NodeStates.{site_of}
use Rattle.calvin_node_acts.proofs.Asks.{awaited_is}
use Rattle.calvin_node.proofs.node.Node.awaited_from.Goals as goal
use Rattle.calvin_node.proofs.node.Node.awaited_from.Goals.{then-is_awaited, else-is_awaited}

between : (i n : ℕ) → i ≤ n → n ≤ i → i ≡ n
between i n low high = omega (arith, low, high)

pub loop-other-preserved : goal.loop-other-preserved
loop-other-preserved g c = elim c.if-is_awaited.branch [
  | then-is_awaited w ↦ record {
    so_far = w.awaited-is ∙ w.push.ensures ∙ ap (λ xs. xs ++ c.loop-other.other ∷ []) c.loop-other.invariant.so_far ∙ sym (one_more _ c.loop-other.other (sym c.is_awaited.ensures ∙ w.if-is_awaited.true));
    number = omega (arith, ap length (w.awaited-is ∙ w.push.ensures), length-append c.loop-other.awaited (c.loop-other.other ∷ []), c.loop-other.invariant.number);
  }
  | else-is_awaited w ↦ record {
    so_far = w.awaited-is ∙ c.loop-other.invariant.so_far ∙ sym (none_more _ c.loop-other.other (sym c.is_awaited.ensures ∙ w.if-is_awaited.false));
    number = omega (arith, ap length w.awaited-is, c.loop-other.invariant.number);
  }
]

pub returns : goal.returns
returns g c =
    let n = c.args.self.now in
    let turn = turn_at n.state.scheduler c.args.place in
    c.loop-other.invariant.so_far
    ∙ ap (λ k. filter (λ q. not (q == n.state.id.partition) && awaits_at (site_of n.config.partitions n.state) turn q) (range_with_len 0 k)) (between c.loop-other.other c.config.result.now.partitions c.loop-other.auto.other-end c.loop-other-test.false ∙ c.config.ensures.partitions ∙ ap (λ v. v.config.partitions) c.self.view_is)
    ∙ awaited_is n.config n.state turn
