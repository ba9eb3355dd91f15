use Rattle.std.proofs.Common.{arith, length-drop, ◌∙◌}
use Rattle.std.proofs.lemmas.List.{take_rest}
use Rattle.calvin_edge.proofs.Bytes.{appends_next}
use Rattle.calvin_edge.proofs.writing.write_all.Goals as goal

pub loop-out-preserved : goal.loop-out-preserved
loop-out-preserved g c = record {
  within = omega (arith, simp (take_rest, length-drop) at c.in_ok-n.ensures.bound);
  bytes = appends_next _ _ _ _ _ _ c.loop-out.invariant.bytes c.in_ok-n.ensures.bytes;
  no_failure = c.in_ok-n.ensures.counts_no_success (omega arith) ∙ c.loop-out.invariant.no_failure;
}
