use Rattle.std.proofs.Common.{length, take, ap, ◌∙◌}
use Rattle.std.proofs.Math.Seq.{take-append_seam}
use Rattle.calvin_node_packets.proofs.Copies.{one_more_sent}
use Rattle.calvin_node_packets.proofs.outbox.Outbox.post_to_all.Goals as goal

pub returns-in_err-post_copy-clause-kept : goal.returns-in_err-post_copy-clause-kept
returns-in_err-post_copy-clause-kept g c = ap (λ ps. take (length c.args.self.now.packets) ps) (c.in_err-post_copy.ensures.err ∙ c.loop-replica.invariant) ∙ take-append_seam c.args.self.now.packets _

pub loop-replica-preserved : goal.loop-replica-preserved
loop-replica-preserved g c = one_more_sent _ _ _ _ _ _ c.loop-replica.invariant c.in_ok-post_copy.ensures.sent
