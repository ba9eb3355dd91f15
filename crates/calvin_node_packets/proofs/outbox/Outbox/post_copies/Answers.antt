use Rattle.std.proofs.Common.{◌≤◌, ◌++◌, length, take, ap, subst, ◌∙◌}
use Rattle.std.proofs.lemmas.List.{take_all}
use Rattle.std.proofs.Math.Seq.{take-append_seam}
use Rattle.calvin_node_packets.specs.Packets.{to_each}
use Rattle.calvin_node_packets.proofs.Copies.{each_more_sent}
use Rattle.calvin_node_packets.proofs.outbox.Outbox.post_copies.Goals as goal

pub returns-in_err-post_copy-clause-kept : goal.returns-in_err-post_copy-clause-kept
returns-in_err-post_copy-clause-kept g c = ap (λ ps. take (length c.args.self.now.packets) ps) (c.in_err-post_copy.ensures.err ∙ c.loop-i.invariant) ∙ take-append_seam c.args.self.now.packets _

pub loop-i-preserved : goal.loop-i-preserved
loop-i-preserved g c = each_more_sent _ _ _ _ _ _ _ _ _ c.at.ensures c.loop-i.invariant c.in_ok-post_copy.ensures.sent

pub returns-clause-sent : goal.returns-clause-sent
returns-clause-sent g c = c.loop-i.invariant ∙ ap (λ ps. c.args.self.now.packets ++ to_each c.args.from c.args.replica c.args.content.now ps) (take_all c.loop-i.i c.args.partitions.now (subst (λ n. n ≤ c.loop-i.i) c.len-i-end.ensures.len c.loop-i-test.false))

pub returns-clause-kept : goal.returns-clause-kept
returns-clause-kept g c = ap (λ ps. take (length c.args.self.now.packets) ps) c.loop-i.invariant ∙ take-append_seam c.args.self.now.packets _
