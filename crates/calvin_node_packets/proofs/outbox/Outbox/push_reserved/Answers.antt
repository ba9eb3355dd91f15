use Rattle.std.proofs.Common.{◌++◌, [], ◌∷◌, ap, ◌∙◌}
use Rattle.calvin_node_packets.proofs.KeptPackets.{pushed_kept, pushed_packets}
use Rattle.calvin_node_packets.proofs.outbox.Outbox.push_reserved.Goals as goal

pub invariant_of-self : goal.invariant_of-self
invariant_of-self g c = pushed_kept _ _ _ _ c.args.packet _ c.self.invariant c.store-content.ensures.kept c.store-content.ensures.lists c.push_reserved.ensures.items

pub returns-clause-packets : goal.returns-clause-packets
returns-clause-packets g c =
    pushed_packets _ _ _ _ c.args.packet _ c.self.invariant c.store-content.ensures.kept c.store-content.ensures.lists c.push_reserved.ensures.items
    ∙ ap (λ v. v.packets ++ c.args.packet ∷ []) c.self.view_is
