use Rattle.std.proofs.Common.{◌-◌, length, take, ap, ◌∙◌}
use Rattle.calvin_node_packets.proofs.KeptPackets.{last_below, popped_kept, popped_packets}
use Rattle.calvin_node_packets.proofs.outbox.Outbox.drop_last.Goals as goal

pub cut-requires : goal.cut-requires
cut-requires g c = let items = c.in-Some.ensures.items in last_below _ _ _ (record { rows = c.self.inside.rows.views; sets = c.self.inside.sets.items; answers = c.self.inside.answers.items }) _ c.self.invariant items

pub invariant_of-self-2 : goal.invariant_of-self-2
invariant_of-self-2 g c = let items = c.in-Some.ensures.items in popped_kept _ _ _ _ _ c.self.invariant items c.cut.ensures.lists

pub returns-clause-packets : goal.returns-clause-packets
returns-clause-packets g c =
    let items = c.in-Some.ensures.items in
    popped_packets _ _ _ _ _ c.self.invariant items c.cut.ensures.lists
    ∙ ap (λ v. take (length v.packets - 1) v.packets) c.self.view_is
