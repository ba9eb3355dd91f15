-- A packet of another name is passed over.
use Rattle.std.proofs.Common.{◌≡◌, ℕ, ◌+◌, ◌≤◌, true, false, sym, ap, ◌∙◌, subst}
use Rattle.calvin_node_packets.specs.Packets.{same_node}
use Rattle.calvin_types.specs.declared.place.NodeId.{NodeId}
use Rattle.calvin_world.proofs.Named.{Counted, packet_from, other_sender, other_number, is_named, none_of_all}
use Rattle.calvin_world.proofs.naming.number_of.Goals.{then-eq+else-before-name, else-eq}
use Rattle.calvin_world.proofs.naming.number_of.Goals as goal

pub returns-then-before-name : goal.returns-then-before-name
returns-then-before-name g c =
    let sent = packet_from c.args.packets.now.packets c.loop-at.at c.sender.result c.sender.ensures in
    is_named c.args.packets.now.packets c.args.name c.loop-at.at c.loop-at.before c.loop-at.invariant sent.0 sent.1 (ap (λ (id : NodeId). same_node id c.args.name.sender) sent.2 ∙ sym c.eq.ensures ∙ c.if-eq.true) c.if-before-name.true

pub loop-at-preserved : goal.loop-at-preserved
loop-at-preserved g c =
    let packets = c.args.packets.now.packets in
    let sent = packet_from packets c.loop-at.at c.sender.result c.sender.ensures in
    let named = ap (λ (id : NodeId). same_node id c.args.name.sender) sent.2 ∙ sym c.eq.ensures in
    elim c.if-eq.branch [
      | then-eq+else-before-name w ↦ subst (Counted packets c.args.name (c.loop-at.at + 1)) (sym w.before-is)
          (other_number packets c.args.name c.loop-at.at c.loop-at.before c.loop-at.invariant sent.0 sent.1 (named ∙ w.if-eq.true) w.if-before-name.false)
      | else-eq w ↦ subst (Counted packets c.args.name (c.loop-at.at + 1)) (sym w.before-is)
          (other_sender packets c.args.name c.loop-at.at c.loop-at.before c.loop-at.invariant sent.0 sent.1 (named ∙ w.if-eq.false))
    ]

pub returns : goal.returns
returns g c = none_of_all c.args.packets.now.packets c.args.name c.loop-at.at c.loop-at.before c.loop-at.invariant (subst (λ (n : ℕ). n ≤ c.loop-at.at) c.len-at-end.ensures c.loop-at-test.false)
