-- One packet more has its name; in the end all have.
use Rattle.std.proofs.Common.{ℕ, ◌+◌, ◌<◌, ◌≤◌, [], ◌∷◌, length, take, length-append, sym, ap, subst, ◌∙◌, arith}
use Rattle.std.proofs.lemmas.List.{length-map, length-take-le}
use Rattle.calvin_types.specs.declared.place.NodeId.{NodeId}
use Rattle.calvin_node_packets.specs.declared.packet.Packet.{Packet}
use Rattle.calvin_histories.specs.Positions.{AreListed, IsListed, next_name, senders_of}
use Rattle.calvin_world.proofs.Named.{packet_from}
use Rattle.calvin_histories.proofs.Finding.{take_sender}
use Rattle.calvin_histories.proofs.Naming.{is_listed, AreNamedTo, named_more, named_all}
use Rattle.calvin_histories.proofs.opening.names_of.Goals as goal

pub next_name-requires : goal.next_name-requires
next_name-requires g c =
    let sent = packet_from c.args.packets.now.packets c.loop-number.number c.sender-sender.result c.sender-sender.ensures in
    let there = c.requires.there c.loop-number.number sent.0 sent.1 in
    subst (λ (id : NodeId). IsListed c.loop-number.senders.partitions c.loop-number.senders.lists.items id) sent.2
    (subst (λ (parts : ℕ). IsListed parts c.loop-number.senders.lists.items sent.0.from) (sym c.loop-number.invariant.partitions)
    (is_listed c.args.config.now.replicas c.args.config.now.partitions c.loop-number.senders.lists.items c.loop-number.invariant.lists sent.0.from there.0 there.1))

pub loop-number-preserved : goal.loop-number-preserved
loop-number-preserved g c =
    let packets = c.args.packets.now.packets in
    let senders = senders_of packets in
    let n = c.loop-number.number in
    let within = subst (λ (k : ℕ). n < k) c.len-number-end.ensures c.loop-number-test.true in
    let sent = packet_from packets n c.sender-sender.result c.sender-sender.ensures in
    let long : n ≤ length senders = (let e = length-map packets (λ (p : Packet g.row.A-Args.Denot g.row.A-Row.Denot g.row.A-Reply.Denot). p.from) in omega (arith, within, e)) in
    let same = c.in_ok-note.ensures.same in
    let name = c.next_name.ensures (take n senders) c.loop-number.invariant.listed in
    record {
      partitions = same.0 ∙ c.loop-number.invariant.partitions;
      lists = same.1 ∙ c.loop-number.invariant.lists;
      listed = subst (λ (parts : ℕ). AreListed parts c.note.new.self.lists.items (take (n + 1) senders)) (sym same.0)
          (subst (λ ids. AreListed c.loop-number.senders.partitions c.note.new.self.lists.items ids) (sym (take_sender packets n c.sender-sender.result c.sender-sender.ensures)) (c.in_ok-note.ensures.listed (take n senders) (length-take-le n senders long) c.loop-number.invariant.listed));
      long = ap length c.in_ok-push.ensures.items ∙ length-append c.loop-number.names.items (c.next_name.result ∷ []) ∙ (let e = c.loop-number.invariant.long in omega (arith, e));
      named = subst (λ names. AreNamedTo packets names (n + 1)) (sym c.in_ok-push.ensures.items)
          (named_more packets c.loop-number.names.items n c.loop-number.invariant.long c.loop-number.invariant.named sent.0 sent.1 c.next_name.result (name ∙ ap (λ (id : NodeId). next_name (take n senders) id) (sym sent.2)));
    }

pub returns-clause-names : goal.returns-clause-names
returns-clause-names g c = named_all c.args.packets.now.packets c.loop-number.names.items c.loop-number.number (subst (λ (k : ℕ). k ≤ c.loop-number.number) c.len-number-end.ensures c.loop-number-test.false) c.loop-number.invariant.named
