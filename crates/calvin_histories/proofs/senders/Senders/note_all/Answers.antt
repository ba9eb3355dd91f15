-- One packet more is listed; in the end all are.
use Rattle.std.proofs.Common.{ℕ, ◌+◌, ◌<◌, ◌≤◌, length, take, sym, subst, ◌∙◌, arith}
use Rattle.std.proofs.lemmas.List.{length-map, length-take-le, take_all}
use Rattle.calvin_node_packets.specs.declared.packet.Packet.{Packet}
use Rattle.calvin_histories.specs.Positions.{AreListed, senders_of}
use Rattle.calvin_histories.proofs.Finding.{take_sender}
use Rattle.calvin_histories.proofs.senders.Senders.note_all.Goals as goal

pub loop-number-preserved : goal.loop-number-preserved
loop-number-preserved g c = record {
  partitions = c.in_ok-note.ensures.same.0 ∙ c.loop-number.invariant.partitions;
  listed = λ listed.
      let senders = senders_of c.args.packets.now.packets in
      let n = c.loop-number.number in
      let within = subst (λ (k : ℕ). n < k) c.len-number-end.ensures c.loop-number-test.true in
      let long : n ≤ length senders = (let e = length-map c.args.packets.now.packets (λ (p : Packet g.row.A-Args.Denot g.row.A-Row.Denot g.row.A-Reply.Denot). p.from) in omega (arith, within, e)) in
      let more = c.in_ok-note.ensures.listed (take n senders) (length-take-le n senders long) (c.loop-number.invariant.listed listed) in
      subst (λ (parts : ℕ). AreListed parts c.note.new.self.lists.items (take (n + 1) senders)) (sym c.in_ok-note.ensures.same.0)
      (subst (λ ids. AreListed c.loop-number.self.partitions c.note.new.self.lists.items ids) (sym (take_sender c.args.packets.now.packets n c.sender.result c.sender.ensures)) more);
}

pub returns-clause-listed : goal.returns-clause-listed
returns-clause-listed g c = λ listed. (
  c.len-self.ensures,
  subst (λ ids. AreListed c.loop-number.self.partitions c.loop-number.self.lists.items ids)
      (take_all c.loop-number.number (senders_of c.args.packets.now.packets) (let past = subst (λ (k : ℕ). k ≤ c.loop-number.number) c.len-number-end.ensures c.loop-number-test.false in let e = length-map c.args.packets.now.packets (λ (p : Packet g.row.A-Args.Denot g.row.A-Row.Denot g.row.A-Reply.Denot). p.from) in omega (arith, past, e)))
      (c.loop-number.invariant.listed listed),
)
