use Rattle.std.proofs.Common.{slice_get, ap, refl, ◌∙◌, arith}
use Rattle.std.specs.Option.{option_and_then}
use Rattle.calvin_node_packets.specs.Packets.{answered}
use Rattle.calvin_node_packets.proofs.KeptPackets.{lists_of, found_at, answer_low, answer_at, no_answer}
use Rattle.calvin_node_packets.proofs.outbox.Outbox.answer.Goals as goal

pub index-requires : goal.index-requires
index-requires g c =
    let k = c.in_ok-at.field-0.now in
    let l = lists_of c.self.inside.rows.views c.self.inside.sets.items c.self.inside.answers.items in
    let here = found_at c.deref.result.now c.self.inside.kept.items c.args.number k k c.deref.ensures.value c.in_ok-at.ensures.lookup.3.0 c.in_ok-at.ensures.lookup.1 in
    let low = answer_low c.self.inside.kept.items l c.args.number k c.self.invariant here _ _ _ _ c.in-Replies.is in
    omega (arith, low, c.self.inside.answers.ok)

pub returns-in-Replies : goal.returns-in-Replies
returns-in-Replies g c =
    let k = c.in_ok-at.field-0.now in
    let answers = c.self.inside.answers.items in
    let l = lists_of c.self.inside.rows.views c.self.inside.sets.items answers in
    let here = found_at c.deref.result.now c.self.inside.kept.items c.args.number k k c.deref.ensures.value c.in_ok-at.ensures.lookup.3.0 c.in_ok-at.ensures.lookup.1 in
    let low = answer_low c.self.inside.kept.items l c.args.number k c.self.invariant here _ _ _ _ c.in-Replies.is in
    let there = found_at answers answers c.in-Replies.at c.index.result.now c.index.result.now refl low c.index.ensures in
    answer_at c.self.inside.kept.items l c.args.number k c.self.invariant here _ _ _ _ c.index.result.now c.in-Replies.is there
    ∙ ap (λ v. option_and_then (λ packet. answered packet.content) (slice_get v.packets c.args.number)) c.self.view_is

pub returns-in_default : goal.returns-in_default
returns-in_default g c =
    let k = c.in_ok-at.field-0.now in
    let l = lists_of c.self.inside.rows.views c.self.inside.sets.items c.self.inside.answers.items in
    let here = found_at c.deref.result.now c.self.inside.kept.items c.args.number k k c.deref.ensures.value c.in_ok-at.ensures.lookup.3.0 c.in_ok-at.ensures.lookup.1 in
    no_answer c.self.inside.kept.items l c.args.number k c.self.invariant here c.in_default.not-Replies
    ∙ ap (λ v. option_and_then (λ packet. answered packet.content) (slice_get v.packets c.args.number)) c.self.view_is
