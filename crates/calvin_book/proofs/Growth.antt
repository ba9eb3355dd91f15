-- However a book grows, what was sent stays, and the first reply stays first.
--     packets_more      events send more
--     submission_kept, unheard_kept, answer_kept      what receipts and looks say
use Rattle.std.proofs.Common.{◌≡◌, ℕ, suc, ◌<◌, ◌≤◌, List, [], ◌∷◌, ◌++◌, length, length-append, take, drop, append_assoc, Option, Some, None, refl, sym, ap, subst, ◌∙◌, arith, slice_get}
use Rattle.std.proofs.lemmas.List.{take-append-le, drop-append-le, take-append-drop}
use Rattle.std.proofs.lemmas.Option.{slice_get_within}
use Rattle.calvin_types.specs.declared.place.NodeId.{NodeId}
use Rattle.calvin_types.specs.declared.place.Place.{Place}
use Rattle.calvin_types.specs.declared.place.RequestId.{RequestId}
use Rattle.calvin_types.specs.Deeds.{Refuses, Does}
use Rattle.calvin_app.specs.declared.answer.Answer.{Answer}
use Rattle.calvin_app.specs.Meaning.{Meaning}
use Rattle.calvin_bench.proofs.Lists.{get_left}
use Rattle.calvin_order.specs.Configs.{Config}
use Rattle.calvin_node_acts.specs.NodeStates.{NodeState}
use Rattle.calvin_node_acts.specs.Handling.{NodeDeed, handle}
use Rattle.calvin_node_acts.specs.Acting.{deed_of}
use Rattle.calvin_node_acts.specs.declared.act.Act.TheVariants.{Submit}
use Rattle.calvin_node_packets.specs.declared.packet.Address.{Address}
use Rattle.calvin_node_packets.specs.declared.packet.Address.TheVariants.{AtNode, AtClient}
use Rattle.calvin_node_packets.specs.declared.packet.Packet.{Packet}
use Rattle.calvin_world.specs.declared.event.Event.{Event}
use Rattle.calvin_world.specs.declared.event.Event.TheVariants.{At, Deliver}
use Rattle.calvin_world.specs.Worlds.{WorldState, opening, node_at, carry_out, at_node, deliver_to, deliver, happens}
use Rattle.calvin_world.specs.Through.{through}
use Rattle.calvin_book.specs.declared.receipt.Submission.{Submission}
use Rattle.calvin_book.specs.declared.receipt.Answered.{Answered}
use Rattle.calvin_book.specs.Replies.{reply_in, or_later, first_reply}
use Rattle.calvin_book.specs.Books.{Log, world_after}
use Rattle.calvin_book.specs.Receipts.{IsOpenTo, IsSubmitEvent, IsSubmitted, sent_by, reply_of, IsUnheard, IsAnswered}

module _ {X : Type 0} where
  none_more : (xs : List X) → xs ≡ xs ++ []
  none_more [] = refl
  none_more (x ∷ xs) = ap (λ ys. x ∷ ys) (none_more xs)

-- ---- packets

module _ {Args Row Reply : Type 0} where
  abbrev More : WorldState Args Row Reply → WorldState Args Row Reply → Type 0
  More w v = (more : List (Packet Args Row Reply)) × (v.packets ≡ w.packets ++ more)

  same_packets : (w : WorldState Args Row Reply) → More w w
  same_packets w = ([], none_more w.packets)

module _ {Args Row Reply : Type 0} (m : Meaning Args Row Reply) where
  deed_more : (w : WorldState Args Row Reply) (me : NodeId) (d : NodeDeed Args Row Reply) → More w (carry_out w me d).1
  deed_more w me (Refuses f) = same_packets w
  deed_more w me (Does next sent) = (sent, refl)

  node_more : (w : WorldState Args Row Reply) (me : NodeId) (act : NodeState Args Row → NodeDeed Args Row Reply) (o : Option (NodeState Args Row)) → More w (at_node w me act o).1
  node_more w me act None = same_packets w
  node_more w me act (Some x) = deed_more w me (act x)

  packet_more : (w : WorldState Args Row Reply) (o : Option (Packet Args Row Reply)) → More w (deliver w o).1
  packet_more w None = same_packets w
  packet_more w (Some p) = go p.to
    where
      go : (to : Address) → More w (deliver_to w p to).1
      go (AtNode id) = node_more w id (handle w.config p) (node_at w id)
      go (AtClient client) = same_packets w

  event_more : (w : WorldState Args Row Reply) (event : Event Args) → More w (happens m w event).1
  event_more w (At me act) = node_more w me (deed_of m w.config act) (node_at w me)
  event_more w (Deliver number) = packet_more w (slice_get w.packets number)

  through_more : (w : WorldState Args Row Reply) (events : List (Event Args)) → More w (through m w events).1
  through_more w [] = same_packets w
  through_more w (event ∷ events) =
      let one = event_more w event in
      let rest = through_more (happens m w event).1 events in
      (one.0 ++ rest.0, rest.1 ∙ ap (λ ps. ps ++ rest.0) one.1 ∙ append_assoc w.packets one.0 rest.0)

  through_on : (w : WorldState Args Row Reply) (xs ys : List (Event Args)) → (through m w (xs ++ ys)).1 ≡ (through m (through m w xs).1 ys).1
  through_on w [] ys = refl
  through_on w (x ∷ xs) ys = through_on (happens m w x).1 xs ys

  pub packets_more : (c : Config) (xs ys : List (Event Args)) → More (world_after m c xs) (world_after m c (xs ++ ys))
  packets_more c xs ys =
      let more = through_more (through m (opening c) xs).1 ys in
      (more.0, ap (λ (v : WorldState Args Row Reply). v.packets) (through_on (opening c) xs ys) ∙ more.1)

  -- no fewer than after a beginning
  pub no_fewer : (c : Config) (events : List (Event Args)) (k : ℕ) → length (world_after m c (take k events)).packets ≤ length (world_after m c events).packets
  no_fewer c events k =
      let more = packets_more c (take k events) (drop k events) in
      let whole : length (world_after m c events).packets ≡ length ((world_after m c (take k events)).packets ++ more.0) = ap (λ es. length (world_after m c es).packets) (sym (take-append-drop k events)) ∙ ap length more.1 in
      let h = length-append (world_after m c (take k events)).packets more.0 in
      omega (arith, whole, h)

-- ---- replies

module _ {Args Row Reply : Type 0} (id : RequestId) (attempt : ℕ) where
  pub first_stays : (ps more : List (Packet Args Row Reply)) (r : Place × Answer Reply) → first_reply id attempt ps ≡ Some r → first_reply id attempt (ps ++ more) ≡ Some r
  first_stays [] more r e = absurd (cc)
  first_stays (p ∷ ps) more r e = go (reply_in id attempt p.content) e (first_stays ps more r)
    where
      go : (o : Option (Place × Answer Reply)) → or_later o (first_reply id attempt ps) ≡ Some r → (first_reply id attempt ps ≡ Some r → first_reply id attempt (ps ++ more) ≡ Some r) → or_later o (first_reply id attempt (ps ++ more)) ≡ Some r
      go (Some q) e later = e
      go None e later = later e

-- ---- receipts

module _ {Args Row Reply : Type 0} (m : Meaning Args Row Reply) (c : Config) (xs more : List (Event Args)) where
  abbrev old : Log Args
  old = record { config = c; events = xs }

  abbrev new : Log Args
  new = record { config = c; events = xs ++ more }

  within : (s : Submission Args) → IsSubmitEvent old s → s.number < length xs
  within s event = slice_get_within xs s.number (At s.node (Submit s.txn)) event

  pub submission_kept : (s : Submission Args) → IsSubmitted m old s → IsSubmitted m new s
  submission_kept s is = record {
    event = get_left xs more s.number (At s.node (Submit s.txn)) is.event;
    is_open = subst (λ es. IsOpenTo (world_after m c es) s.node s.told) (sym (take-append-le s.number xs more (let h = within s is.event in omega (arith, h)))) is.is_open;
  }

  same_sent : (k : ℕ) → k < length xs → sent_by m new k ≡ sent_by m old k
  same_sent k less = ap (λ es. length (world_after m c es).packets) (take-append-le (suc k) xs more (omega (arith, less)))

  pub reply_kept : (s : Submission Args) → IsSubmitEvent old s → (r : Place × Answer Reply) → reply_of m old s ≡ Some r → reply_of m new s ≡ Some r
  reply_kept s event r e =
      let grown = packets_more m c xs more in
      let was = (world_after m c xs).packets in
      let n = sent_by m old s.number in
      (λ i. first_reply s.txn.id s.txn.attempt (drop (same_sent s.number (within s event) i) (grown.1 i)))
      ∙ ap (first_reply s.txn.id s.txn.attempt) (drop-append-le n was grown.0 (no_fewer m c xs (suc s.number)))
      ∙ first_stays s.txn.id s.txn.attempt (drop n was) grown.0 r e

  pub unheard_kept : (s : Submission Args) → IsSubmitEvent old s → (from : ℕ) → IsUnheard m old s from → IsUnheard m new s from
  unheard_kept s event from unheard =
      let grown = packets_more m c xs more in
      let was = (world_after m c xs).packets in
      let sent : from ≤ length was = unheard.sent in
      record {
        sent = let all : length (world_after m c (xs ++ more)).packets ≡ length (was ++ grown.0) = ap length grown.1 in let h = length-append was grown.0 in omega (arith, all, h, sent);
        none = λ that.
            (λ i. first_reply s.txn.id s.txn.attempt (drop (same_sent s.number (within s event) i) (take from (grown.1 i))))
            ∙ ap (λ ps. first_reply s.txn.id s.txn.attempt (drop (sent_by m old s.number) ps)) (take-append-le from was grown.0 sent)
            ∙ unheard.none event;
      }

  pub answer_kept : (a : Answered Args Reply) → IsAnswered m old a → IsAnswered m new a
  answer_kept a is = record {
    submitted = submission_kept a.submission is.submitted;
    place = is.place;
    reply = reply_kept a.submission is.submitted.event (is.place, a.answer) is.reply;
    told = is.told;
  }
