-- The first reply to a submission, by how many packets had been sent.
--     not_that, not_counted      where the event isn't the submission, a look finds none
--     read_at      what was read at a place
--     found, not_found      what a look finds among the packets from the greater number on
--     at_first      before the first packet there is none
use Rattle.std.proofs.Common.{◌≡◌, ℕ, zero, suc, ◌<◌, false, ltb, List, [], length, take, drop, max, Some, None, refl, sym, ap, subst, ◌∙◌, arith, slice_get}
use Rattle.std.proofs.lemmas.Bool.{lt-ltb, false≢true}
use lib.ListN.{get_or}
use Rattle.std.proofs.lemmas.List.{take_all}
use Rattle.std.proofs.lemmas.Option.{slice_get_within, slice_get-get_or}
use Rattle.calvin_types.specs.declared.place.Place.{Place}
use Rattle.calvin_app.specs.declared.answer.Answer.{Answer}
use Rattle.calvin_app.specs.Meaning.{Meaning}
use Rattle.calvin_node_acts.specs.declared.act.Act.TheVariants.{Submit}
use Rattle.calvin_node_packets.specs.declared.packet.Packet.{Packet}
use Rattle.calvin_world.specs.declared.event.Event.{Event}
use Rattle.calvin_world.specs.declared.event.Event.TheVariants.{At}
use Rattle.calvin_world.specs.Worlds.{WorldState}
use Rattle.calvin_book.specs.declared.receipt.Submission.{Submission}
use Rattle.calvin_book.specs.declared.receipt.Look.TheVariants.{Found, NotYet}
use Rattle.calvin_book.specs.Replies.{first_reply}
use Rattle.calvin_book.specs.Books.{Log, IsRun, world_after, CountsSent}
use Rattle.calvin_book.specs.Receipts.{IsSubmitEvent, sent_by, reply_of, IsUnheard, IsLookedFor}
use Rattle.calvin_book.proofs.Firsts.{from_later}
use Rattle.calvin_book.proofs.Keeping.{after_is}

pub read_at : {X : Type 0} (seen sent : List X) (k : ℕ) (n : X) → seen ≡ sent → k < length seen → n ≡ get_or seen k n → slice_get sent k ≡ Some n
read_at {X} seen sent k n same within read = subst (λ (ns : List X). slice_get ns k ≡ Some n) same (slice_get-get_or seen k n within ∙ ap Some (sym read))

drop_none : {X : Type 0} (n : ℕ) → ◌≡◌ {A = List X} (drop n []) []
drop_none zero = refl
drop_none (suc n) = refl

module _ {Args Row Reply : Type 0} (m : Meaning Args Row Reply) (log : Log Args) (s : Submission Args) where
  pub at_first : IsUnheard m log s 0
  at_first = record { sent = omega arith; none = λ that. ap (first_reply s.txn.id s.txn.attempt) (drop_none (sent_by m log s.number)) }

  pub not_that : (IsSubmitEvent log s → ⊥) → (k : ℕ) → IsUnheard m log s k → IsLookedFor m log s (NotYet k)
  not_that never k unheard = (λ that. absurd (never that), unheard)

  abbrev packets : List (Packet Args Row Reply)
  packets = (world_after m log.config log.events).packets

  -- from the greater number on it is the same
  from_there : IsSubmitEvent log s → (k : ℕ) → IsUnheard m log s k → (n : ℕ) → n ≡ sent_by m log s.number → (ps : List (Packet Args Row Reply)) → ps ≡ packets → first_reply s.txn.id s.txn.attempt (drop (max k n) ps) ≡ reply_of m log s
  from_there that k unheard n n_is ps ps_is =
      (λ i. first_reply s.txn.id s.txn.attempt (drop (max k (n_is i)) (ps_is i)))
      ∙ from_later s.txn.id s.txn.attempt packets (sent_by m log s.number) k unheard.sent (unheard.none that)

  -- none of all of them
  all_unheard : reply_of m log s ≡ None → IsUnheard m log s (length packets)
  all_unheard none = record {
    sent = omega arith;
    none = λ that. ap (λ ps. first_reply s.txn.id s.txn.attempt (drop (sent_by m log s.number) ps)) (take_all (length packets) packets (omega arith)) ∙ none;
  }

-- in code: the world, the events, and the counts of what had been sent
module _ {Args Row Reply : Type 0} (m : Meaning Args Row Reply) (w : WorldState Args Row Reply) (events : List (Event Args)) (run : IsRun m w.config events w) (sent : List ℕ) (counted : CountsSent m w.config events sent)
    (now : Log Args) (is : ◌≡◌ {A = Log Args} (record { config = w.config; events = events }) now) (s : Submission Args) where
  pub not_counted : (ns : List ℕ) → ns ≡ sent → false ≡ ltb s.number (length ns) → (k : ℕ) → IsUnheard m now s k → IsLookedFor m now s (NotYet k)
  not_counted ns ns_is none = not_that m now s (λ that.
      let within = slice_get_within now.events s.number (At s.node (Submit s.txn)) that in
      let long : length now.events ≡ length ns = ap (λ (l : Log Args). length l.events) (sym is) ∙ sym counted.number ∙ sym (ap length ns_is) in
      false≢true (none ∙ lt-ltb s.number (length ns) (omega (arith, within, long))))

  module _ (n : ℕ) (at : slice_get sent s.number ≡ Some n) (ps : List (Packet Args Row Reply)) (ps_is : ps ≡ w.packets) (that : IsSubmitEvent now s) (k : ℕ) (unheard : IsUnheard m now s k) (j : ℕ) (j_is : j ≡ max k n) where
    count : n ≡ sent_by m now s.number
    count = counted.each s.number n at ∙ ap (λ (l : Log Args). length (world_after m l.config (take (suc s.number) l.events)).packets) is

    all : ps ≡ (world_after m now.config now.events).packets
    all = ps_is ∙ ap (λ (v : WorldState Args Row Reply). v.packets) (after_is m w events run now is)

    same : first_reply s.txn.id s.txn.attempt (drop j ps) ≡ reply_of m now s
    same = ap (λ i. first_reply s.txn.id s.txn.attempt (drop i ps)) j_is ∙ from_there m now s that k unheard n count ps all

    pub found : (place : Place) (answer : Answer Reply) → Some (place, answer) ≡ first_reply s.txn.id s.txn.attempt (drop j ps) → IsLookedFor m now s (Found place answer)
    found place answer e = (that, sym (e ∙ same))

    pub not_found : None ≡ first_reply s.txn.id s.txn.attempt (drop j ps) → IsLookedFor m now s (NotYet (length ps))
    not_found e =
        let none : reply_of m now s ≡ None = sym (e ∙ same) in
        (λ again. none, subst (IsUnheard m now s) (sym (ap length all)) (all_unheard m now s none))
