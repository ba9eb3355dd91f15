-- Each event keeps what holds of every slot; and what a learner gives in it is chosen.
use Rattle.std.proofs.Common.{◌≡◌, ℕ, true, zero, suc, ◌<◌, List, [], ◌++◌, length, get_or, set, replicate, inl, inr, ⊎_elim, refl, sym, ap, subst, arith, Option, Some, None}
use Rattle.std.specs.Prelude.{slice_get}
use Rattle.std.specs.List.{Contains}
use Rattle.std.proofs.lemmas.List.{get_or-set_same, get_or-set_other, length-set}
use Rattle.std.proofs.lemmas.Option.{slice_get_within, get_or_from_slice_get}
use Rattle.calvin_types.specs.declared.place.Slot.{Slot}
use Rattle.calvin_types.specs.declared.fault.Fault.TheVariants.{OutOfMemory}
use Rattle.calvin_synod.specs.Cases.{Replica, Deed, Refuses, Does, handle, propose, restart, fresh}
use Rattle.calvin_synod.proofs.Replicas.{Seat, Holds, HoldsAt, holds_at}
use Rattle.calvin_synod.proofs.Cases.{seat_of, Says, RightDeed, handle_right, restart_right, propose_right, deed_keeps, holds_at_first, Gives, handle_gives, propose_gives, restart_gives}
use Rattle.calvin_synod_group.specs.declared.packet.Packet.{Packet}
use Rattle.calvin_synod_group.specs.declared.event.GroupEvent.{GroupEvent}
use Rattle.calvin_synod_group.specs.declared.event.GroupEvent.TheVariants.{Propose, Deliver, Restart}
use Rattle.calvin_synod_group.specs.declared.event.Outcome.{Outcome}
use Rattle.calvin_synod_group.specs.declared.event.Outcome.TheVariants.{Gave, Refused}
use Rattle.calvin_synod_group.specs.Groups.{GroupState, opening, packets_of, outcome_of, carry_out, at_replica, deliver, happens, TakesEffect, grows, Step, Chosen}
use Rattle.calvin_synod_group.proofs.Packets.{sent_in, sent_more, sent_new, sent_cases, nothing_sent, said_by_packets, sent_as, packets_say}

-- what a group shows of a slot
abbrev seats_of : {B : Type 0} → GroupState B → Slot → ℕ → Seat B
seats_of w slot r = seat_of (get_or w.replicas r fresh) slot

-- what holds of every slot
abbrev pub Kept : {B : Type 0} → GroupState B → Type 0
Kept w = (slot : Slot) → Holds (length w.replicas) (sent_in w.packets slot) (seats_of w slot)

contains_from_get : {X : Type 0} (xs : List X) (k : ℕ) (x : X) → slice_get xs k ≡ Some x → Contains xs x
contains_from_get xs k x e = (k, slice_get_within xs k x e, get_or_from_slice_get xs k x x e)

module _ {B : Type 0} (w : GroupState B) (kept : Kept w) where
  abbrev member : ℕ → Replica B
  member r = get_or w.replicas r fresh

  abbrev Owes : Slot → ℕ → Deed B → Type 0
  Owes slot me deed = RightDeed (length w.replicas) (sent_in w.packets slot) slot me (member me) deed

  carry_out_keeps : (me : ℕ) (deed : Deed B) → me < length w.replicas → ((slot : Slot) → Owes slot me deed) → Kept (carry_out w me deed).1
  carry_out_keeps me (Refuses f) m right slot = kept slot
  carry_out_keeps me (Does next letters given) m right slot =
      let more = packets_of (length w.replicas) me letters in
      subst (λ n. Holds n (sent_in (w.packets ++ more) slot) (λ r. seat_of (get_or (set w.replicas me next) r fresh) slot)) (sym (length-set w.replicas me next))
      (deed_keeps (kept slot) slot me (member me) next (Says me letters slot) m refl (ap (λ x. seat_of x slot) (get_or-set_same w.replicas me next fresh m)) (right slot)
      (sent_more w.packets more slot)
      (λ x n. sent_new w.packets more slot x (packets_say (length w.replicas) me letters slot (omega arith) x n))
      (λ x s. ⊎_elim inl (λ n. inr (said_by_packets (length w.replicas) me letters slot x n)) (sent_cases w.packets more slot x s))
      (λ r apart. ap (λ x. seat_of x slot) (get_or-set_other w.replicas me r next fresh apart)))

  at_replica_keeps : (me : ℕ) (act : Replica B → Deed B) → ((slot : Slot) → Owes slot me (act (member me))) → (x : Option (Replica B)) → slice_get w.replicas me ≡ x → Kept (at_replica w me act x).1
  at_replica_keeps me act right None e = kept
  at_replica_keeps me act right (Some x) e = subst (λ y. Kept (carry_out w me (act y)).1) (get_or_from_slice_get w.replicas me x fresh e) (carry_out_keeps me (act (member me)) (slice_get_within w.replicas me x e) right)

  seat_holds : (slot : Slot) (me : ℕ) → HoldsAt (length w.replicas) (sent_in w.packets slot) me (seat_of (member me) slot)
  seat_holds slot me = holds_at (kept slot) me (seat_of (member me) slot) refl

  deliver_keeps : (number : ℕ) (p : Option (Packet B)) → slice_get w.packets number ≡ p → Kept (deliver w p).1
  deliver_keeps number None e = kept
  deliver_keeps number (Some p) e = at_replica_keeps p.to (handle (length w.replicas) p.from p.message)
      (λ slot. handle_right (kept slot).sound slot p.to (member p.to) (seat_holds slot p.to) p.from p.message (sent_as p.from p.to p.message w.packets slot (contains_from_get w.packets number p e))) _ refl

  happens_keeps : (event : GroupEvent B) → Kept (happens w event).1
  happens_keeps (Propose me k batch) = at_replica_keeps me (propose me k batch) (λ slot. propose_right (kept slot).sound slot me (member me) (seat_holds slot me) k batch) _ refl
  happens_keeps (Deliver number) = deliver_keeps number _ refl
  happens_keeps (Restart me) = at_replica_keeps me restart (λ slot. restart_right (kept slot).sound slot me (member me) (seat_holds slot me)) _ refl

  pub step_keeps : (event : GroupEvent B) (outcome : Outcome B) (after : GroupState B) → Step w event outcome after → Kept after
  step_keeps event outcome after s =
      ⊎_elim
      (λ (e : (outcome, after) ≡ happens w event). subst Kept (sym (ap (λ y. y.1) e)) (happens_keeps event))
      (λ (e : TakesEffect (happens w event).0 × (grows w event ≡ true) × (outcome ≡ Refused OutOfMemory) × (after ≡ w)). subst Kept (sym e.3) kept)
      s

-- ---- what is given

module _ {B : Type 0} (w : GroupState B) (kept : Kept w) (slot : Slot) (batch : B) where
  gave_both : (s : Slot) (x : B) → Gave slot batch ≡ Gave s x → (s ≡ slot) × (x ≡ batch)
  gave_both s x e = (cc, cc)

  outcome_gives : (given : Option (Slot × B)) → Gave slot batch ≡ outcome_of given → given ≡ Some (slot, batch)
  outcome_gives None e = cc
  outcome_gives (Some g) e = let both = gave_both g.0 g.1 e in λ i. Some (both.0 i, both.1 i)

  carry_out_gives : (me : ℕ) (deed : Deed B) → Gave slot batch ≡ (carry_out w me deed).0 → Gives deed slot batch
  carry_out_gives me (Refuses f) e = cc
  carry_out_gives me (Does next letters given) e = outcome_gives given e

  at_replica_gives : (me : ℕ) (act : Replica B → Deed B) (x : Option (Replica B)) → slice_get w.replicas me ≡ x → Gave slot batch ≡ (at_replica w me act x).0 → Gives (act (get_or w.replicas me fresh)) slot batch
  at_replica_gives me act None e g = cc
  at_replica_gives me act (Some x) e g = subst (λ y. Gives (act y) slot batch) (sym (get_or_from_slice_get w.replicas me x fresh e)) (carry_out_gives me (act x) g)

  deliver_gives : (number : ℕ) (p : Option (Packet B)) → slice_get w.packets number ≡ p → Gave slot batch ≡ (deliver w p).0 → Chosen w slot batch
  deliver_gives number None e g = cc
  deliver_gives number (Some p) e g =
      handle_gives (kept slot).sound slot p.to (get_or w.replicas p.to fresh) (seat_holds w kept slot p.to) p.from p.message (sent_as p.from p.to p.message w.packets slot (contains_from_get w.packets number p e)) batch
      (at_replica_gives p.to (handle (length w.replicas) p.from p.message) _ refl g)

  happens_gives : (event : GroupEvent B) → Gave slot batch ≡ (happens w event).0 → Chosen w slot batch
  happens_gives (Propose me k x) g = absurd (propose_gives me (get_or w.replicas me fresh) k x slot batch (at_replica_gives me (propose me k x) _ refl g))
  happens_gives (Deliver number) g = deliver_gives number _ refl g
  happens_gives (Restart me) g = absurd (restart_gives (get_or w.replicas me fresh) slot batch (at_replica_gives me restart _ refl g))

  pub step_gives : (event : GroupEvent B) (after : GroupState B) → Step w event (Gave slot batch) after → Chosen w slot batch
  step_gives event after s =
      ⊎_elim
      (λ (e : (Gave slot batch, after) ≡ happens w event). happens_gives event (ap (λ y. y.0) e))
      (λ (e : TakesEffect (happens w event).0 × (grows w event ≡ true) × (Gave slot batch ≡ Refused OutOfMemory) × (after ≡ w)). let k : Gave slot batch ≡ Refused OutOfMemory = e.2 in cc)
      s

-- ---- at the opening

all_alike : {X : Type 0} (n i : ℕ) (x : X) → get_or (replicate n x) i x ≡ x
all_alike zero i x = refl
all_alike (suc n) zero x = refl
all_alike (suc n) (suc i) x = all_alike n i x

pub opening_kept : {B : Type 0} (size : ℕ) → Kept {B = B} (opening size)
opening_kept {B} size slot = holds_at_first (length (replicate size (fresh {B = B}))) (sent_in {B = B} [] slot) slot (seats_of (opening size) slot) (nothing_sent slot) (λ r. ap (λ x. seat_of x slot) (all_alike size r fresh))
