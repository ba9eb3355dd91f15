-- What holds after every list of events.
use Rattle.std.proofs.Common.{◌≡◌, ℕ, true, List, [], ◌∷◌, ◌++◌, length, ◌⊎◌, inl, inr, ⊎_elim, refl, sym, ap, ◌∙◌, subst, Option, Some, None}
use Rattle.std.specs.Prelude.{slice_get}
use Rattle.std.specs.List.{Contains}
use Rattle.std.proofs.lemmas.List.{length-set}
use Rattle.std.proofs.lemmas.List.Elements.{Contains-append_left, Contains-append_cases, Contains-push_cases}
use Rattle.calvin_types.specs.declared.place.Slot.{Slot}
use Rattle.calvin_types.specs.declared.fault.Fault.TheVariants.{OutOfMemory}
use Rattle.calvin_synod.specs.Quorums.{IsMajority}
use Rattle.calvin_synod.specs.Cases.{Replica, Deed, Refuses, Does, handle, propose, restart}
use Rattle.calvin_synod.proofs.Core.{agreement}
use Rattle.calvin_synod_group.specs.declared.packet.Packet.{Packet}
use Rattle.calvin_synod_group.specs.declared.event.GroupEvent.{GroupEvent}
use Rattle.calvin_synod_group.specs.declared.event.GroupEvent.TheVariants.{Propose, Deliver, Restart}
use Rattle.calvin_synod_group.specs.declared.event.Outcome.{Outcome}
use Rattle.calvin_synod_group.specs.declared.event.Outcome.TheVariants.{Gave, Refused}
use Rattle.calvin_synod_group.specs.Groups.{GroupState, opening, packets_of, carry_out, at_replica, deliver, happens, TakesEffect, grows, Step, Leads, Chosen}
use Rattle.calvin_synod_group.proofs.Events.{Kept, step_keeps, step_gives, opening_kept}
use Rattle.calvin_synod_group.proofs.Packets.{in_none}

pub leads_keeps : {B : Type 0} (w : GroupState B) (events : List (GroupEvent B)) (outcomes : List (Outcome B)) (after : GroupState B) → Kept w → Leads w events outcomes after → Kept after
leads_keeps w [] [] after kept run = subst Kept (sym run) kept
leads_keeps w [] (outcome ∷ outcomes) after kept run = absurd run
leads_keeps w (event ∷ events) [] after kept run = absurd run
leads_keeps w (event ∷ events) (outcome ∷ outcomes) after kept run = leads_keeps run.0 events outcomes after (step_keeps w kept event outcome run.0 run.1) run.2

-- A beginning of the events leads to a group, from which the rest leads on.
pub leads_through : {B : Type 0} (w : GroupState B) (early late : List (GroupEvent B)) (outcomes : List (Outcome B)) (after : GroupState B) → Leads w (early ++ late) outcomes after
    → (v : GroupState B) × (first : List (Outcome B)) × (rest : List (Outcome B)) × (outcomes ≡ first ++ rest) × Leads w early first v × Leads v late rest after
leads_through w [] late outcomes after run = (w, [], outcomes, refl, refl, run)
leads_through w (event ∷ early) late [] after run = absurd run
leads_through w (event ∷ early) late (outcome ∷ outcomes) after run =
    let on = leads_through run.0 early late outcomes after run.2 in
    (on.0, outcome ∷ on.1, on.2, ap (λ os. outcome ∷ os) on.3, (run.0, run.1, on.4), on.5)

-- One event more leads on.
pub leads_on : {B : Type 0} (w : GroupState B) (events : List (GroupEvent B)) (outcomes : List (Outcome B)) (v : GroupState B) (event : GroupEvent B) (outcome : Outcome B) (after : GroupState B) → Leads w events outcomes v → Step v event outcome after
    → Leads w (events ++ event ∷ []) (outcomes ++ outcome ∷ []) after
leads_on w [] [] v event outcome after run step = (after, subst (λ u. Step u event outcome after) run step, refl)
leads_on w [] (o ∷ outcomes) v event outcome after run step = absurd run
leads_on w (e ∷ events) [] v event outcome after run step = absurd run
leads_on w (e ∷ events) (o ∷ outcomes) v event outcome after run step = (run.0, run.1, leads_on run.0 events outcomes v event outcome after run.2 step)

-- ---- what no event takes away

record Extends {B : Type 0} (w v : GroupState B) : Type 0 where
  size : length v.replicas ≡ length w.replicas
  packets : (p : Packet B) → Contains w.packets p → Contains v.packets p

module _ {B : Type 0} where
  extends_itself : (w : GroupState B) → Extends w w
  extends_itself w = record { size = refl; packets = λ p c. c }

  extends_on : {u v w : GroupState B} → Extends u v → Extends v w → Extends u w
  extends_on h k = record { size = k.size ∙ h.size; packets = λ p c. k.packets p (h.packets p c) }

  carried_out : (w : GroupState B) (me : ℕ) (deed : Deed B) → Extends w (carry_out w me deed).1
  carried_out w me (Refuses f) = extends_itself w
  carried_out w me (Does x letters given) = record { size = length-set w.replicas me x; packets = λ p c. Contains-append_left w.packets (packets_of (length w.replicas) me letters) p c }

  at_replica_extends : (w : GroupState B) (me : ℕ) (act : Replica B → Deed B) (x : Option (Replica B)) → Extends w (at_replica w me act x).1
  at_replica_extends w me act None = extends_itself w
  at_replica_extends w me act (Some x) = carried_out w me (act x)

  deliver_extends : (w : GroupState B) (p : Option (Packet B)) → Extends w (deliver w p).1
  deliver_extends w None = extends_itself w
  deliver_extends w (Some p) = at_replica_extends w p.to (handle (length w.replicas) p.from p.message) (slice_get w.replicas p.to)

  happens_extends : (w : GroupState B) (event : GroupEvent B) → Extends w (happens w event).1
  happens_extends w (Propose me slot batch) = at_replica_extends w me (propose me slot batch) (slice_get w.replicas me)
  happens_extends w (Deliver number) = deliver_extends w (slice_get w.packets number)
  happens_extends w (Restart me) = at_replica_extends w me restart (slice_get w.replicas me)

  step_extends : (w : GroupState B) (event : GroupEvent B) (outcome : Outcome B) (after : GroupState B) → Step w event outcome after → Extends w after
  step_extends w event outcome after s =
      ⊎_elim
      (λ (e : (outcome, after) ≡ happens w event). subst (Extends w) (sym (ap (λ y. y.1) e)) (happens_extends w event))
      (λ (e : TakesEffect (happens w event).0 × (grows w event ≡ true) × (outcome ≡ Refused OutOfMemory) × (after ≡ w)). subst (Extends w) (sym e.3) (extends_itself w))
      s

  leads_extends : (w : GroupState B) (events : List (GroupEvent B)) (outcomes : List (Outcome B)) (after : GroupState B) → Leads w events outcomes after → Extends w after
  leads_extends w [] [] after run = subst (Extends w) (sym run) (extends_itself w)
  leads_extends w [] (outcome ∷ outcomes) after run = absurd run
  leads_extends w (event ∷ events) [] after run = absurd run
  leads_extends w (event ∷ events) (outcome ∷ outcomes) after run = extends_on (step_extends w event outcome run.0 run.1) (leads_extends run.0 events outcomes after run.2)

  extends_chosen : {w v : GroupState B} → Extends w v → (slot : Slot) (batch : B) → Chosen w slot batch → Chosen v slot batch
  extends_chosen up slot batch (b, q, m, cast) = (b, q, subst (λ n. IsMajority n q) (sym up.size) m, λ a i. let c = cast a i in (c.0, up.packets _ c.1))

  -- ---- the theorem

  -- What is chosen stays chosen.
  pub chosen_stays : (w : GroupState B) (events : List (GroupEvent B)) (outcomes : List (Outcome B)) (after : GroupState B) → Leads w events outcomes after → (slot : Slot) (batch : B) → Chosen w slot batch → Chosen after slot batch
  chosen_stays w events outcomes after run slot batch chosen = extends_chosen (leads_extends w events outcomes after run) slot batch chosen

  first_or_later : (y : Outcome B) (xs : List (Outcome B)) (x : Outcome B) → Contains (y ∷ xs) x → (y ≡ x) ⊎ Contains xs x
  first_or_later y xs x c = ⊎_elim (λ (d : Contains (y ∷ []) x). inl (⊎_elim (λ (k : Contains [] x). absurd (in_none x k)) (λ (e : y ≡ x). e) (Contains-push_cases [] y x d))) (λ (d : Contains xs x). inr d) (Contains-append_cases (y ∷ []) xs x c)

  pub gave_is_chosen : (w : GroupState B) (events : List (GroupEvent B)) (outcomes : List (Outcome B)) (after : GroupState B) → Kept w → Leads w events outcomes after → (slot : Slot) (batch : B) → Contains outcomes (Gave slot batch) → Chosen after slot batch
  gave_is_chosen w [] [] after kept run slot batch c = absurd (in_none (Gave slot batch) c)
  gave_is_chosen w [] (outcome ∷ outcomes) after kept run slot batch c = absurd run
  gave_is_chosen w (event ∷ events) [] after kept run slot batch c = absurd run
  gave_is_chosen w (event ∷ events) (outcome ∷ outcomes) after kept run slot batch c =
      ⊎_elim
      (λ (e : outcome ≡ Gave slot batch). extends_chosen (extends_on (step_extends w event outcome run.0 run.1) (leads_extends run.0 events outcomes after run.2)) slot batch
      (step_gives w kept slot batch event run.0 (subst (λ o. Step w event o run.0) e run.1)))
      (λ (d : Contains outcomes (Gave slot batch)). gave_is_chosen run.0 events outcomes after (step_keeps w kept event outcome run.0 run.1) run.2 slot batch d)
      (first_or_later outcome outcomes (Gave slot batch) c)

  -- What a learner gave is chosen.
  pub given_is_chosen : (size : ℕ) (events : List (GroupEvent B)) (outcomes : List (Outcome B)) (w : GroupState B) → Leads (opening size) events outcomes w → (slot : Slot) (batch : B) → Contains outcomes (Gave slot batch) → Chosen w slot batch
  given_is_chosen size events outcomes w run slot batch c = gave_is_chosen (opening size) events outcomes w (opening_kept size) run slot batch c

  pub kept_one : (w : GroupState B) → Kept w → (slot : Slot) (x y : B) → Chosen w slot x → Chosen w slot y → x ≡ y
  kept_one w kept slot x y p q = agreement (kept slot).sound x y p q

  -- One batch at most is chosen for a slot.
  pub one_chosen : (size : ℕ) (events : List (GroupEvent B)) (outcomes : List (Outcome B)) (w : GroupState B) → Leads (opening size) events outcomes w → (slot : Slot) (x y : B) → Chosen w slot x → Chosen w slot y → x ≡ y
  one_chosen size events outcomes w run slot x y p q = kept_one w (leads_keeps (opening size) events outcomes w (opening_kept size) run) slot x y p q

  -- So no two learners gave different batches for a slot.
  pub given_alike : (size : ℕ) (events : List (GroupEvent B)) (outcomes : List (Outcome B)) (w : GroupState B) → Leads (opening size) events outcomes w → (slot : Slot) (x y : B) → Contains outcomes (Gave slot x) → Contains outcomes (Gave slot y) → x ≡ y
  given_alike size events outcomes w run slot x y c d = one_chosen size events outcomes w run slot x y (given_is_chosen size events outcomes w run slot x c) (given_is_chosen size events outcomes w run slot y d)
