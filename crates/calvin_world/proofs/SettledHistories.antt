-- What is promised of all the events that led to a world in code.
--     led_such      an event that took effect in a world for which it is such did so in code
--     stays_chosen, stays_by, stays_here, ever_stays      what was chosen or held is chosen
--     code_submitted, code_before      what is chosen was submitted, and before the event that made it chosen
--     code_in_time, code_later      what stands was submitted in time; what comes after a reply stands later
use Rattle.std.proofs.Common.{◌≡◌, ◌<◌, List, [], ◌∷◌, inl, inr, refl, sym, subst, ◌∙◌, arith}
use Rattle.calvin_types.specs.declared.place.Place.{Place}
use Rattle.calvin_types.specs.declared.place.Slot.{Slot}
use Rattle.calvin_types.specs.declared.txn.Txn.{Txn}
use Rattle.calvin_types.specs.Orders.{StandsAt}
use Rattle.std.specs.List.{Contains}
use Rattle.calvin_app.specs.Meaning.{Meaning, WritesWithin}
use Rattle.calvin_order.specs.Configs.{order}
use Rattle.calvin_order.proofs.Epochs.{stretch_stands}
use Rattle.calvin_node_acts.specs.Running.{settled}
use Rattle.calvin_world.specs.declared.event.Event.{Event}
use Rattle.calvin_world.specs.declared.event.Outcome.{Outcome}
use Rattle.calvin_world.specs.Worlds.{WorldState, opening, Leads}
use Rattle.calvin_world.specs.SettledWorlds.{settled_world, SettledStep, SettledLeads}
use Rattle.calvin_world.specs.RunningWorlds.{IsReached}
use Rattle.calvin_world.specs.Promises.{Chosen, IsChosenUpTo, IsSubmitFor, Submits, Sometime}
use Rattle.calvin_world.specs.Histories.{StaysChosen, LeadsOn, EverStays, SomeEvent, WasSubmitted, SubmittedBefore, StandsInTime, StandsLater}
use Rattle.calvin_world.proofs.Sequencers.{slot_at}
use Rattle.calvin_world.proofs.Submissions.{stands_batch, was_submitted, submitted_before, stands_later}
use Rattle.calvin_world.proofs.SettledEvents.{NonePastIn, opening_none, opening_settled, step_none, was_step, settled_later, settled_next}
use Rattle.calvin_world.proofs.SettledLaws.{node_settled, chosen_in_code, held_in_code}

module _ {Args Row Reply : Type 0} (m : Meaning Args Row Reply) where
  -- ---- an event that took effect

  module _ (Such : WorldState Args Row Reply → Event Args → Type 0) (same : (w : WorldState Args Row Reply) (event : Event Args) → Such w event → Such (settled_world w) event) where
    led_such : (w v : WorldState Args Row Reply) → NonePastIn w → v ≡ settled_world w → (events : List (Event Args)) (outcomes : List Outcome) (new : WorldState Args Row Reply) (leads : SettledLeads m v events outcomes new)
        → (then : WorldState Args Row Reply) × (was : Leads m w events outcomes then) × (new ≡ settled_world then) × (Sometime m Such w events outcomes then was → SomeEvent m Such v events outcomes new leads)
    led_such w v none is [] [] new e = (w, refl, e ∙ is, λ never. absurd never)
    led_such w v none is [] (outcome ∷ outcomes) new e = absurd e
    led_such w v none is (event ∷ events) [] new e = absurd e
    led_such w v none is (event ∷ events) (outcome ∷ outcomes) new (next, step, rest) =
        let first = was_step m w v none is event outcome next step in
        let more = led_such first.0 next (step_none m w none event outcome first.0 first.1) first.2 events outcomes new rest in (
          more.0,
          (first.0, first.1, more.1),
          more.2,
          λ s. elim s [
            | inl had ↦ inl (had.0, subst (λ v. Such v event) (sym is) (same w event had.1))
            | inr after ↦ inr (more.3 after)
          ],
        )

  submit_settled : (slot : Slot) (t : Txn Args) (w : WorldState Args Row Reply) (event : Event Args) → IsSubmitFor slot t w event → IsSubmitFor slot t (settled_world w) event
  submit_settled slot t w event s = record { at = s.at; node = settled s.node; is_node = node_settled w s.at s.node s.is_node; submits = s.submits; of_group = s.of_group; in_time = s.in_time }

  module _ (law : WritesWithin m) where
    -- ---- what was chosen or held

    pub stays_chosen : (v : WorldState Args Row Reply) → IsReached m v → (w : WorldState Args Row Reply) → LeadsOn m v w → StaysChosen v w
    stays_chosen v reached w on = record {
      chosen = chosen_in_code m law v.config reached.0 reached.1 v reached.2 on.0 on.1 w on.2;
      held = held_in_code m law v.config reached.0 reached.1 v reached.2 on.0 on.1 w on.2;
    }

    pub stays_by : (v : WorldState Args Row Reply) → IsReached m v → (events : List (Event Args)) (outcomes : List Outcome) (w : WorldState Args Row Reply) → SettledLeads m v events outcomes w → StaysChosen v w
    stays_by v reached events outcomes w leads = stays_chosen v reached w (events, outcomes, leads)

    pub stays_here : (v : WorldState Args Row Reply) → IsReached m v → StaysChosen v v
    stays_here v reached = stays_chosen v reached v ([], [], refl)

    pub ever_stays : (w : WorldState Args Row Reply) → IsReached m w → EverStays m w
    ever_stays w here v reached on = stays_chosen v reached w on

    -- ---- what is submitted

    module _ (w : WorldState Args Row Reply) (here : IsReached m w) where
      pub code_submitted : WasSubmitted m w
      code_submitted events outcomes leads slot batch chosen t among =
          let was = led_such (IsSubmitFor slot t) (submit_settled slot t) (opening w.config) (opening w.config) (opening_none m w.config) (sym (opening_settled w.config)) events outcomes w leads in
          was.3 (was_submitted m law w.config events outcomes was.0 was.1 slot batch (subst (λ (u : WorldState Args Row Reply). Chosen u slot batch) was.2 chosen) t among)

      pub code_before : SubmittedBefore m w
      code_before earlier outcomes v leads event outcome u step on slot batch never chosen t among =
          let was = led_such (IsSubmitFor slot t) (submit_settled slot t) (opening w.config) (opening w.config) (opening_none m w.config) (sym (opening_settled w.config)) earlier outcomes v leads in
          let next = settled_next m w.config earlier outcomes was.0 was.1 event outcome u (subst (λ (v : WorldState Args Row Reply). SettledStep m v event outcome u) was.2 step) in
          was.3 (submitted_before m law w.config earlier outcomes was.0 was.1 event outcome next.0 next.1 slot batch
          (subst (λ (v : WorldState Args Row Reply). Chosen v slot batch → ⊥) was.2 never) (subst (λ (u : WorldState Args Row Reply). Chosen u slot batch) next.2 chosen) t among)

      pub code_in_time : StandsInTime m w
      code_in_time events outcomes leads B n chosen r t at =
          let found = stands_batch w.config B 0 n r t at in
          let within = (stretch_stands w.config B 0 n r t at).1 in
          let slot : Slot = slot_at found.0 r.epoch in
          (found.0, found.1, code_submitted events outcomes leads slot (B slot) (chosen slot (omega (arith, within)) found.1) t found.2)

      pub code_later : StandsLater m w
      code_later earlier outcomes v leads on p there q id attempt answer says t never B n =
          let was = led_such (Submits t) (λ w event s. s) (opening w.config) (opening w.config) (opening_none m w.config) (sym (opening_settled w.config)) earlier outcomes v leads in
          let next = settled_later m w.config earlier outcomes was.0 was.1 on.0 on.1 w (subst (λ (v : WorldState Args Row Reply). SettledLeads m v on.0 on.1 w) was.2 on.2) in
          subst (λ (u : WorldState Args Row Reply). IsChosenUpTo u B n → (r : Place) → StandsAt (order u.config B n) r t → q.epoch < r.epoch) (sym next.2)
          (stands_later m law w.config earlier outcomes was.0 was.1 on.0 on.1 next.0 next.1 p (subst (λ (v : WorldState Args Row Reply). Contains v.packets p) was.2 there) q id attempt answer says t (λ s. never (was.3 s)) B n)
