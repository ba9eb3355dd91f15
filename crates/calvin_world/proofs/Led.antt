-- Events that don't run out of memory end as their cases say.
use Rattle.std.proofs.Common.{◌≡◌, List, [], ◌∷◌, inl, inr, ap, subst, ◌∙◌}
use Rattle.calvin_app.specs.Meaning.{Meaning}
use Rattle.calvin_world.specs.declared.event.Event.{Event}
use Rattle.calvin_world.specs.declared.event.Outcome.{Outcome}
use Rattle.calvin_order.specs.Configs.{Config}
use Rattle.calvin_world.specs.Worlds.{WorldState, happens, opening, Leads}
use Rattle.calvin_world.specs.SettledWorlds.{settled_world, SettledLeads}
use Rattle.calvin_world.specs.Through.{through, WithoutWant}
use Rattle.calvin_world.proofs.SettledEvents.{settled_leads}

module _ {Args Row Reply : Type 0} (m : Meaning Args Row Reply) where
  pub led_through : (w : WorldState Args Row Reply) (events : List (Event Args)) (outcomes : List Outcome) (v : WorldState Args Row Reply) → Leads m w events outcomes v → WithoutWant outcomes → ◌≡◌ {A = List Outcome × WorldState Args Row Reply} (outcomes, v) (through m w events)
  led_through w [] [] v leads well = ap (λ (x : WorldState Args Row Reply). ([], x)) leads
  led_through w [] (outcome ∷ outcomes) v leads well = absurd leads
  led_through w (event ∷ events) [] v leads well = absurd leads
  led_through w (event ∷ events) (outcome ∷ outcomes) v (next, inl step, rest) well =
      let later = led_through (happens m w event).1 events outcomes v (subst (λ (x : WorldState Args Row Reply). Leads m x events outcomes v) (ap (λ (p : Outcome × WorldState Args Row Reply). p.1) step) rest) well.1 in
      λ i. ((step i).0 ∷ (later i).0, (later i).1)
  led_through w (event ∷ events) (outcome ∷ outcomes) v (next, inr want, rest) well = absurd (well.0 want.2)

  pub settled_led : (c : Config) (events : List (Event Args)) (outcomes : List Outcome) (v : WorldState Args Row Reply) → SettledLeads m (opening c) events outcomes v → WithoutWant outcomes
      → (outcomes ≡ (through m (opening c) events).0) × (v ≡ settled_world (through m (opening c) events).1)
  settled_led c events outcomes v leads well =
      let found = settled_leads m c events outcomes v leads in
      let same = led_through (opening c) events outcomes found.0 found.1 well in
      (ap (λ (p : List Outcome × WorldState Args Row Reply). p.0) same, found.2 ∙ ap (λ (p : List Outcome × WorldState Args Row Reply). settled_world p.1) same)
