-- Books: the events lead to the world, and one more leads on.
--     run_more, run_is, run_reached      one event more; the world is the one that the events lead to, and is reached
--     refused_why      why an event is refused
--     applied      one event more took effect
--     counted_none, counted_more      how many packets had been sent after each event
use Rattle.std.proofs.Common.{◌≡◌, ◌⊎◌, ℕ, zero, suc, ◌+◌, ◌≤◌, inl, inr, List, [], ◌∷◌, ◌++◌, length, length-append, take, Option, Some, None, refl, sym, ap, subst, ◌∙◌, arith, slice_get}
use Rattle.std.proofs.lemmas.List.{take-append-le}
use Rattle.std.proofs.lemmas.Option.{slice_get_within}
use Rattle.calvin_types.specs.declared.fault.Fault.{Fault}
use Rattle.calvin_types.specs.declared.fault.Fault.TheVariants.{OutOfMemory}
use Rattle.calvin_app.specs.Meaning.{Meaning}
use Rattle.calvin_order.specs.Configs.{Config}
use Rattle.calvin_world.specs.declared.event.Event.{Event}
use Rattle.calvin_world.specs.declared.event.Outcome.{Outcome}
use Rattle.calvin_world.specs.declared.event.Outcome.TheVariants.{Done, Refused}
use Rattle.calvin_world.specs.Worlds.{WorldState, opening}
use Rattle.calvin_world.specs.SettledWorlds.{settles, SettledStep, SettledLeads}
use Rattle.calvin_world.specs.RunningWorlds.{IsReached}
use Rattle.calvin_world.specs.Through.{WithoutWant}
use Rattle.calvin_world.proofs.Led.{settled_led}
use Rattle.calvin_book.specs.Books.{done_each, IsRun, world_after, Applied, CountsSent}

not_refused : {f : Fault} → Done ≡ Refused f → ⊥
not_refused e = cc

module _ {Args : Type 0} where
  well : (events : List (Event Args)) → WithoutWant (done_each events)
  well [] = tt
  well (event ∷ events) = (not_refused, well events)

  pub done_more : (events : List (Event Args)) (event : Event Args) → done_each (events ++ event ∷ []) ≡ done_each events ++ Done ∷ []
  done_more [] event = refl
  done_more (e ∷ events) event = ap (λ os. Done ∷ os) (done_more events event)

module _ {Args Row Reply : Type 0} (m : Meaning Args Row Reply) where
  leads_on : (w : WorldState Args Row Reply) (events : List (Event Args)) (v : WorldState Args Row Reply) (event : Event Args) (after : WorldState Args Row Reply) → SettledLeads m w events (done_each events) v → SettledStep m v event Done after
      → SettledLeads m w (events ++ event ∷ []) (done_each (events ++ event ∷ [])) after
  leads_on w [] v event after run step = (after, subst (λ u. SettledStep m u event Done after) run step, refl)
  leads_on w (e ∷ events) v event after run step = (run.0, run.1, leads_on run.0 events v event after run.2 step)

  pub run_more : (c : Config) (events : List (Event Args)) (w : WorldState Args Row Reply) (event : Event Args) (after : WorldState Args Row Reply) → IsRun m c events w → SettledStep m w event Done after → IsRun m c (events ++ event ∷ []) after
  run_more c events w event after run step = leads_on (opening c) events w event after run step

  pub run_is : (c : Config) (events : List (Event Args)) (w : WorldState Args Row Reply) → IsRun m c events w → w ≡ world_after m c events
  run_is c events w run = (settled_led m c events (done_each events) w run (well events)).1

  pub run_reached : (events : List (Event Args)) (w : WorldState Args Row Reply) → IsRun m w.config events w → IsReached m w
  run_reached events w run = (events, done_each events, run)

  -- ---- what is refused

  pub refused_why : (w : WorldState Args Row Reply) (event : Event Args) (f : Fault) (after : WorldState Args Row Reply) → SettledStep m w event (Refused f) after → ((settles m w event).0 ≡ Refused f) ⊎ (f ≡ OutOfMemory)
  refused_why w event f after (inl e) = inl (sym (ap (λ (y : Outcome × WorldState Args Row Reply). y.0) e))
  refused_why w event f after (inr e) = inr (same f OutOfMemory e.2)
    where
      same : (a b : Fault) → Refused a ≡ Refused b → a ≡ b
      same a b e = cc

  -- ---- what takes effect

  did_settle : (w : WorldState Args Row Reply) (event : Event Args) (after : WorldState Args Row Reply) → SettledStep m w event Done after → (Done, after) ≡ settles m w event
  did_settle w event after (inl e) = e
  did_settle w event after (inr e) = absurd (not_refused e.2)

  pub applied : (c : Config) (events : List (Event Args)) (w : WorldState Args Row Reply) (event : Event Args) (after : WorldState Args Row Reply) → IsRun m c events w → SettledStep m w event Done after
      → Applied m (record { config = c; events = events }) event (record { config = c; events = events ++ event ∷ [] })
  applied c events w event after run step = record {
    appended = refl;
    takes = (λ i. (Done, sym (run_is c (events ++ event ∷ []) after (run_more c events w event after run step)) i)) ∙ did_settle w event after step ∙ (λ i. settles m (run_is c events w run i) event);
  }

  -- ---- how many packets had been sent

  pub counted_none : (c : Config) → CountsSent m c [] []
  counted_none c = record { number = refl; each = λ k n there. absurd (none k n there) }
    where
      none : (k n : ℕ) → ◌≡◌ {A = Option ℕ} None (Some n) → ⊥
      none k n e = cc

  pub counted_more : (c : Config) (events : List (Event Args)) (sent : List ℕ) → CountsSent m c events sent → (event : Event Args) (after : WorldState Args Row Reply) → IsRun m c (events ++ event ∷ []) after → (n : ℕ) → n ≡ length after.packets
      → CountsSent m c (events ++ event ∷ []) (sent ++ n ∷ [])
  counted_more c events sent counted event after run n is = record {
    number = length-append sent (n ∷ []) ∙ ap (λ k. k + 1) counted.number ∙ sym (length-append events (event ∷ []));
    each = λ k p there. go k p (split sent k p there);
  }
    where
      split : (xs : List ℕ) (k p : ℕ) → slice_get (xs ++ n ∷ []) k ≡ Some p → (slice_get xs k ≡ Some p) ⊎ ((k ≡ length xs) × (p ≡ n))
      split [] zero p there = inr (refl, (let e : p ≡ n = cc in e))
      split [] (suc k) p there = absurd (cc)
      split (x ∷ xs) zero p there = inl there
      split (x ∷ xs) (suc k) p there = elim (split xs k p there) [
        | inl at ↦ inl at
        | inr last ↦ inr (ap suc last.0, last.1)
      ]

      go : (k p : ℕ) → (slice_get sent k ≡ Some p) ⊎ ((k ≡ length sent) × (p ≡ n)) → p ≡ length (world_after m c (take (suc k) (events ++ event ∷ []))).packets
      go k p (inl at) =
          counted.each k p at
          ∙ ap (λ es. length (world_after m c es).packets) (sym (take-append-le (suc k) events (event ∷ []) (let h = slice_get_within sent k p at in omega (arith, h, counted.number))))
      go k p (inr last) =
          last.1 ∙ is ∙ ap (λ (v : WorldState Args Row Reply). length v.packets) (run_is c (events ++ event ∷ []) after run)
          ∙ ap (λ es. length (world_after m c es).packets) (sym (take_whole (events ++ event ∷ []) (suc k) (let h = length-append events (event ∷ []) in omega (arith, h, last.0, counted.number))))
        where
          take_whole : (xs : List (Event Args)) (j : ℕ) → length xs ≤ j → take j xs ≡ xs
          take_whole [] zero le = refl
          take_whole [] (suc j) le = refl
          take_whole (x ∷ xs) zero le = absurd (omega (arith, le))
          take_whole (x ∷ xs) (suc j) le = ap (λ ys. x ∷ ys) (take_whole xs j (omega (arith, le)))
