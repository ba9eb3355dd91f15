-- Events one after another, and those that follow the submissions.
--     leads_then      events that follow others
--     losing_then, losing_leads, losing_less      the same where some packets are lost; they lead as in any world; fewer are lost
--     well_then      no want of memory among them, if there was none before and none after
--     quiet_here, quiet_step, quiet_then      no event, one, and some after others, that are allowed and want no memory
--     want_step, want_then      one that wants memory, and such after such events
--     quiet_then_ok, want_then_err      the same where the later ones are those of a call
--     quiet_here_by, quiet_step_by, quiet_then_by, want_then_by      the same of so many events
--     quiet_less, want_less      where all packets are lost, none is delivered: so they lead on where fewer are
use Rattle.std.proofs.Common.{◌≡◌, ◌≢◌, ◌+◌, ℕ, Bool, true, false, ◌&&◌, List, [], ◌∷◌, ◌++◌, slice_get, Option, Some, None, refl, sym, subst, ◌∙◌, Result}
use Rattle.std.specs.Prelude.{OnOk, OnErr}
use Rattle.std.proofs.lemmas.Bool.{false≢true}
use Rattle.std.proofs.lemmas.List.{length-append}
use Rattle.std.proofs.lemmas.List.Folds.{list_all-append}
use Rattle.std.proofs.lemmas.Result.{on_ok_weaker, on_err_weaker}
use Rattle.std.specs.List.{list_all}
use Rattle.calvin_types.specs.declared.fault.Fault.{Fault}
use Rattle.calvin_types.specs.declared.fault.Fault.TheVariants.{OutOfMemory}
use Rattle.calvin_app.specs.Meaning.{Meaning}
use Rattle.calvin_node_packets.specs.declared.packet.Packet.{Packet}
use Rattle.calvin_world.specs.declared.event.Event.{Event}
use Rattle.calvin_world.specs.declared.event.Event.TheVariants.{At, Deliver}
use Rattle.calvin_world.specs.declared.event.Outcome.{Outcome}
use Rattle.calvin_world.specs.declared.event.Outcome.TheVariants.{Refused}
use Rattle.calvin_world.specs.Worlds.{WorldState}
use Rattle.calvin_world.specs.SettledWorlds.{SettledStep, SettledLeads}
use Rattle.calvin_world.specs.Through.{WithoutWant}
use Rattle.calvin_sim_events.specs.declared.schedule.Restarts.{Restarts}
use Rattle.calvin_sim_events.specs.Quiet.{is_allowed, is_of_lost, is_lossy, everyone, LeadsLosing, LeadsQuietly, LeadsQuietlyBy, LeadsToWant}

both : (a b : Bool) → a ≡ true → b ≡ true → (a && b) ≡ true
both true true p q = refl
both true false p q = q
both false b p q = p

pub well_then : (outcomes more : List Outcome) → WithoutWant outcomes → WithoutWant more → WithoutWant (outcomes ++ more)
well_then [] more first next = next
well_then (o ∷ outcomes) more first next = (first.0, well_then outcomes more first.1 next)

module _ {Args Row Reply : Type 0} (lost : ℕ → Bool) where
  of_lost_less : (o : Option (Packet Args Row Reply)) → is_of_lost everyone o ≡ false → is_of_lost lost o ≡ false
  of_lost_less None is = refl
  of_lost_less (Some p) is = absurd (false≢true (sym is))

  -- what delivers nothing delivers no lost packet
  pub lossy_less : (packets : List (Packet Args Row Reply)) (event : Event Args) → is_lossy everyone packets event ≡ false → is_lossy lost packets event ≡ false
  lossy_less packets (At id act) is = refl
  lossy_less packets (Deliver number) is = of_lost_less (slice_get packets number) is

module _ {Args Row Reply : Type 0} (m : Meaning Args Row Reply) where
  pub leads_then : (u v w : WorldState Args Row Reply) (events : List (Event Args)) (outcomes : List Outcome) (later : List (Event Args)) (more : List Outcome)
      → SettledLeads m u events outcomes v → SettledLeads m v later more w → SettledLeads m u (events ++ later) (outcomes ++ more) w
  leads_then u v w [] [] later more first next = subst (λ x. SettledLeads m x later more w) first next
  leads_then u v w [] (o ∷ os) later more first next = absurd first
  leads_then u v w (e ∷ es) [] later more first next = absurd first
  leads_then u v w (e ∷ es) (o ∷ os) later more first next = (first.0, first.1, leads_then first.0 v w es os later more first.2 next)

  pub losing_then : (lost : ℕ → Bool) (u v w : WorldState Args Row Reply) (events : List (Event Args)) (outcomes : List Outcome) (later : List (Event Args)) (more : List Outcome)
      → LeadsLosing m lost u events outcomes v → LeadsLosing m lost v later more w → LeadsLosing m lost u (events ++ later) (outcomes ++ more) w
  losing_then lost u v w [] [] later more first next = subst (λ x. LeadsLosing m lost x later more w) first next
  losing_then lost u v w [] (o ∷ os) later more first next = absurd first
  losing_then lost u v w (e ∷ es) [] later more first next = absurd first
  losing_then lost u v w (e ∷ es) (o ∷ os) later more first next = (first.0, first.1, first.2, losing_then lost first.0 v w es os later more first.3 next)

  pub losing_leads : (lost : ℕ → Bool) (u v : WorldState Args Row Reply) (events : List (Event Args)) (outcomes : List Outcome) → LeadsLosing m lost u events outcomes v → SettledLeads m u events outcomes v
  losing_leads lost u v [] [] leads = leads
  losing_leads lost u v [] (o ∷ os) leads = absurd leads
  losing_leads lost u v (e ∷ es) [] leads = absurd leads
  losing_leads lost u v (e ∷ es) (o ∷ os) leads = (leads.0, leads.1, losing_leads lost leads.0 v es os leads.3)

  pub losing_less : (lost : ℕ → Bool) (u v : WorldState Args Row Reply) (events : List (Event Args)) (outcomes : List Outcome) → LeadsLosing m everyone u events outcomes v → LeadsLosing m lost u events outcomes v
  losing_less lost u v [] [] leads = leads
  losing_less lost u v [] (o ∷ os) leads = absurd leads
  losing_less lost u v (e ∷ es) [] leads = absurd leads
  losing_less lost u v (e ∷ es) (o ∷ os) leads = (leads.0, leads.1, lossy_less lost u.packets e leads.2, losing_less lost leads.0 v es os leads.3)

  module _ (restarts : Restarts) (lost : ℕ → Bool) where
    pub quiet_here : (w : WorldState Args Row Reply) → LeadsQuietly m restarts lost w w
    quiet_here w = record { events = []; outcomes = []; allowed = refl; well = tt; leads = refl }

    pub quiet_step : (w v : WorldState Args Row Reply) (event : Event Args) (outcome : Outcome) → is_allowed restarts event ≡ true → is_lossy lost w.packets event ≡ false → SettledStep m w event outcome v → outcome ≢ Refused OutOfMemory
        → LeadsQuietly m restarts lost w v
    quiet_step w v event outcome is kept step isnt = record { events = event ∷ []; outcomes = outcome ∷ []; allowed = both (is_allowed restarts event) true is refl; well = (isnt, tt); leads = (v, step, kept, refl) }

    pub quiet_then : (u v w : WorldState Args Row Reply) → LeadsQuietly m restarts lost u v → LeadsQuietly m restarts lost v w → LeadsQuietly m restarts lost u w
    quiet_then u v w first next = record {
      events = first.events ++ next.events;
      outcomes = first.outcomes ++ next.outcomes;
      allowed = list_all-append (is_allowed restarts) first.events next.events ∙ both (list_all (is_allowed restarts) first.events) (list_all (is_allowed restarts) next.events) first.allowed next.allowed;
      well = well_then first.outcomes next.outcomes first.well next.well;
      leads = losing_then lost u v w first.events first.outcomes next.events next.outcomes first.leads next.leads;
    }

    pub want_then : (u v w : WorldState Args Row Reply) → LeadsQuietly m restarts lost u v → LeadsToWant m restarts lost v w → LeadsToWant m restarts lost u w
    want_then u v w first next = record {
      until = next.until;
      quiet = quiet_then u v next.until first next.quiet;
      event = next.event;
      allowed = next.allowed;
      kept = next.kept;
      want = next.want;
    }

    -- the same of what a call that comes next makes of it
    pub quiet_then_ok : {X : Type 0} (u v w : WorldState Args Row Reply) (result : Result X Fault) → LeadsQuietly m restarts lost u v → OnOk result (LeadsQuietly m restarts lost v w) → OnOk result (LeadsQuietly m restarts lost u w)
    quiet_then_ok u v w result first = on_ok_weaker result (quiet_then u v w first)

    pub want_then_err : {X : Type 0} (u v w : WorldState Args Row Reply) (result : Result X Fault) → LeadsQuietly m restarts lost u v → OnErr result (LeadsToWant m restarts lost v w) → OnErr result (LeadsToWant m restarts lost u w)
    want_then_err u v w result first = on_err_weaker result (want_then u v w first)

    pub quiet_here_by : (w : WorldState Args Row Reply) → LeadsQuietlyBy m restarts lost 0 w w
    unfolding quiet_here
    quiet_here_by w = record { quiet = quiet_here w; number = refl }

    pub quiet_then_by : (u v w : WorldState Args Row Reply) (n k : ℕ) → LeadsQuietlyBy m restarts lost n u v → LeadsQuietlyBy m restarts lost k v w → LeadsQuietlyBy m restarts lost (n + k) u w
    unfolding quiet_then
    quiet_then_by u v w n k first next = record {
      quiet = quiet_then u v w first.quiet next.quiet;
      number = length-append first.quiet.events next.quiet.events ∙ (λ i. first.number i + next.number i);
    }

    pub want_then_by : (u v w : WorldState Args Row Reply) (n : ℕ) → LeadsQuietlyBy m restarts lost n u v → LeadsToWant m restarts lost v w → LeadsToWant m restarts lost u w
    want_then_by u v w n first next = want_then u v w first.quiet next

    pub quiet_step_by : (w v : WorldState Args Row Reply) (event : Event Args) (outcome : Outcome) → is_allowed restarts event ≡ true → is_lossy lost w.packets event ≡ false → SettledStep m w event outcome v → outcome ≢ Refused OutOfMemory
        → LeadsQuietlyBy m restarts lost 1 w v
    unfolding quiet_step
    quiet_step_by w v event outcome is kept step isnt = record { quiet = quiet_step w v event outcome is kept step isnt; number = refl }

    pub want_step : (w v : WorldState Args Row Reply) (event : Event Args) → is_allowed restarts event ≡ true → is_lossy lost w.packets event ≡ false → SettledStep m w event (Refused OutOfMemory) v → LeadsToWant m restarts lost w v
    want_step w v event is kept step = record { until = w; quiet = quiet_here w; event = event; allowed = is; kept = kept; want = step }

    pub quiet_less : (w v : WorldState Args Row Reply) → LeadsQuietly m restarts everyone w v → LeadsQuietly m restarts lost w v
    quiet_less w v quiet = record { events = quiet.events; outcomes = quiet.outcomes; allowed = quiet.allowed; well = quiet.well; leads = losing_less lost w v quiet.events quiet.outcomes quiet.leads }

    pub want_less : (w v : WorldState Args Row Reply) → LeadsToWant m restarts everyone w v → LeadsToWant m restarts lost w v
    want_less w v want = record {
      until = want.until;
      quiet = quiet_less w want.until want.quiet;
      event = want.event;
      allowed = want.allowed;
      kept = lossy_less lost want.until.packets want.event want.kept;
      want = want.want;
    }
