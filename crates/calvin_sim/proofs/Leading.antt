-- Events one after another.
--     done_one, done_then      one event with effect, and such after others
use Rattle.std.proofs.Common.{suc, List, [], ◌∷◌, ◌++◌, map, refl, sym, subst}
use Rattle.std.proofs.lemmas.List.{map-append}
use Rattle.calvin_app.specs.Meaning.{Meaning}
use Rattle.calvin_world.specs.declared.event.Event.{Event}
use Rattle.calvin_world.specs.declared.event.Outcome.{Outcome}
use Rattle.calvin_world.specs.declared.event.Outcome.TheVariants.{Done}
use Rattle.calvin_world.specs.Worlds.{WorldState, opening}
use Rattle.calvin_world.specs.SettledWorlds.{SettledStep, SettledLeads}
use Rattle.calvin_script.specs.Scripts.{Contents}
use Rattle.calvin_report.specs.Reports.{is_lost}
use Rattle.calvin_sim_events.proofs.Leading.{leads_then, losing_leads}
use Rattle.calvin_sim_events.proofs.Passing.{passes_lead}
use Rattle.calvin_sim_events.specs.Quiet.{LeadsQuietly}
use Rattle.calvin_sim_events.specs.declared.schedule.Restarts.TheVariants.{Never}
use Rattle.calvin_sim_events.specs.declared.schedule.Schedule.{Schedule}
use Rattle.calvin_sim.specs.Simulations.{config_under, submissions, AllDone, IsSimulation}

module _ {Args Row Reply : Type 0} (m : Meaning Args Row Reply) where
  pub done_one : (w v : WorldState Args Row Reply) (event : Event Args) → SettledStep m w event Done v → AllDone m w (event ∷ []) v
  done_one w v event step = (v, step, refl)

  pub done_then : (u v w : WorldState Args Row Reply) (events later : List (Event Args)) → AllDone m u events v → AllDone m v later w → AllDone m u (events ++ later) w
  done_then u v w events later first next =
      subst (λ os. SettledLeads m u (events ++ later) os w) (sym (map-append (λ (e : Event Args). Done) events later))
      (leads_then m u v w events (map (λ e. Done) events) later (map (λ e. Done) later) first next)

  -- what leads by events that are joined leads by each part
  pub done_split : (u w : WorldState Args Row Reply) (events later : List (Event Args)) → AllDone m u (events ++ later) w → (v : WorldState Args Row Reply) × AllDone m u events v × AllDone m v later w
  done_split u w [] later all = (u, refl, all)
  done_split u w (e ∷ es) later all = let rest = done_split all.0 w es later all.2 in (rest.0, (all.0, all.1, rest.1), rest.2)

  -- a simulation's events: the submissions, the drawn ones, and those of the passes
  module _ (schedule : Schedule) (script : Contents Args) (v : WorldState Args Row Reply) (s : IsSimulation m schedule script v) where
    abbrev on : LeadsQuietly m Never (is_lost schedule.lost) s.drawn v
    on = passes_lead m (is_lost schedule.lost) schedule.repeats (suc s.more) s.drawn v s.follows

    abbrev pub simulation_events : List (Event Args)
    simulation_events = submissions script ++ (s.draws.quiet.events ++ on.events)

    abbrev pub simulation_outcomes : List Outcome
    simulation_outcomes = map (λ e. Done) (submissions script) ++ (s.draws.quiet.outcomes ++ on.outcomes)

    pub simulation_leads : SettledLeads m (opening (config_under schedule script)) simulation_events simulation_outcomes v
    simulation_leads =
        let lost = is_lost schedule.lost in
        let quiet = leads_then m s.submitted s.drawn v s.draws.quiet.events s.draws.quiet.outcomes on.events on.outcomes
        (losing_leads m lost s.submitted s.drawn s.draws.quiet.events s.draws.quiet.outcomes s.draws.quiet.leads)
        (losing_leads m lost s.drawn v on.events on.outcomes on.leads) in
        leads_then m (opening (config_under schedule script)) s.submitted v (submissions script) (map (λ e. Done) (submissions script)) (s.draws.quiet.events ++ on.events) (s.draws.quiet.outcomes ++ on.outcomes) s.submits quiet
