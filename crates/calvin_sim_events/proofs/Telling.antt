-- What an event made of the world, by how its call ended: not for want of memory, or for that.
--     told_step      where it didn't end for want of memory, the step is one of that outcome
--     told_quiet_by, told_quiet      then one event that is allowed led on
--     told_want      else it ended for want of memory
use Rattle.std.proofs.Common.{◌≡◌, ◌≢◌, ℕ, Bool, true, false, Result, Ok, Err, sym, subst}
use Rattle.std.specs.Prelude.{IfOk, OnOk, OnErr}
use Rattle.std.proofs.lemmas.Result.{IfOk-weaker}
use Rattle.calvin_types.specs.declared.fault.Fault.{Fault}
use Rattle.calvin_types.specs.declared.fault.Fault.TheVariants.{OutOfMemory}
use Rattle.calvin_app.specs.Meaning.{Meaning}
use Rattle.calvin_world.specs.declared.event.Event.{Event}
use Rattle.calvin_world.specs.declared.event.Outcome.{Outcome}
use Rattle.calvin_world.specs.declared.event.Outcome.TheVariants.{Refused}
use Rattle.calvin_world.specs.Worlds.{WorldState}
use Rattle.calvin_world.specs.SettledWorlds.{outcome_of, SettledStep}
use Rattle.calvin_sim_events.specs.declared.schedule.Restarts.{Restarts}
use Rattle.calvin_sim_events.specs.Quiet.{is_allowed, is_lossy, LeadsQuietly, LeadsQuietlyBy, LeadsToWant}
use Rattle.calvin_sim_events.proofs.Leading.{quiet_step, quiet_step_by, want_step}

module _ {Args Row Reply : Type 0} (m : Meaning Args Row Reply) (w v : WorldState Args Row Reply) (event : Event Args) (answer : Result (Unit {0}) Fault) (step : SettledStep m w event (outcome_of answer) v) where
  told_as : (outcome : Outcome) → outcome ≡ outcome_of answer → SettledStep m w event outcome v
  told_as outcome is = subst (λ o. SettledStep m w event o v) (sym is) step

  pub told_step : (r : Result Outcome Fault) → IfOk r (λ outcome. (outcome ≡ outcome_of answer) × (outcome ≢ Refused OutOfMemory)) → IfOk r (λ outcome. SettledStep m w event outcome v × (outcome ≢ Refused OutOfMemory))
  told_step r told = IfOk-weaker r (λ outcome. (outcome ≡ outcome_of answer) × (outcome ≢ Refused OutOfMemory)) (λ outcome. SettledStep m w event outcome v × (outcome ≢ Refused OutOfMemory)) (λ outcome is. (told_as outcome is.0, is.1)) told

  module _ (restarts : Restarts) (lost : ℕ → Bool) (allowed : is_allowed restarts event ≡ true) (kept : is_lossy lost w.packets event ≡ false) where
    pub told_quiet_by : (r : Result Outcome Fault) → IfOk r (λ outcome. (outcome ≡ outcome_of answer) × (outcome ≢ Refused OutOfMemory)) → OnOk r (LeadsQuietlyBy m restarts lost 1 w v)
    told_quiet_by (Ok outcome) told = quiet_step_by m restarts lost w v event outcome allowed kept (told_as outcome told.0) told.1
    told_quiet_by (Err fault) told = tt

    pub told_quiet : (r : Result Outcome Fault) → IfOk r (λ outcome. (outcome ≡ outcome_of answer) × (outcome ≢ Refused OutOfMemory)) → OnOk r (LeadsQuietly m restarts lost w v)
    told_quiet (Ok outcome) told = quiet_step m restarts lost w v event outcome allowed kept (told_as outcome told.0) told.1
    told_quiet (Err fault) told = tt

    pub told_want : (r : Result Outcome Fault) → OnErr r (outcome_of answer ≡ Refused OutOfMemory) → OnErr r (LeadsToWant m restarts lost w v)
    told_want (Ok outcome) want = tt
    told_want (Err fault) want = want_step m restarts lost w v event allowed kept (subst (λ o. SettledStep m w event o v) want step)
