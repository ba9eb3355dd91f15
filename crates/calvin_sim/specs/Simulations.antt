-- What a simulation of a script under a schedule is: the script's batches are submitted and closed, all with effect; as many
-- events as the schedule says follow, and then passes that bring the nodes on, and both submit and close nothing. What a world
-- makes of events is that of a whole store (Thomson et al. 2012, section 3; "Paxos Made Simple", section 2); how a script is run
-- in one is of this project.
--     sequencer_of g      the node at which the requests of a group are submitted
--     submitting g requests      a batch is submitted there, request by request, and closed
--     submitting_epoch partitions epoch      each group's batch of an epoch is, by ascending group
--     submissions script      all that are listed are, epoch by epoch
--     listed_for g epochs      how many requests of a group these epochs list
--     fits script      a sequencer has room for all requests of its group, and each epoch has a number
--     AllTaken script      a sequencer takes each request that is listed, whatever it has taken before
--     AllDone m w events v      these events lead from w to v, each with effect
--     config_under schedule script      the nodes of the script's partitions, in as many replicas as the schedule says
--     IsSimulation m schedule script v      from the opening of these nodes the submissions of the script lead to v, then as many quiet events as the schedule says, with restarts as it says, and then passes without a restart, with packets repeated as it says; no packet is delivered that it loses, and no event ended for want of memory
use Rattle.std.specs.Prelude.{◌≡◌, ℕ, suc, Bool, true, ◌&&◌, nat_le, List, [], ◌∷◌, ◌++◌, map, length, sum_by}
use Rattle.std.specs.List.{flat_map, list_all, range_with_len}
use Rattle.calvin_types.specs.declared.limits.TheConstants.{MOST_UNDECIDED, MOST_EPOCHS}
use Rattle.calvin_types.specs.declared.place.NodeId.{NodeId}
use Rattle.calvin_app.specs.Meaning.{Meaning}
use Rattle.calvin_order.specs.Configs.{Config, store_config}
use Rattle.calvin_script.specs.declared.contents.Request.{Request}
use Rattle.calvin_script.specs.Scripts.{Contents, Listed, requests_of, are_taken}
use Rattle.calvin_node_acts.specs.declared.act.Act.TheVariants.{Submit, Close}
use Rattle.calvin_world.specs.declared.event.Event.{Event}
use Rattle.calvin_world.specs.declared.event.Event.TheVariants.{At}
use Rattle.calvin_world.specs.declared.event.Outcome.TheVariants.{Done}
use Rattle.calvin_world.specs.Worlds.{WorldState, opening}
use Rattle.calvin_world.specs.SettledWorlds.{SettledLeads}
use Rattle.calvin_report.specs.Reports.{is_lost}
use Rattle.calvin_sim_events.specs.declared.schedule.Schedule.{Schedule}
use Rattle.calvin_sim_events.specs.Passes.{Passes}
use Rattle.calvin_sim_events.specs.Quiet.{LeadsQuietlyBy}

abbrev pub sequencer_of : ℕ → NodeId
sequencer_of g = record { replica = 0; partition = g }

module _ {Args : Type 0} where
  -- ---- what is submitted

  abbrev pub submitting : ℕ → List (Request Args) → List (Event Args)
  submitting g requests = map (λ r. At (sequencer_of g) (Submit r.txn)) requests ++ At (sequencer_of g) Close ∷ []

  abbrev pub submitting_epoch : ℕ → List (Listed Args) → List (Event Args)
  submitting_epoch partitions epoch = flat_map (λ g. submitting g (requests_of g epoch)) (range_with_len 0 partitions)

  abbrev pub submissions : Contents Args → List (Event Args)
  submissions script = flat_map (submitting_epoch script.partitions) script.epochs

  -- ---- which scripts

  abbrev pub listed_for : ℕ → List (List (Listed Args)) → ℕ
  listed_for g epochs = sum_by (λ epoch. length (requests_of g epoch)) epochs

  abbrev pub fits : Contents Args → Bool
  fits script = list_all (λ g. nat_le (listed_for g script.epochs) MOST_UNDECIDED) (range_with_len 0 script.partitions) && nat_le (length script.epochs) MOST_EPOCHS

  abbrev pub AllTaken : Contents Args → Type 0
  AllTaken script = list_all (λ epoch. list_all (λ (b : Listed Args). are_taken b.requests) epoch) script.epochs ≡ true

  -- ---- in which world

  abbrev pub config_under : Schedule → Contents Args → Config
  config_under schedule script = store_config script.partitions schedule.replicas 0 script.woven_from

module _ {Args Row Reply : Type 0} (m : Meaning Args Row Reply) where
  abbrev pub AllDone : WorldState Args Row Reply → List (Event Args) → WorldState Args Row Reply → Type 0
  AllDone w events v = SettledLeads m w events (map (λ event. Done) events) v

  pub record IsSimulation (schedule : Schedule) (script : Contents Args) (v : WorldState Args Row Reply) : Type 0 where
    -- the worlds after the submissions, and after the drawn events
    pub submitted : WorldState Args Row Reply
    pub drawn : WorldState Args Row Reply
    pub submits : AllDone (opening (config_under schedule script)) (submissions script) submitted
    pub draws : LeadsQuietlyBy m schedule.restarts (is_lost schedule.lost) schedule.steps submitted drawn
    -- at least one pass
    pub more : ℕ
    pub follows : Passes m schedule.repeats (is_lost schedule.lost) (suc more) drawn v
