-- Events that follow the submissions: they submit and close nothing, no node restarts in them but as it may, no packet is
-- delivered that is lost, and none of them ends for want of memory. What a world makes of events is that of a whole store
-- (Thomson et al. 2012, section 3; "Paxos Made Simple", section 2: messages are lost); the notions are of this project.
--     is_quiet event      it submits and closes nothing
--     may_restart restarts id      the node may restart, where restarts are as this says
--     is_allowed restarts event      it is quiet, and if a node restarts by it, that node may
--     is_lossy lost packets event      it delivers one of these packets, which a node of a replica sent whose packets are lost
--     everyone      the packets of all replicas are lost: so none is delivered
--     LeadsLosing m lost w events outcomes v      these events lead from w to v, and none of them is lossy
--     LeadsQuietly m restarts lost w v      some events that are allowed lead from w to v, none of which is lossy or ended for want of memory
--     LeadsQuietlyBy m restarts lost n w v      so many such events do
--     LeadsToWant m restarts lost w v      such events lead from w to a world where one more that is allowed then ended for want of memory, which led to v
use Rattle.std.specs.Prelude.{◌≡◌, ℕ, Bool, true, false, nat_lt, List, [], ◌∷◌, length, Option, Some, None, slice_get}
use Rattle.std.specs.List.{list_all}
use Rattle.calvin_types.specs.declared.fault.Fault.TheVariants.{OutOfMemory}
use Rattle.calvin_types.specs.declared.place.NodeId.{NodeId}
use Rattle.calvin_app.specs.Meaning.{Meaning}
use Rattle.calvin_node_packets.specs.declared.packet.Packet.{Packet}
use Rattle.calvin_node_acts.specs.declared.act.Act.TheVariants.{Submit, SubmitCold, Close, Restart}
use Rattle.calvin_world.specs.declared.event.Event.{Event}
use Rattle.calvin_world.specs.declared.event.Event.TheVariants.{At, Deliver}
use Rattle.calvin_world.specs.declared.event.Outcome.{Outcome}
use Rattle.calvin_world.specs.declared.event.Outcome.TheVariants.{Refused}
use Rattle.calvin_world.specs.Worlds.{WorldState}
use Rattle.calvin_world.specs.SettledWorlds.{SettledStep}
use Rattle.calvin_world.specs.Through.{WithoutWant}
use Rattle.calvin_sim_events.specs.declared.schedule.Restarts.{Restarts}
use Rattle.calvin_sim_events.specs.declared.schedule.Restarts.TheVariants.{Never, AboveReplicaZero}

abbrev pub is_quiet : {Args : Type 0} → Event Args → Bool
is_quiet (At id (Submit t)) = false
is_quiet (At id (SubmitCold t)) = false
is_quiet (At id Close) = false
is_quiet event = true

abbrev pub may_restart : Restarts → NodeId → Bool
may_restart Never id = false
may_restart AboveReplicaZero id = nat_lt 0 id.replica

abbrev pub is_allowed : {Args : Type 0} → Restarts → Event Args → Bool
is_allowed restarts (At id Restart) = may_restart restarts id
is_allowed restarts event = is_quiet event

-- ---- losses

abbrev pub everyone : ℕ → Bool
everyone r = true

module _ {Args Row Reply : Type 0} where
  -- a packet, if there is one, was sent by a node of a replica whose packets are lost
  abbrev pub is_of_lost : (ℕ → Bool) → Option (Packet Args Row Reply) → Bool
  is_of_lost lost None = false
  is_of_lost lost (Some p) = lost p.from.replica

  abbrev pub is_lossy : (ℕ → Bool) → List (Packet Args Row Reply) → Event Args → Bool
  is_lossy lost packets (At id act) = false
  is_lossy lost packets (Deliver number) = is_of_lost lost (slice_get packets number)

module _ {Args Row Reply : Type 0} (m : Meaning Args Row Reply) where
  abbrev pub LeadsLosing : (ℕ → Bool) → WorldState Args Row Reply → List (Event Args) → List Outcome → WorldState Args Row Reply → Type 0
  LeadsLosing lost w [] [] v = v ≡ w
  LeadsLosing lost w [] (outcome ∷ outcomes) v = ⊥
  LeadsLosing lost w (event ∷ events) [] v = ⊥
  LeadsLosing lost w (event ∷ events) (outcome ∷ outcomes) v = (next : WorldState Args Row Reply) × SettledStep m w event outcome next
      × (is_lossy lost w.packets event ≡ false) × LeadsLosing lost next events outcomes v

module _ {Args Row Reply : Type 0} (m : Meaning Args Row Reply) (restarts : Restarts) (lost : ℕ → Bool) where
  pub record LeadsQuietly (w v : WorldState Args Row Reply) : Type 0 where
    pub events : List (Event Args)
    pub outcomes : List Outcome
    pub allowed : list_all (is_allowed restarts) events ≡ true
    pub well : WithoutWant outcomes
    pub leads : LeadsLosing m lost w events outcomes v

  pub record LeadsQuietlyBy (n : ℕ) (w v : WorldState Args Row Reply) : Type 0 where
    pub quiet : LeadsQuietly w v
    pub number : length quiet.events ≡ n

  pub record LeadsToWant (w v : WorldState Args Row Reply) : Type 0 where
    pub until : WorldState Args Row Reply
    pub quiet : LeadsQuietly w until
    pub event : Event Args
    pub allowed : is_allowed restarts event ≡ true
    pub kept : is_lossy lost until.packets event ≡ false
    pub want : SettledStep m until event (Refused OutOfMemory) v
