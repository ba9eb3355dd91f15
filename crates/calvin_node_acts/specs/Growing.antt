-- Where memory may be wanted: what keeps or sends more where it takes effect. A batch, an attempt, requests to admit, a
-- request that waits, rows that are read or loaded or change their table, a snapshot or a packet. A request that waits has
-- room for the rows that come. The notion is of this project.
use Rattle.std.specs.Prelude.{ℕ, zero, suc, Bool, true, false, [], ◌∷◌, ◌++◌}
use Rattle.calvin_types.specs.Orders.{Order}
use Rattle.calvin_types.specs.Participants.{Site, has_local_key}
use Rattle.calvin_synod.specs.Cases.{message_grows}
use Rattle.calvin_order.specs.Configs.{Config}
use Rattle.calvin_store.specs.Points.{warm_grows}
use Rattle.calvin_sched.specs.Scheduling.{turn_at, serves_others}
use Rattle.calvin_node_packets.specs.declared.packet.Content.{Content}
use Rattle.calvin_node_packets.specs.declared.packet.Content.TheVariants.{Synod, Reads, Warm}
use Rattle.calvin_node_acts.specs.NodeStates.{NodeState, site_of}
use Rattle.calvin_node_acts.specs.declared.act.Act.{Act}
use Rattle.calvin_node_acts.specs.declared.act.Act.TheVariants.{Merge, Lock, Begin, Restart, Mark}
use Rattle.calvin_node_acts.specs.Acting.{next_merged}

module _ {Args : Type 0} where
  abbrev pub is_some_request : Order Args → Bool
  is_some_request [] = false
  is_some_request (e ∷ rest) = true

  -- the first request has a key here; else it is passed over
  abbrev pub is_first_here : Site → Order Args → Bool
  is_first_here here [] = false
  is_first_here here (e ∷ rest) = has_local_key here e.1

-- there is a last snapshot, where it counts so many epochs
abbrev pub has_snapshot : ℕ → Bool
has_snapshot zero = false
has_snapshot (suc epochs) = true

module _ {Args Row : Type 0} where
  -- an event of the node itself. A request that begins grows only what is sent: rows that are read here, where another partition runs it too; and a restart without a snapshot loads none
  abbrev pub act_grows : Config → Act Args → NodeState Args Row → Bool
  act_grows c Merge x = is_some_request (next_merged c x)
  act_grows c Lock x = is_first_here (site_of c.partitions x) x.pending
  act_grows c (Begin q) x = serves_others (site_of c.partitions x) (turn_at x.scheduler q)
  act_grows c Restart x = has_snapshot x.kept_epochs
  act_grows c (Mark e) x = false
  act_grows c _ x = true

module _ {Args Row Reply : Type 0} where
  -- what a packet says. No row comes back where none of its keys has a cold one
  abbrev pub content_grows : Config → Content Args Row Reply → NodeState Args Row → Bool
  content_grows c (Synod message) x = message_grows message
  content_grows c (Reads place rows) x = false
  content_grows c (Warm sets) x = warm_grows c.cold (sets.reads ++ sets.writes) x.scheduler.store
  content_grows c _ x = true
