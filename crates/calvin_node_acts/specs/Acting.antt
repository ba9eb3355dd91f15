-- What each of the other events makes of its node: those of the sequencer, the order, the scheduler and the durable record
-- (Thomson et al. 2012, sections 3 to 5). An event that is refused changes nothing; refusals are looked at in the order of
-- the tests.
use Rattle.std.specs.Prelude.{ℕ, suc, ◌&&◌, Bool, nat_le, nat_lt, if◌then◌else◌, List, [], ◌∷◌, ◌++◌, Option, Some, None}
use Rattle.std.specs.List.{filter, list_all, range_with_len}
use Rattle.std.specs.FinMap.{contains_key}
use Rattle.calvin_types.specs.declared.fault.Fault.TheVariants as fault
use Rattle.calvin_types.specs.declared.key.Key.{Key}
use Rattle.calvin_types.specs.declared.place.NodeId.{NodeId}
use Rattle.calvin_types.specs.declared.place.Place.{Place}
use Rattle.calvin_types.specs.declared.place.Slot.{Slot}
use Rattle.calvin_types.specs.declared.txn.Txn.{Txn}
use Rattle.calvin_types.specs.Deeds.{Deed, Refuses, Does}
use Rattle.calvin_types.specs.Orders.{Order}
use Rattle.calvin_app.specs.declared.answer.Answer.{Answer}
use Rattle.calvin_app.specs.Meaning.{Meaning}
use Rattle.calvin_synod.specs.Cases as synod
use Rattle.calvin_order.specs.Configs.{Config, merged}
use Rattle.calvin_order.specs.Merged.{Batch}
use Rattle.calvin_order.specs.Merging.{batch_at}
use Rattle.calvin_order.specs.Sequencing as sequencing
use Rattle.calvin_sched.specs.Scheduling.{Turn, Scheduling, turn_at, reads_here, awaits}
use Rattle.calvin_sched.specs.Steps as sched
use Rattle.calvin_app.specs.Rows.{Rows}
use Rattle.calvin_sched.specs.Standing.{local_places, take_rows, mark, cool}
use Rattle.calvin_node_packets.specs.declared.packet.Packet.{Packet}
use Rattle.calvin_node_packets.specs.declared.packet.Address.TheVariants.{AtNode, AtClient}
use Rattle.calvin_node_packets.specs.declared.packet.Content.TheVariants.{AskBatch, Reads, AskReads, Replies}
use Rattle.calvin_node_packets.specs.Packets.{to_each, others, participants, warm_packets}
use Rattle.calvin_node_acts.specs.NodeStates.{NodeState, site_of, own_slot, with_sequencer, with_scheduler, restarted}
use Rattle.calvin_node_acts.specs.Handling.{NodeDeed, by_synod, by_scheduler}
use Rattle.calvin_node_acts.specs.declared.act.Act.{Act}
use Rattle.calvin_node_acts.specs.declared.act.Act.TheVariants.{Submit, SubmitCold, Cool, Close, Merge, Lock, Restart, Propose, Snapshot, Mark, Begin, Finish, AskForReads, AskForBatch}

module _ {Args Row : Type 0} where
  -- each group's batch of the next epoch is held
  abbrev pub is_complete : Config → NodeState Args Row → Bool
  is_complete c x = list_all (λ g. contains_key x.held (record { epoch = x.merged_epochs; group = g })) (range_with_len 0 c.partitions)

  -- the requests of the next epoch
  abbrev pub next_merged : Config → NodeState Args Row → Order Args
  next_merged c x = merged c (batch_at x.held) x.merged_epochs

  -- rows that are awaited, by partition
  abbrev pub awaited_from : Config → NodeState Args Row → Option (Turn Args Row) → List ℕ
  awaited_from c x None = []
  awaited_from c x (Some turn) = filter (awaits (site_of c.partitions x) turn) (others c.partitions x.id.partition)

module _ {Args Row Reply : Type 0} where
  -- ---- the sequencer

  -- what the node makes of what its sequencer does
  abbrev pub by_sequencer : {Out : Type 0} → NodeState Args Row → List (Packet Args Row Reply) → Deed (sequencing.Sequencing Args) Out → NodeDeed Args Row Reply
  by_sequencer x packets (Refuses f) = Refuses f
  by_sequencer x packets (Does s out) = Does (with_sequencer x s) packets

  -- a request joins the queue
  abbrev pub submit : Txn Args → NodeState Args Row → NodeDeed Args Row Reply
  submit t x = by_sequencer x [] (sequencing.submit t x.sequencer)

  -- a request that may touch cold rows is held back, while its participants are told to warm them
  abbrev pub submit_cold : Config → Txn Args → NodeState Args Row → NodeDeed Args Row Reply
  submit_cold c t x = by_sequencer x (warm_packets c.partitions x.id t (participants c.partitions t)) (sequencing.submit_cold c.delay t x.sequencer)

  -- the next batch is closed
  abbrev pub close : Config → NodeState Args Row → NodeDeed Args Row Reply
  close c x = by_sequencer x [] (sequencing.close c.delay x.sequencer)

  -- the batch was closed since the last restart, and its slot isn't held
  abbrev pub propose_closed : Config → ℕ → NodeState Args Row → Option (Batch Args) → NodeDeed Args Row Reply
  propose_closed c e x None = Refuses fault.NotClosed
  propose_closed c e x (Some batch) =
      if contains_key x.held (own_slot x e)
      then Refuses fault.Decided
      else by_synod c x (synod.propose x.id.replica (own_slot x e) batch x.synod)

  -- a new ballot for the closed batch of an epoch
  abbrev pub propose : Config → ℕ → NodeState Args Row → NodeDeed Args Row Reply
  propose c e x =
      if synod.has_round x.synod
      then propose_closed c e x (sequencing.closed_in x.sequencer.closed e)
      else Refuses fault.RoundsSpent

  -- ---- the order

  -- the requests of the next epoch are to be admitted
  abbrev pub merge : Config → NodeState Args Row → NodeDeed Args Row Reply
  merge c x =
      if is_complete c x
      then Does (record x {
        merged_epochs = suc x.merged_epochs;
        due = x.due ++ local_places (site_of c.partitions x) (next_merged c x);
        pending = x.pending ++ next_merged c x;
      }) []
      else Refuses fault.NotComplete

  abbrev pub lock_by : NodeState Args Row → Order Args → Deed (Scheduling Args Row) (Unit {0}) → NodeDeed Args Row Reply
  lock_by x rest (Refuses f) = Refuses f
  lock_by x rest (Does s out) = Does (with_scheduler x s rest) []

  abbrev pub lock_first : Config → NodeState Args Row → Order Args → NodeDeed Args Row Reply
  lock_first c x [] = Refuses fault.NothingToLock
  lock_first c x (e ∷ rest) = lock_by x rest (sched.admit (site_of c.partitions x) e.0 e.1 x.scheduler)

  -- the next request is admitted, or passed over
  abbrev pub lock : Config → NodeState Args Row → NodeDeed Args Row Reply
  lock c x = lock_first c x x.pending

  -- ---- the scheduler

  -- rows that were read here are sent to the other partitions of the own replica that run the request
  abbrev pub served_to : Config → NodeState Args Row → Place → sched.Serving Args Row → List (Packet Args Row Reply)
  served_to c x q out = if reads_here (site_of c.partitions x) out.request then to_each x.id x.id.replica (Reads q out.rows) out.others else []

  abbrev pub begin_by : Config → NodeState Args Row → Place → Deed (Scheduling Args Row) (sched.Serving Args Row) → NodeDeed Args Row Reply
  begin_by c x q (Refuses f) = Refuses f
  begin_by c x q (Does s out) = Does (with_scheduler x s x.pending) (served_to c x q out)

  -- the request at a place begins
  abbrev pub begin : Config → Place → NodeState Args Row → NodeDeed Args Row Reply
  begin c q x = begin_by c x q (sched.begin (site_of c.partitions x) q x.scheduler)

  abbrev pub finish_by : NodeState Args Row → Place → Deed (Scheduling Args Row) (Txn Args × Answer Reply) → NodeDeed Args Row Reply
  finish_by x q (Refuses f) = Refuses f
  finish_by x q (Does s out) =
      Does (with_scheduler x s x.pending) (record { from = x.id; to = AtClient out.0.id.client; content = Replies q out.0.id out.0.attempt out.1 } ∷ [])

  -- the request at a place is run and written, and its client answered
  abbrev pub finish : Meaning Args Row Reply → Config → Place → NodeState Args Row → NodeDeed Args Row Reply
  finish m c q x = finish_by x q (sched.finish m (site_of c.partitions x) q x.scheduler)

  -- ---- snapshots

  -- rows that were taken become those of the record, which has to have none of this or a later epoch
  abbrev pub snapshot_by : ℕ → NodeState Args Row → Deed (Scheduling Args Row) (Rows Row) → NodeDeed Args Row Reply
  snapshot_by e x (Refuses f) = Refuses f
  snapshot_by e x (Does s rows) =
      if nat_le x.kept_epochs e
      then Does (record x { scheduler = s; kept_epochs = suc e; kept_rows = rows }) []
      else Refuses fault.Older

  -- the record's last snapshot is of the end of the epoch
  abbrev pub snapshot : ℕ → NodeState Args Row → NodeDeed Args Row Reply
  snapshot e x = snapshot_by e x (take_rows x.merged_epochs x.due (suc e) x.scheduler)

  -- ---- points, and cold rows

  -- a point is opened at the end of the epoch
  abbrev pub mark_end : Config → ℕ → NodeState Args Row → NodeDeed Args Row Reply
  mark_end c e x = by_scheduler x (mark c.points (suc e) x.scheduler)

  -- a row goes to the cold table
  abbrev pub cool_row : Config → Key → NodeState Args Row → NodeDeed Args Row Reply
  cool_row c k x = by_scheduler x (cool c.cold k x.scheduler)

  -- ---- asking

  abbrev pub ask_each : NodeState Args Row → Place → ℕ → List ℕ → NodeDeed Args Row Reply
  ask_each x q r [] = Refuses fault.NotAwaited
  ask_each x q r (p ∷ ps) = Does x (to_each x.id r (AskReads q) (p ∷ ps))

  -- rows that are awaited are asked of another replica
  abbrev pub ask_reads : Config → Place → ℕ → NodeState Args Row → NodeDeed Args Row Reply
  ask_reads c q r x =
      if nat_lt r c.replicas
      then ask_each x q r (awaited_from c x (turn_at x.scheduler q))
      else Refuses fault.NoNode

  -- a batch that isn't held is asked of another node
  abbrev pub ask_batch : Config → Slot → NodeId → NodeState Args Row → NodeDeed Args Row Reply
  ask_batch c slot of x =
      if nat_lt of.replica c.replicas && nat_lt of.partition c.partitions && nat_lt slot.group c.partitions
      then (if contains_key x.held slot then Refuses fault.Known else Does x (record { from = x.id; to = AtNode of; content = AskBatch slot } ∷ []))
      else Refuses fault.NoNode

  -- ---- restarts

  abbrev pub restart_by : NodeState Args Row → synod.Deed (Batch Args) → NodeDeed Args Row Reply
  restart_by x (synod.Refuses f) = Refuses f
  restart_by x (synod.Does s letters given) = Does (restarted x s) []

  -- the node becomes what its durable record gives
  abbrev pub restart : NodeState Args Row → NodeDeed Args Row Reply
  restart x = restart_by x (synod.restart x.synod)

-- ---- each of them, by its name

module _ {Args : Type 0} where
  -- the request that is submitted, if one is
  abbrev pub submitted : Act Args → Option (Txn Args)
  submitted (Submit t) = Some t
  submitted (SubmitCold t) = Some t
  submitted _ = None

module _ {Args Row Reply : Type 0} (m : Meaning Args Row Reply) (c : Config) where
  -- what it makes of the node
  abbrev pub deed_of : Act Args → NodeState Args Row → NodeDeed Args Row Reply
  deed_of (Submit t) = submit t
  deed_of (SubmitCold t) = submit_cold c t
  deed_of (Cool k) = cool_row c k
  deed_of Close = close c
  deed_of Merge = merge c
  deed_of Lock = lock c
  deed_of Restart = restart
  deed_of (Propose e) = propose c e
  deed_of (Snapshot e) = snapshot e
  deed_of (Mark e) = mark_end c e
  deed_of (Begin q) = begin c q
  deed_of (Finish q) = finish m c q
  deed_of (AskForReads q r) = ask_reads c q r
  deed_of (AskForBatch slot of) = ask_batch c slot of
