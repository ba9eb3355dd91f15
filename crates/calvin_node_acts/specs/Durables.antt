-- The durable record of a node, and a node that is opened from one in a store whose order may have changed (Thomson et al.
-- 2012, section 5: a node loads a checkpoint and replays the agreed inputs).
use Rattle.std.specs.Prelude.{ℕ, Bool, true, false, ◌&&◌, ◌||◌, not, nat_eq, nat_lt, if◌then◌else◌, Option, Some, None, Result, Ok, Err}
use Rattle.calvin_types.specs.declared.fault.Fault.{Fault}
use Rattle.calvin_types.specs.declared.fault.Fault.TheVariants.{OrderChanged}
use Rattle.calvin_types.specs.declared.place.NodeId.{NodeId}
use Rattle.calvin_app.specs.Rows.{Rows}
use Rattle.calvin_synod.specs.Cases.{replica_from}
use Rattle.calvin_synod.specs.Roles.{Records}
use Rattle.calvin_order.specs.Configs.{Config}
use Rattle.calvin_order.specs.Merged.{Batch}
use Rattle.calvin_node_acts.specs.NodeStates.{NodeState, node_from}

-- what outlives a restart, and the first woven epoch under which it was made
pub record Durable (Args Row : Type 0) : Type 0 where
  -- promises and votes, by slot
  pub acceptor : Records (Batch Args)
  -- the greatest round used
  pub used : ℕ
  -- the last snapshot: of how many epochs, and its rows
  pub kept_epochs : ℕ
  pub kept_rows : Rows Row
  pub woven_from : Option ℕ

-- a number is below a bound; that there is none is not
abbrev pub is_below : Option ℕ → ℕ → Bool
is_below None n = false
is_below (Some e) n = nat_lt e n

abbrev pub is_same : Option ℕ → Option ℕ → Bool
is_same None None = true
is_same None (Some f) = false
is_same (Some e) None = false
is_same (Some e) (Some f) = nat_eq e f

-- of the first n epochs some may be ordered otherwise under these two first woven epochs
abbrev pub is_order_changed : Option ℕ → Option ℕ → ℕ → Bool
is_order_changed a b n = not (is_same a b) && (is_below a n || is_below b n)

module _ {Args Row : Type 0} where
  -- the record of a node
  abbrev pub durable_of : Config → NodeState Args Row → Durable Args Row
  durable_of c x = record { acceptor = x.synod.acceptor; used = x.synod.proposer.used; kept_epochs = x.kept_epochs; kept_rows = x.kept_rows; woven_from = c.woven_from }

  -- a node with this record
  abbrev pub opened_by : NodeId → Durable Args Row → NodeState Args Row
  opened_by id d = node_from id (replica_from d.acceptor d.used) d.kept_epochs d.kept_rows

  -- a node that is opened from a record: the epochs of its snapshot have to be ordered as they were
  abbrev pub from_durable : Config → NodeId → Durable Args Row → Result (NodeState Args Row) Fault
  from_durable c id d = if is_order_changed c.woven_from d.woven_from d.kept_epochs then Err OrderChanged else Ok (opened_by id d)
