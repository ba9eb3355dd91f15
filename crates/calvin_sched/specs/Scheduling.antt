-- The data of one partition's scheduler (Thomson et al. 2012, section 3.2: requests are admitted in the global
-- order, lock what they use, read what is stored here, exchange what they read, run, and write what is stored here).
use Rattle.std.specs.Prelude.{ℕ, nat_lt, Bool, true, false, ◌&&◌, ◌||◌, not, ◌==◌, if◌then◌else◌, List, [], ◌∷◌, length, Option, Some, None, is_some}
use Rattle.std.specs.Option.{unwrap_or}
use Rattle.std.specs.Ordering.{nat_cmp, is_lt}
use Rattle.std.specs.List.{filter, list_any, list_all, range_with_len}
use Rattle.std.specs.FinMap.{FinMap, empty, get, insert}
use Rattle.calvin_types.specs.declared.key.Key.{Key}
use Rattle.calvin_types.specs.declared.place.Place.{Place}
use Rattle.calvin_types.specs.declared.txn.Txn.{Txn}
use Rattle.calvin_types.specs.Keys.{partition_of}
use Rattle.calvin_types.specs.Places.{place_cmp}
use Rattle.calvin_types.specs.Participants.{Site, site, is_local, is_active}
use Rattle.calvin_app.specs.Rows.{Rows}
use Rattle.calvin_app.specs.Stores.{Store, loaded}
use Rattle.calvin_sched.specs.declared.phase.Phase.{Phase}
use Rattle.calvin_sched.specs.declared.phase.Phase.TheVariants.{Waiting, Begun, Done}

-- an admitted request at this partition: how far it is, the rows that were read here, and those that came from other partitions
pub record Turn (Args Row : Type 0) : Type 0 where
  pub request : Txn Args
  pub phase : Phase
  pub served : Rows Row
  pub came : FinMap {K = ℕ} nat_cmp (Rows Row)

-- the data of one partition
pub record Scheduling (Args Row : Type 0) : Type 0 where
  -- all before this place counts as done: it was opened with the rows at this place
  pub opened_from : Place
  -- the last place that was admitted or passed over
  pub last : Option Place
  pub turns : FinMap {K = Place} place_cmp (Turn Args Row)
  pub store : Store Row

-- ---- places and phases

abbrev pub is_before : Place → Place → Bool
is_before a b = is_lt (place_cmp a b)

-- the place is after another, where there is one
abbrev pub is_past : Option Place → Place → Bool
is_past None q = true
is_past (Some a) q = is_before a q

abbrev pub is_finished : Phase → Bool
is_finished Waiting = false
is_finished Begun = false
is_finished Done = true

-- ---- requests

module _ {Args : Type 0} where
  -- the other partitions that run a request, ascending
  abbrev pub other_active : Site → Txn Args → List ℕ
  other_active here t = filter (λ p. not (p == here.partition) && is_active (site here.partitions p) t) (range_with_len 0 here.partitions)

  -- a key that is read is stored here
  abbrev pub reads_here : Site → Txn Args → Bool
  reads_here here t = list_any (is_local here) t.sets.reads

-- ---- rows

module _ {Row : Type 0} where
  -- rows with one more, if there is one
  abbrev pub put_some : Rows Row → Key → Option Row → Rows Row
  put_some rows k None = rows
  put_some rows k (Some x) = insert rows k x

  -- each of the keys with the row that its piece has
  abbrev pub gathered : (Key → Rows Row) → List Key → Rows Row
  gathered pieces [] = empty
  gathered pieces (k ∷ ks) = put_some (gathered pieces ks) k (get (pieces k) k)

  -- the writes that are stored here
  abbrev pub local_writes : Site → List (Key × Row) → List (Key × Row)
  local_writes here ws = filter (λ w. is_local here w.0) ws

module _ {Args Row : Type 0} where
  -- where the row of a key comes from: it was read here, or came from the partition that stores it
  abbrev pub piece : Site → Turn Args Row → Key → Rows Row
  piece here x k = if is_local here k then x.served else unwrap_or (get x.came (partition_of here.partitions k)) empty

  -- the rows of all keys that are read
  abbrev pub whole_view : Site → Turn Args Row → Rows Row
  whole_view here x = gathered (piece here x) x.request.sets.reads

  -- all rows have come that are read elsewhere
  abbrev pub is_collected : Site → Turn Args Row → Bool
  is_collected here x = list_all (λ k. is_local here k || is_some (get x.came (partition_of here.partitions k))) x.request.sets.reads

  -- rows of another partition are still to come: the request isn't done, is run here, reads keys of that partition, and nothing came from there
  abbrev pub awaits : Site → Turn Args Row → ℕ → Bool
  awaits here x from =
      not (is_finished x.phase) && is_active here x.request && not (from == here.partition)
      && list_any (λ k. partition_of here.partitions k == from) x.request.sets.reads && not (is_some (get x.came from))

  -- ---- data

  -- what is admitted reads a key that is stored here
  abbrev pub is_read_here : Site → Option (Turn Args Row) → Bool
  is_read_here here None = false
  is_read_here here (Some x) = reads_here here x.request

  -- and another partition that runs it waits for the row
  abbrev pub serves_others : Site → Option (Turn Args Row) → Bool
  serves_others here None = false
  serves_others here (Some x) = reads_here here x.request && nat_lt 0 (length (other_active here x.request))

  -- a request that waits for its locks
  abbrev pub new_turn : Txn Args → Turn Args Row
  new_turn t = record { request = t; phase = Waiting; served = empty; came = empty }

  -- a scheduler that is opened at a place with these rows: nothing is admitted, and all before the place counts as done
  abbrev pub opened : Place → Rows Row → Scheduling Args Row
  opened q rows = record { opened_from = q; last = None; turns = empty; store = loaded rows }

  abbrev pub turn_at : Scheduling Args Row → Place → Option (Turn Args Row)
  turn_at s q = get s.turns q

  abbrev pub with_turn : Scheduling Args Row → Place → Turn Args Row → Scheduling Args Row
  with_turn s q x = record s { turns = insert s.turns q x }

  abbrev pub with_store : Scheduling Args Row → Store Row → Scheduling Args Row
  with_store s store = record s { store = store }

  abbrev pub turn_done : Option (Turn Args Row) → Bool
  turn_done None = false
  turn_done (Some x) = is_finished x.phase

  -- the place is done here, or counts as done
  abbrev pub is_done : Scheduling Args Row → Place → Bool
  is_done s q = is_before q s.opened_from || turn_done (turn_at s q)
