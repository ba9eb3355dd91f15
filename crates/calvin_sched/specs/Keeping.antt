-- What a scheduler in code keeps: the data of its partition, and for what it needs no more memory (Thomson et al. 2012,
-- section 3.2).
--     Came      the rows that came from other partitions, and for how many more there is room
--     Kept      a request that is admitted, and for how many partitions' rows there is room
--     Seats      the requests that are admitted, and for how many more there is room
--     turns_of kept      the requests without the room
--     awaited here x      the partitions whose rows are still to come
--     awaits_at here turn from      rows are still to come from a partition, for what stands at a place
--     Scheduled      a scheduler
--     scheduling_of opened last kept store      its data
--     IsScheduler here s kept locking      what is true of every scheduler
--     IsNotDue job due fault      why a job that was run isn't taken
--     Finished m here room job result old new      what a job that was run made of the data
--     IsNotRun m here room due fault      why a request isn't run
--     takes_effect deed      it is no refusal
--     is_point_at n point      the open point is at the end of n epochs
--     rows_at n store      the rows of that point, or else the present ones
--     IsReadyHere here s q      an admitted request isn't done and has its locks
--     IsFirstReadyHere here s after answer      the least such place past another
use Rattle.std.specs.Prelude.{◌≡◌, ℕ, ◌<◌, ◌≤◌, ◌⊎◌, Bool, true, false, List, length, map, if◌then◌else◌, Option, Some, None, Result, Ok, Err, MatchOption}
use Rattle.std.specs.List.{filter, range_with_len}
use Rattle.std.specs.Ordering.{nat_cmp, eq_by_cmp}
use Rattle.std.specs.FinMap.{FinMap, entries, from_entries, get}
use Rattle.calvin_types.specs.declared.fault.Fault.{Fault}
use Rattle.calvin_types.specs.declared.fault.Fault.TheVariants.{OutOfMemory, NotCollected, StaleJob}
use Rattle.calvin_types.specs.declared.place.Place.{Place}
use Rattle.calvin_types.specs.Deeds.{Deed, Refuses, Does}
use Rattle.calvin_types.specs.Participants.{Site}
use Rattle.calvin_types.specs.Places.{place_cmp, IsBefore}
use Rattle.calvin_app.specs.declared.answer.Answer.{Answer}
use Rattle.calvin_app.specs.declared.job.Job.{Job}
use Rattle.calvin_app.specs.Meaning.{Meaning}
use Rattle.calvin_app.specs.Rows.{Rows}
use Rattle.calvin_app.specs.Serial.{answer_on, writes_on}
use Rattle.calvin_app.specs.Stores.{Store, Point}
use Rattle.calvin_order.specs.Merged.{end_of}
use Rattle.calvin_store.specs.Points.{rows_of}
use Rattle.calvin_lock.specs.Local.{IsLockedAs}
use Rattle.calvin_lock.specs.Locking.{Locking}
use Rattle.calvin_lock.specs.Ready.{IsReady, IsPast}
use Rattle.calvin_sched.specs.declared.phase.Phase.TheVariants.{Begun}
use Rattle.calvin_sched.specs.Scheduling.{Turn, Scheduling, is_past, is_finished, awaits, turn_at, local_writes}
use Rattle.calvin_sched.specs.Standing.{unreleased}
use Rattle.calvin_sched.specs.Steps.{is_ready, job, after_job}

pub record Came (Row : Type 0) : Type 0 where
  pub rows : FinMap {K = ℕ} nat_cmp (Rows Row)
  pub room : ℕ

pub record Kept (Args Row : Type 0) : Type 0 where
  pub turn : Turn Args Row
  pub room : ℕ

pub record Seats (Args Row : Type 0) : Type 0 where
  pub kept : FinMap {K = Place} place_cmp (Kept Args Row)
  pub room : ℕ

-- its partition, the data, how many rows can be put without growing, how many epochs are merged, and the places at which
-- their requests with a key here are due and not done, and for how many more of these room is reserved
pub record Scheduled (Args Row : Type 0) : Type 0 where
  pub here : Site
  pub scheduling : Scheduling Args Row
  pub room : ℕ
  pub merged : ℕ
  pub due : List Place
  pub due_room : ℕ

module _ {Args Row : Type 0} where
  abbrev pub turns_of : FinMap {K = Place} place_cmp (Kept Args Row) → FinMap {K = Place} place_cmp (Turn Args Row)
  turns_of kept = from_entries (map (λ e. (e.0, e.1.turn)) (entries kept))

  abbrev pub awaited : Site → Turn Args Row → List ℕ
  awaited here x = filter (awaits here x) (range_with_len 0 here.partitions)

  abbrev pub awaits_at : Site → Option (Turn Args Row) → ℕ → Bool
  awaits_at here None from = false
  awaits_at here (Some x) from = awaits here x from

  abbrev pub scheduling_of : ℕ → Option Place → FinMap {K = Place} place_cmp (Kept Args Row) → Store Row → Scheduling Args Row
  scheduling_of opened last kept store = record { opened_from = end_of opened; last = last; turns = turns_of kept; store = store }

  pub record IsScheduler (here : Site) (s : Scheduling Args Row) (kept : FinMap {K = Place} place_cmp (Kept Args Row)) (locking : Locking) : Type 0 where
    -- the lock manager was asked for what is admitted and not done, by the keys that are stored here
    pub locked : IsLockedAs here (unreleased s) locking.requested
    -- and for no place past the last one
    pub asked : (q : Place) → is_past s.last q ≡ true → IsPast locking.last q
    -- what has begun has its locks
    pub begun : (q : Place) (x : Turn Args Row) → turn_at s q ≡ Some x → x.phase ≡ Begun → IsReady locking.requested q
    -- there is room for all rows that are still to come
    pub roomy : (q : Place) (k : Kept Args Row) → get kept q ≡ Some k → length (awaited here k.turn) ≤ k.room

  abbrev pub IsReadyHere : Site → Scheduling Args Row → Place → Type 0
  IsReadyHere here s q = (x : Turn Args Row) × (turn_at s q ≡ Some x) × (is_finished x.phase ≡ false) × (is_ready here s q x.request ≡ true)

  abbrev pub IsFirstReadyHere : Site → Scheduling Args Row → Option Place → Option Place → Type 0
  IsFirstReadyHere here s after answer = MatchOption answer ((q : Place) → IsPast after q → ¬ IsReadyHere here s q)
      (λ p. IsPast after p × IsReadyHere here s p × ((q : Place) → IsPast after q → IsReadyHere here s q → ¬ IsBefore q p))

module _ {Args Row : Type 0} where
  -- why a job that was run isn't taken, by the one that is due at its place: there is none; or it is another
  abbrev pub IsNotDue : Job Args Row → Result (Job Args Row) Fault → Fault → Type 0
  IsNotDue job (Err f) fault = fault ≡ NotCollected
  IsNotDue job (Ok due) fault = (fault ≡ StaleJob) × (due ≡ job → ⊥)

  -- the job that is due takes effect, and its request is answered; or it isn't due, or it writes more rows here than there is room for, and nothing changed
  abbrev pub Finished : {Reply : Type 0} → Meaning Args Row Reply → Site → ℕ → Job Args Row → Result (Answer Reply) Fault → Scheduling Args Row → Scheduling Args Row → Type 0
  Finished m here room j (Ok answer) old new = (job here j.place old ≡ Ok j) × (new ≡ after_job m here j old) × (answer ≡ answer_on m j.txn j.view)
  Finished m here room j (Err fault) old new =
      (new ≡ old) × (IsNotDue j (job here j.place old) fault
      ⊎ ((fault ≡ OutOfMemory) × (job here j.place old ≡ Ok j) × (room < length (local_writes here (writes_on m j.txn j.view)))))

  -- why a request isn't run, by the job that is due: there is none; or it writes more rows here than there is room for
  abbrev pub IsNotRun : {Reply : Type 0} → Meaning Args Row Reply → Site → ℕ → Result (Job Args Row) Fault → Fault → Type 0
  IsNotRun m here room (Err f) fault = fault ≡ f
  IsNotRun m here room (Ok j) fault = (fault ≡ OutOfMemory) × (room < length (local_writes here (writes_on m j.txn j.view)))

-- a deed is no refusal
abbrev pub takes_effect : {S Out : Type 0} → Deed S Out → Bool
takes_effect (Refuses f) = false
takes_effect (Does s out) = true

module _ {Row : Type 0} where
  -- the open point is at the end of the first n epochs
  abbrev pub is_point_at : ℕ → Option (Point Row) → Bool
  is_point_at n None = false
  is_point_at n (Some p) = eq_by_cmp place_cmp p.at (end_of n)

  abbrev pub rows_at : ℕ → Store Row → Rows Row
  rows_at n store = if is_point_at n store.point then rows_of store.point else store.map
