-- One replica of a given order: one scheduler for each partition, which all are told the order (Thomson et al. 2012,
-- section 3.2).
--     Part      a partition: which one it is, its scheduler, and how many requests of the order it admitted or passed over
--     step m order parts e      what a step makes of the partitions, and what it gives; or its refusal
--     grows m order parts e      something becomes more by the step, so that memory can run out
--     Ran m order parts steps outcomes new      one outcome for each step
--     first_parts count      nothing is admitted yet, and there are no rows
--     IsSerialAt m count order e outcome      what a step gave is what the serial run has at its place
--     RunsSerially m count order steps outcomes new      the theorem
use Rattle.std.specs.Prelude.{◌≡◌, ℕ, ◌+◌, Bool, true, false, if◌then◌else◌, nat_lt, List, [], ◌∷◌, length, map, Option, Some, None, Result, Ok, Err, slice_get, slice_set}
use Rattle.std.specs.List.{range_with_len, Contains}
use Rattle.std.specs.FinMap.{empty}
use Rattle.calvin_types.specs.declared.fault.Fault.{Fault}
use Rattle.calvin_types.specs.declared.fault.Fault.TheVariants as fault
use Rattle.calvin_types.specs.declared.place.Place.{Place}
use Rattle.calvin_types.specs.declared.txn.Txn.{Txn}
use Rattle.calvin_types.specs.Deeds.{Deed, Refuses, Does, Did}
use Rattle.calvin_types.specs.Orders.{Order, StandsAt}
use Rattle.calvin_types.specs.Participants.{Site, site, local_keys, has_local_key}
use Rattle.calvin_app.specs.declared.job.Job.{Job}
use Rattle.calvin_app.specs.Meaning.{Meaning}
use Rattle.calvin_app.specs.Rows.{Rows, view, part}
use Rattle.calvin_app.specs.Serial.{rows_before, answers_by_place, writes_on}
use Rattle.calvin_order.specs.Merged.{end_of}
use Rattle.calvin_sched.specs.Keeping.{awaits_at}
use Rattle.calvin_sched.specs.Scheduling.{Scheduling, opened, turn_at, local_writes}
use Rattle.calvin_sched.specs.Standing.{local_places, stands}
use Rattle.calvin_sched.specs.Steps.{admit, begin, on_reads, job, finish, served_at}
use Rattle.calvin_bench.specs.declared.step.Step.{Step}
use Rattle.calvin_bench.specs.declared.step.Step.TheVariants.{Admit, Begin, Reads, Finish}
use Rattle.calvin_bench.specs.declared.step.Outcome.{Outcome}
use Rattle.calvin_bench.specs.declared.step.Outcome.TheVariants.{Admitted, Served, Received, Answered}

pub record Part (Args Row : Type 0) : Type 0 where
  pub here : Site
  pub scheduler : Scheduling Args Row
  pub admitted : ℕ

module _ {Args Row Out : Type 0} where
  -- a partition changes
  abbrev pub put_part : List (Part Args Row) → ℕ → Deed (Part Args Row) Out → Deed (List (Part Args Row)) Out
  put_part parts p (Refuses f) = Refuses f
  put_part parts p (Does x out) = Does (slice_set parts p x) out

  abbrev pub at_part : List (Part Args Row) → ℕ → (Part Args Row → Deed (Part Args Row) Out) → Option (Part Args Row) → Deed (List (Part Args Row)) Out
  at_part parts p deed None = Refuses fault.NoNode
  at_part parts p deed (Some x) = put_part parts p (deed x)

  -- a call of its scheduler, and what is told of it
  abbrev pub calling : {Given : Type 0} → Part Args Row → (Given → Out) → Deed (Scheduling Args Row) Given → Deed (Part Args Row) Out
  calling x tell (Refuses f) = Refuses f
  calling x tell (Does s given) = Does (record x { scheduler = s }) (tell given)

module _ {Args Row : Type 0} where
  abbrev pub tested_at : (Part Args Row → Bool) → Option (Part Args Row) → Bool
  tested_at test None = false
  tested_at test (Some x) = test x

  -- nothing is admitted yet, and there are no rows
  abbrev pub first_part : ℕ → ℕ → Part Args Row
  first_part count p = record { here = site count p; scheduler = opened (end_of 0) empty; admitted = 0 }

  abbrev pub first_parts : ℕ → List (Part Args Row)
  first_parts count = map (first_part count) (range_with_len 0 count)

  -- the request that is to be admitted has a key here
  abbrev pub first_here : Part Args Row → Option (Place × Txn Args) → Bool
  first_here x None = false
  first_here x (Some e) = has_local_key x.here e.1

module _ {Args Row Reply : Type 0} where
  -- the next request of the order is admitted
  abbrev pub admit_next : Part Args Row → Option (Place × Txn Args) → Deed (Part Args Row) (Outcome Row Reply)
  admit_next x None = Refuses fault.NothingToLock
  admit_next x (Some e) = calling (record x { admitted = x.admitted + 1 }) (λ _. Admitted) (admit x.here e.0 e.1 x.scheduler)

  abbrev pub begin_at : Place → Part Args Row → Deed (Part Args Row) (Outcome Row Reply)
  begin_at q x = calling x (λ s. Served s.rows) (begin x.here q x.scheduler)

  -- what another partition served is taken where it is awaited
  abbrev pub receive : ℕ → Place → Result (Rows Row) Fault → Part Args Row → Deed (Part Args Row) (Outcome Row Reply)
  receive from q (Err f) x = Refuses (if awaits_at x.here (turn_at x.scheduler q) from then f else fault.NotAwaited)
  receive from q (Ok rows) x = calling x (λ _. Received) (on_reads x.here q from rows x.scheduler)

  abbrev pub receive_from : ℕ → Place → Option (Part Args Row) → Part Args Row → Deed (Part Args Row) (Outcome Row Reply)
  receive_from from q None x = Refuses fault.NoNode
  receive_from from q (Some giver) x = receive from q (served_at (turn_at giver.scheduler q)) x

module _ {Args Row Reply : Type 0} (m : Meaning Args Row Reply) where
  abbrev pub finish_at : Place → Part Args Row → Deed (Part Args Row) (Outcome Row Reply)
  finish_at q x = calling x (λ e. Answered e.1) (finish m x.here q x.scheduler)

  -- what a job writes is stored here, in part
  abbrev pub writes_here : Part Args Row → Result (Job Args Row) Fault → Bool
  writes_here x (Err f) = false
  writes_here x (Ok j) = nat_lt 0 (length (local_writes x.here (writes_on m j.txn j.view)))

module _ {Args Row Reply : Type 0} (m : Meaning Args Row Reply) (order : Order Args) where
  abbrev pub step : List (Part Args Row) → Step → Deed (List (Part Args Row)) (Outcome Row Reply)
  step parts (Admit p) = at_part parts p (λ x. admit_next x (slice_get order x.admitted)) (slice_get parts p)
  step parts (Begin p q) = at_part parts p (begin_at q) (slice_get parts p)
  step parts (Reads p from q) = at_part parts p (receive_from from q (slice_get parts from)) (slice_get parts p)
  step parts (Finish p q) = at_part parts p (finish_at m q) (slice_get parts p)

  abbrev pub grows : List (Part Args Row) → Step → Bool
  grows parts (Admit p) = tested_at (λ x. first_here x (slice_get order x.admitted)) (slice_get parts p)
  grows parts (Begin p q) = false
  grows parts (Reads p from q) = false
  grows parts (Finish p q) = tested_at (λ x. writes_here m x (job x.here q x.scheduler)) (slice_get parts p)

  -- ---- lists of steps

  -- one outcome for each step: its deed, or want of memory where something grows
  abbrev pub Ran : List (Part Args Row) → List Step → List (Result (Outcome Row Reply) Fault) → List (Part Args Row) → Type 0
  Ran parts [] outcomes new = (outcomes ≡ []) × (new ≡ parts)
  Ran parts (e ∷ steps) outcomes new =
      (outcome : Result (Outcome Row Reply) Fault) × (rest : List (Result (Outcome Row Reply) Fault)) × (mid : List (Part Args Row))
      × (outcomes ≡ outcome ∷ rest) × Did (grows parts e) outcome (step parts e) parts mid × Ran mid steps rest new

module _ {Args Row Reply : Type 0} (m : Meaning Args Row Reply) (count : ℕ) (order : Order Args) where
  -- ---- the theorem

  -- an answer is the serial run's at its place; rows that are served are the view of the serial rows just before it
  abbrev pub IsSerialAt : Step → Result (Outcome Row Reply) Fault → Type 0
  IsSerialAt (Begin p q) (Ok (Served rows)) = (t : Txn Args) × StandsAt order q t × (rows ≡ view (rows_before m order empty q) (local_keys (site count p) t.sets.reads))
  IsSerialAt (Finish p q) (Ok (Answered answer)) = Contains (answers_by_place m order empty) (q, answer)
  IsSerialAt _ _ = Unit {0}

  pub record RunsSerially (steps : List Step) (outcomes : List (Result (Outcome Row Reply) Fault)) (new : List (Part Args Row)) : Type 0 where
    pub given : (i : ℕ) (e : Step) (outcome : Result (Outcome Row Reply) Fault) → slice_get steps i ≡ Some e → slice_get outcomes i ≡ Some outcome → IsSerialAt e outcome
    -- a partition that stands at the end of some epochs has exactly its part of the rows of the serial run
    pub rows : (p : ℕ) (x : Part Args Row) (merged n : ℕ) → slice_get new p ≡ Some x → stands x.scheduler merged (local_places (site count p) order) n ≡ true
        → x.scheduler.store.map ≡ part count p (rows_before m order empty (end_of n))
