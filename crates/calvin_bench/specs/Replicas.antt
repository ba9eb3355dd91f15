-- One replica of a given order in code: what it keeps, and what is true of it (Thomson et al. 2012, section 3.2).
--     Replica      of how many partitions, of which order, and the data of each
--     Seat      a partition in code: its scheduler, and how many requests of the order it admitted or passed over
--     part_of x, replica_of count order seats      the data
--     epochs_of order      as many epochs are merged as the order has
--     stands_in order x      the greatest epoch at whose end a partition stands
--     IsTold order x      its scheduler was told the order
--     TellsAlike old new, AllTellAlike old new      a call leaves what a scheduler was told; what all were
--     IsReached m count order parts      some steps lead from the opening to these partitions
--     IsReplica m count order seats      what is true of every replica
--     IsBeginning m count order old early late outcomes new      after a beginning of a list of steps
use Rattle.std.specs.Prelude.{◌≡◌, ℕ, suc, max, List, [], ◌∷◌, ◌++◌, map, Option, Some, None, Result, Ok, Err, slice_get}
use Rattle.calvin_types.specs.declared.fault.Fault.{Fault}
use Rattle.calvin_types.specs.declared.fault.Fault.TheVariants as fault
use Rattle.calvin_types.specs.Orders.{Order, Rises}
use Rattle.calvin_app.specs.Meaning.{Meaning}
use Rattle.calvin_sched.specs.Keeping.{Scheduled}
use Rattle.calvin_sched.specs.Progress.{left}
use Rattle.calvin_sched.specs.Standing.{local_places, stands_at}
use Rattle.calvin_bench.specs.Steps.{Part, first_parts, Ran, RunsSerially}
use Rattle.calvin_bench.specs.declared.step.Step.{Step}
use Rattle.calvin_bench.specs.declared.step.Outcome.{Outcome}

pub record Replica (Args Row : Type 0) : Type 0 where
  pub count : ℕ
  pub order : Order Args
  pub parts : List (Part Args Row)

pub record Seat (Args Row : Type 0) : Type 0 where
  pub scheduler : Scheduled Args Row
  pub admitted : ℕ

module _ {Args : Type 0} where
  -- one more than the greatest epoch
  abbrev pub epochs_of : Order Args → ℕ
  epochs_of [] = 0
  epochs_of (e ∷ es) = max (suc e.0.epoch) (epochs_of es)

module _ {Args Row : Type 0} where
  abbrev pub part_of : Seat Args Row → Part Args Row
  part_of x = record { here = x.scheduler.here; scheduler = x.scheduler.scheduling; admitted = x.admitted }

  abbrev pub replica_of : ℕ → Order Args → List (Seat Args Row) → Replica Args Row
  replica_of count order seats = record { count = count; order = order; parts = map part_of seats }

  -- the greatest epoch of the order at whose end a partition stands, where there is such a partition
  abbrev pub stands_in : Order Args → Option (Part Args Row) → Result (Option ℕ) Fault
  stands_in order None = Err fault.NoNode
  stands_in order (Some x) = Ok (stands_at x.scheduler (epochs_of order) (local_places x.here order))

  -- all epochs are merged, and of the places with a key here those are due that aren't done
  pub record IsTold (order : Order Args) (x : Seat Args Row) : Type 0 where
    pub merged : x.scheduler.merged ≡ epochs_of order
    pub due : left x.scheduler.scheduling x.scheduler.due ≡ left x.scheduler.scheduling (local_places x.scheduler.here order)

  -- the same is merged, and what is done is due no more
  pub record TellsAlike (old new : Seat Args Row) : Type 0 where
    pub merged : new.scheduler.merged ≡ old.scheduler.merged
    pub due : left new.scheduler.scheduling new.scheduler.due ≡ left new.scheduler.scheduling old.scheduler.due

  abbrev pub AllTellAlike : List (Seat Args Row) → List (Seat Args Row) → Type 0
  AllTellAlike old new = (i : ℕ) (y : Seat Args Row) → slice_get new i ≡ Some y → (x : Seat Args Row) × (slice_get old i ≡ Some x) × TellsAlike x y

module _ {Args Row Reply : Type 0} (m : Meaning Args Row Reply) (count : ℕ) (order : Order Args) where
  pub record IsReached (parts : List (Part Args Row)) : Type 0 where
    pub steps : List Step
    pub outcomes : List (Result (Outcome Row Reply) Fault)
    pub ran : Ran m order (first_parts count) steps outcomes parts

  pub record IsReplica (seats : List (Seat Args Row)) : Type 0 where
    pub rises : Rises order
    pub reached : IsReached (map part_of seats)
    pub told : (i : ℕ) (x : Seat Args Row) → slice_get seats i ≡ Some x → IsTold order x

  -- a beginning of the steps led to partitions of which the theorem holds, and the others led on from there
  pub record IsBeginning (old : List (Part Args Row)) (early late : List Step) (outcomes : List (Result (Outcome Row Reply) Fault)) (new : List (Part Args Row)) : Type 0 where
    pub then : List (Part Args Row)
    pub first : List (Result (Outcome Row Reply) Fault)
    pub rest : List (Result (Outcome Row Reply) Fault)
    pub outcomes_are : outcomes ≡ first ++ rest
    pub ran : Ran m order old early first then
    pub ran_on : Ran m order then late rest new
    pub serially : RunsSerially m count order early first then
