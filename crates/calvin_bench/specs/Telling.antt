-- How a scheduler is told an order, epoch after epoch.
--     EndsAt order n at      the requests of the first n epochs end at an index
--     told_upto here order at n      a scheduler that was told the first n epochs, whose requests end at an index
use Rattle.std.specs.Prelude.{◌≡◌, ℕ, ◌<◌, ◌≤◌, length, take, Some, slice_get}
use Rattle.std.specs.FinMap.{empty}
use Rattle.calvin_types.specs.declared.place.Place.{Place}
use Rattle.calvin_types.specs.declared.txn.Txn.{Txn}
use Rattle.calvin_types.specs.Orders.{Order}
use Rattle.calvin_types.specs.Participants.{Site}
use Rattle.calvin_order.specs.Merged.{end_of}
use Rattle.calvin_sched.specs.Scheduling.{opened}
use Rattle.calvin_sched.specs.Standing.{local_places}
use Rattle.calvin_sched.specs.Keeping.{Scheduled}

pub record EndsAt {Args : Type 0} (order : Order Args) (n at : ℕ) : Type 0 where
  pub within : at ≤ length order
  pub below : (i : ℕ) (e : Place × Txn Args) → i < at → slice_get order i ≡ Some e → e.0.epoch < n
  pub rest : (i : ℕ) (e : Place × Txn Args) → at ≤ i → slice_get order i ≡ Some e → n ≤ e.0.epoch

abbrev pub told_upto : {Args Row : Type 0} → Site → Order Args → ℕ → ℕ → Scheduled Args Row
told_upto here order at n = record { here = here; scheduling = opened (end_of 0) empty; room = 0; merged = n; due = local_places here (take at order); due_room = 0 }
