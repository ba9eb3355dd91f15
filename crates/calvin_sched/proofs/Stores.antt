-- What becomes of a scheduler where its store alone changes.
use Rattle.std.proofs.Common.{Bool, Result, Ok, Err, ap}
use Rattle.calvin_types.specs.declared.fault.Fault.{Fault}
use Rattle.calvin_types.specs.Deeds.{Deed, Refuses, Does, Did}
use Rattle.calvin_app.specs.Stores.{Store}
use Rattle.calvin_sched.specs.Scheduling.{Scheduling, with_store}
use Rattle.calvin_sched.specs.Standing.{by_store}

module _ {Args Row : Type 0} where
  -- what a store did is done to the scheduler
  pub done_in_store : (grows : Bool) (r : Result (Unit {0}) Fault) (d : Deed (Store Row) (Unit {0})) (s : Scheduling Args Row) (next : Store Row) → Did grows r d s.store next → Did grows r (by_store s d) s (with_store s next)
  done_in_store grows (Ok out) (Refuses f) s next h = h
  done_in_store grows (Ok out) (Does st given) s next h = (h.0, ap (with_store s) h.1)
  done_in_store grows (Err e) (Refuses f) s next h = (h.0, ap (with_store s) h.1)
  done_in_store grows (Err e) (Does st given) s next h = (h.0, h.1, ap (with_store s) h.2)
