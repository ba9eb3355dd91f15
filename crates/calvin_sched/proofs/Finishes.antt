-- A job that was run comes back: it was due, and what is kept after it.
use Rattle.std.proofs.Common.{◌≡◌, ℕ, ◌≤◌, Bool, true, false, cond, length, Result, Ok, Err, Option, Some, None, refl, sym, ap, ◌∙◌, arith}
use Rattle.std.specs.FinMap.{FinMap, get, insert}
use Rattle.calvin_types.specs.declared.fault.Fault.{Fault}
use Rattle.calvin_types.specs.declared.fault.Fault.TheVariants as fault
use Rattle.calvin_types.specs.declared.place.Place.{Place}
use Rattle.calvin_types.specs.Participants.{Site}
use Rattle.calvin_types.specs.Places.{place_cmp}
use Rattle.calvin_app.specs.declared.job.Job.{Job}
use Rattle.calvin_app.specs.Meaning.{Meaning}
use Rattle.calvin_app.specs.Serial.{writes_on}
use Rattle.calvin_app.specs.Stores.{Store, put_at}
use Rattle.calvin_lock.specs.Locking.{Locking, without}
use Rattle.calvin_order.specs.Merged.{end_of}
use Rattle.calvin_sched.specs.declared.phase.Phase.{Phase}
use Rattle.calvin_sched.specs.declared.phase.Phase.TheVariants.{Waiting, Begun, Done}
use Rattle.calvin_sched.specs.Keeping.{Kept, turns_of, awaited, scheduling_of, IsScheduler}
use Rattle.calvin_sched.specs.Scheduling.{Turn, Scheduling, is_collected, whole_view, local_writes, turn_at}
use Rattle.calvin_sched.specs.Steps.{job, job_at, job_by, ended, after_job}
use Rattle.calvin_sched.proofs.Keepers.{turn_kept, put_turn, done_awaits, keeps_released}
use Rattle.calvin_sched.proofs.Steps.{shown}

module _ {Args Row : Type 0} (here : Site) (s : Scheduling Args Row) (q : Place) where
  refused : {X : Type 0} (f : Fault) (j : Job Args Row) → ◌≡◌ {A = Result (Job Args Row) Fault} (Err f) (Ok j) → X
  refused f j h = absurd (cc)

  by_collected : (x : Turn Args Row) (b : Bool) (j : Job Args Row)
      → ◌≡◌ {A = Result (Job Args Row) Fault} (cond b (Ok (record { place = q; txn = x.request; view = whole_view here x })) (Err fault.ReadsMissing)) (Ok j) → j.place ≡ q
  by_collected x true j h = ap (λ r. place_in r) (sym h)
    where
      place_in : Result (Job Args Row) Fault → Place
      place_in (Ok i) = i.place
      place_in (Err f) = q
  by_collected x false j h = refused fault.ReadsMissing j h

  abbrev IsDue : Job Args Row → Type 0
  IsDue j = (x : Turn Args Row) × (turn_at s q ≡ Some x) × (x.phase ≡ Begun) × (j.place ≡ q)

  by_phase : (x : Turn Args Row) (j : Job Args Row) → turn_at s q ≡ Some x → (f : Phase) → x.phase ≡ f → job_by here q x f ≡ Ok j → IsDue j
  by_phase x j there Waiting is h = refused fault.NotReady j h
  by_phase x j there Begun is h = (x, there, is, by_collected x (is_collected here x) j h)
  by_phase x j there Done is h = refused fault.NotReady j h

  by_turn : (j : Job Args Row) (o : Option (Turn Args Row)) → turn_at s q ≡ o → job_at here q o ≡ Ok j → IsDue j
  by_turn j None is h = refused fault.NotReady j h
  by_turn j (Some x) is h = by_phase x j is x.phase refl h

  -- one job is due at most
  pub one_job : (i j : Job Args Row) → job here q s ≡ Ok i → job here q s ≡ Ok j → i ≡ j
  one_job i j h k = ap (λ r. job_or r) (sym h ∙ k)
    where
      job_or : Result (Job Args Row) Fault → Job Args Row
      job_or (Ok o) = o
      job_or (Err f) = i

  -- a job is due where a request has begun
  pub due_begun : (j : Job Args Row) → job here q s ≡ Ok j → IsDue j
  due_begun j h = by_turn j (turn_at s q) refl h

module _ {Args Row : Type 0} (here : Site) (opened : ℕ) (last : Option Place) (kept : FinMap {K = Place} place_cmp (Kept Args Row)) (store : Store Row) (locking : Locking)
    (is : IsScheduler here (scheduling_of opened last kept store) kept locking) (q : Place) (k : Kept Args Row) (found : get kept q ≡ Some k) where
  abbrev done : Kept Args Row
  done = record { turn = record k.turn { phase = Done }; room = k.room }

  -- the lock manager is asked for no rows
  over : (other : Store Row) → IsScheduler here (scheduling_of opened last kept other) kept locking
  over other = record { locked = is.locked; asked = is.asked; begun = is.begun; roomy = is.roomy }

  pub keeps_finished : (after : FinMap {K = Place} place_cmp (Kept Args Row)) → after ≡ insert kept q done → (other : Store Row) → IsScheduler here (scheduling_of opened last after other) after (without q locking)
  keeps_finished after put other =
      let fits : length (awaited here done.turn) ≤ k.room = omega (arith, done_awaits here k.turn, is.roomy q k found) in
      shown here opened last kept other locking (over other) q k found done after put (without q locking) (keeps_released here (scheduling_of opened last kept other) kept locking (over other) q done refl fits)

  -- the data after it
  pub finished_is : {Reply : Type 0} (m : Meaning Args Row Reply) (j : Job Args Row) → j.place ≡ q → (after : FinMap {K = Place} place_cmp (Kept Args Row)) → after ≡ insert kept q done
      → (other : Store Row) → other ≡ put_at j.place (local_writes here (writes_on m j.txn j.view)) store → scheduling_of opened last after other ≡ after_job m here j (scheduling_of opened last kept store)
  finished_is m j at after put other stored =
      let there : get (turns_of kept) j.place ≡ Some k.turn = ap (get (turns_of kept)) at ∙ turn_kept kept q k found in
      let turns = ap turns_of put ∙ put_turn kept q done ∙ ap (λ p. insert (turns_of kept) p done.turn) (sym at) ∙ ap (λ o. ended o (turns_of kept) j.place) (sym there) in
      λ i. record { opened_from = end_of opened; last = last; turns = turns i; store = stored i }
