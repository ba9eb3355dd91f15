-- The steps of a scheduler in code, by what it keeps.
use Rattle.std.proofs.Common.{◌≡◌, ℕ, ◌-◌, ◌<◌, ◌≤◌, true, false, cond, length, Result, Ok, Err, IsOk, OnOk, IfErr, Option, Some, None, refl, sym, ap, subst, ◌∙◌, arith}
use Rattle.std.proofs.lemmas.Bool.{false≢true}
use Rattle.std.specs.FinMap.{FinMap, get, insert}
use Rattle.calvin_types.specs.declared.fault.Fault.{Fault}
use Rattle.calvin_types.specs.declared.fault.Fault.TheVariants.{OutOfMemory}
use Rattle.calvin_types.specs.declared.place.Place.{Place}
use Rattle.calvin_types.specs.Participants.{Site, is_active}
use Rattle.calvin_types.specs.Places.{place_cmp}
use Rattle.calvin_app.specs.Rows.{Rows}
use Rattle.calvin_app.specs.Stores.{Store}
use Rattle.calvin_order.specs.Merged.{end_of}
use Rattle.calvin_lock.specs.Locking.{Locking, without}
use Rattle.calvin_sched.specs.declared.phase.Phase.TheVariants.{Waiting, Begun, Done}
use Rattle.calvin_sched.specs.Scheduling.{Turn, Scheduling, is_finished, turn_at, with_turn, awaits}
use Rattle.calvin_sched.specs.Standing.{unreleased_at, unreleased_by}
use Rattle.calvin_sched.specs.Steps.{begun_turn, with_rows, is_ready}
use Rattle.calvin_sched.specs.Keeping.{Kept, turns_of, awaited, awaits_at, scheduling_of, IsScheduler}
use Rattle.calvin_sched.proofs.Keepers.{turn_kept, put_turn, begun_awaits, came_awaits, keeps_stepped, keeps_released}
use Rattle.calvin_sched.proofs.ReadyHere.{ready_of}

module _ {Args Row : Type 0} (here : Site) (opened : ℕ) (last : Option Place) (kept : FinMap {K = Place} place_cmp (Kept Args Row)) (store : Store Row) (locking : Locking)
    (is : IsScheduler here (scheduling_of opened last kept store) kept locking) (q : Place) (k : Kept Args Row) (found : get kept q ≡ Some k) where
  abbrev now : Scheduling Args Row
  now = scheduling_of opened last kept store

  there : turn_at now q ≡ Some k.turn
  there = turn_kept kept q k found

  module _ (next : Kept Args Row) (after : FinMap {K = Place} place_cmp (Kept Args Row)) (put : after ≡ insert kept q next) where
    -- the data after what is kept at a place was changed
    pub after_is : scheduling_of opened last after store ≡ with_turn now q next.turn
    after_is = let turns = ap turns_of put ∙ put_turn kept q next in λ i. record { opened_from = end_of opened; last = last; turns = turns i; store = store }

    pub shown : (l : Locking) → IsScheduler here (with_turn now q next.turn) (insert kept q next) l → IsScheduler here (scheduling_of opened last after store) after l
    shown l keeps =
        subst (λ m. IsScheduler here (scheduling_of opened last m store) m l) (sym put)
        (subst (λ ts. IsScheduler here (record { opened_from = end_of opened; last = last; turns = ts; store = store }) (insert kept q next) l) (sym (put_turn kept q next)) keeps)

  -- ---- a request begins

  abbrev begun : Kept Args Row
  begun = record { turn = begun_turn here store.map k.turn; room = k.room }

  module _ (waits : k.turn.phase ≡ Waiting) (after : FinMap {K = Place} place_cmp (Kept Args Row)) (put : after ≡ insert kept q begun) where
    fits : length (awaited here begun.turn) ≤ k.room
    fits = omega (arith, begun_awaits here k.turn store.map waits, is.roomy q k found)

    pub keeps_active : is_active here k.turn.request ≡ true → is_ready here now q k.turn.request ≡ true → IsScheduler here (scheduling_of opened last after store) after locking
    keeps_active active ready = shown begun after put locking
        (keeps_stepped here now kept locking is q k.turn begun there same (λ _. (ready_of here now kept locking is q k.turn there (ap is_finished waits)).1 ready) fits)
      where
        same : unreleased_at (Some begun.turn) ≡ unreleased_at (Some k.turn)
        same = ap (λ b. unreleased_by k.turn.request.sets (cond b Begun Done)) active ∙ sym (ap (unreleased_by k.turn.request.sets) waits)

    pub keeps_passive : is_active here k.turn.request ≡ false → IsScheduler here (scheduling_of opened last after store) after (without q locking)
    keeps_passive passive = shown begun after put (without q locking) (keeps_released here now kept locking is q begun (ap (λ b. cond b Begun Done) passive) fits)

  -- ---- rows come

  module _ (from : ℕ) (rows : Rows Row) (awaited_from : awaits here k.turn from ≡ true) (some : 0 < here.partitions) where
    abbrev fed : Kept Args Row
    fed = record { turn = with_rows from rows k.turn; room = k.room - 1 }

    pub has_room : 0 < k.room
    has_room = omega (arith, came_awaits here k.turn from rows awaited_from some, is.roomy q k found)

    pub keeps_fed : (after : FinMap {K = Place} place_cmp (Kept Args Row)) → after ≡ insert kept q fed → IsScheduler here (scheduling_of opened last after store) after locking
    keeps_fed after put = shown fed after put locking
        (keeps_stepped here now kept locking is q k.turn fed there refl (λ begun. is.begun q k.turn there begun) (omega (arith, came_awaits here k.turn from rows awaited_from some, is.roomy q k found)))

-- what holds at a success
pub if_ok : {A B : Type 0} {X : Type 0} (r : Result A B) → IsOk r → OnOk r X → X
if_ok (Ok a) h x = x
if_ok (Err e) h x = absurd (cc)

-- what is awaited is admitted
pub awaited_turn : {Args Row : Type 0} (here : Site) (o : Option (Turn Args Row)) (from : ℕ) → awaits_at here o from ≡ true → (x : Turn Args Row) × (o ≡ Some x) × (awaits here x from ≡ true)
awaited_turn here None from h = absurd (false≢true h)
awaited_turn here (Some x) from h = (x, refl, h)

-- what is refused only where there is less room isn't refused where there is as much
pub not_refused : (r : Result (Unit {0}) Fault) (room wanted : ℕ) → IfErr r (λ fault. (fault ≡ OutOfMemory) × (room < wanted)) → wanted ≤ room → IsOk r
not_refused (Ok out) room wanted refused fits = refl
not_refused (Err fault) room wanted refused fits = absurd (let short = refused.1 in omega (arith, short, fits))
