-- A request is admitted: what is kept afterwards, and why its locks aren't refused.
use Rattle.std.proofs.Common.{◌≡◌, ℕ, ◌≤◌, true, length, Option, Some, sym, ap, subst}
use Rattle.std.specs.FinMap.{FinMap, insert}
use Rattle.calvin_types.specs.declared.place.Place.{Place}
use Rattle.calvin_types.specs.declared.txn.Txn.{Txn}
use Rattle.calvin_types.specs.Participants.{Site}
use Rattle.calvin_types.specs.Places.{place_cmp}
use Rattle.calvin_app.specs.Stores.{Store}
use Rattle.calvin_order.specs.Merged.{end_of}
use Rattle.calvin_lock.specs.Local.{local_sets}
use Rattle.calvin_lock.specs.Locking.{Locking, IsUpToLast, with_request}
use Rattle.calvin_sched.specs.Scheduling.{is_past, new_turn}
use Rattle.calvin_sched.specs.Keeping.{Kept, awaited, scheduling_of, IsScheduler}
use Rattle.calvin_sched.proofs.Keepers.{put_turn, keeps_admitted}

module _ {Args Row : Type 0} (here : Site) (opened : ℕ) (last : Option Place) (kept : FinMap {K = Place} place_cmp (Kept Args Row)) (store : Store Row) (locking : Locking)
    (is : IsScheduler here (scheduling_of opened last kept store) kept locking) where
  pub admitted_keeps : (q : Place) (t : Txn Args) (k : Kept Args Row) → is_past last q ≡ true → k.turn ≡ new_turn t → length (awaited here k.turn) ≤ k.room → IsUpToLast locking
      → (after : FinMap {K = Place} place_cmp (Kept Args Row)) → after ≡ insert kept q k → (l : Locking) → l ≡ with_request q (local_sets here t.sets) locking
      → IsScheduler here (scheduling_of opened (Some q) after store) after l
  admitted_keeps q t k next made fits upto after put l asked =
      subst (λ l. IsScheduler here (scheduling_of opened (Some q) after store) after l) (sym asked)
      (subst (λ m. IsScheduler here (scheduling_of opened (Some q) m store) m (with_request q (local_sets here t.sets) locking)) (sym put)
      (subst (λ ts. IsScheduler here (record { opened_from = end_of opened; last = Some q; turns = ts; store = store }) (insert kept q k) (with_request q (local_sets here t.sets) locking)) (sym (put_turn kept q k))
      (keeps_admitted here (scheduling_of opened last kept store) kept locking is q t k (ap (λ x. x.request) made) (ap (λ x. x.phase) made) fits upto (is.asked q next))))
