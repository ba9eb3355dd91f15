-- What a scheduler's lock manager calls ready is what the data say.
use Rattle.std.proofs.Common.{◌≡◌, true, false, ◌↔◌, Option, Some, None, refl, sym, ap, ◌∙◌}
use Rattle.std.proofs.lemmas.Bool.{false≢true}
use Rattle.std.proofs.lemmas.Option.{none-some}
use Rattle.std.specs.FinMap.{FinMap}
use Rattle.calvin_types.specs.declared.key_set.Sets.{Sets}
use Rattle.calvin_types.specs.declared.place.Place.{Place}
use Rattle.calvin_types.specs.Participants.{Site}
use Rattle.calvin_types.specs.Places.{place_cmp}
use Rattle.calvin_lock.specs.Local.{IsReadyAt}
use Rattle.calvin_lock.specs.Locking.{Locking}
use Rattle.calvin_lock.specs.Ready.{IsReady, IsFirstReady}
use Rattle.calvin_lock.proofs.LocalLocks.{ready_among, ready_unreleased}
use Rattle.calvin_sched.specs.declared.phase.Phase.{Phase}
use Rattle.calvin_sched.specs.declared.phase.Phase.TheVariants.{Waiting, Begun, Done}
use Rattle.calvin_sched.specs.Scheduling.{Turn, Scheduling, turn_at, is_finished}
use Rattle.calvin_sched.specs.Standing.{unreleased, unreleased_at, unreleased_by}
use Rattle.calvin_sched.specs.Steps.{is_ready}
use Rattle.calvin_sched.specs.Keeping.{Kept, IsScheduler, IsReadyHere, IsFirstReadyHere}
use Rattle.calvin_sched.proofs.Readiness.{ready_is_ready}

module _ {Args Row : Type 0} (here : Site) (s : Scheduling Args Row) (kept : FinMap {K = Place} place_cmp (Kept Args Row)) (locking : Locking) (is : IsScheduler here s kept locking) where
  not_done : (x : Turn Args Row) → is_finished x.phase ≡ false → unreleased_at (Some x) ≡ Some x.request.sets
  not_done x waits = go x.phase refl
    where
      go : (f : Phase) → x.phase ≡ f → unreleased_by x.request.sets x.phase ≡ Some x.request.sets
      go Waiting e = ap (unreleased_by x.request.sets) e
      go Begun e = ap (unreleased_by x.request.sets) e
      go Done e = absurd (false≢true (sym waits ∙ ap is_finished e))

  -- a request that isn't done is ready for the lock manager exactly where no earlier one conflicts
  pub ready_of : (q : Place) (x : Turn Args Row) → turn_at s q ≡ Some x → is_finished x.phase ≡ false → IsReady locking.requested q ↔ (is_ready here s q x.request ≡ true)
  ready_of q x there waits =
      let asked = ap unreleased_at there ∙ not_done x waits in
      let among = ready_among here (unreleased s) locking.requested is.locked q x.request.sets asked in
      let test = ready_is_ready here s q x.request in
      (λ ready. test.1 (among.0 ready), λ h. among.1 (test.0 h))

  pub ready_here : (q : Place) → IsReady locking.requested q ↔ IsReadyHere here s q
  ready_here q = (there, λ (x, at, waits, ready). (ready_of q x at waits).1 ready)
    where
      there : IsReady locking.requested q → IsReadyHere here s q
      there ready = by_turn (turn_at s q) refl
        where
          own : (h : Sets) × (unreleased s q ≡ Some h) × IsReadyAt here (unreleased s) q h
          own = ready_unreleased here (unreleased s) locking.requested is.locked q ready

          by_turn : (o : Option (Turn Args Row)) → turn_at s q ≡ o → IsReadyHere here s q
          by_turn None e = absurd (none-some own.0 (sym (ap unreleased_at e) ∙ own.1))
          by_turn (Some x) e = by_phase x.phase refl
            where
              with_open : is_finished x.phase ≡ false → IsReadyHere here s q
              with_open waits = (x, e, waits, (ready_of q x e waits).0 ready)

              by_phase : (f : Phase) → x.phase ≡ f → IsReadyHere here s q
              by_phase Waiting p = with_open (ap is_finished p)
              by_phase Begun p = with_open (ap is_finished p)
              by_phase Done p = absurd (none-some own.0 (sym (ap unreleased_at e ∙ ap (unreleased_by x.request.sets) p) ∙ own.1))

  pub first_ready_here : (after answer : Option Place) → IsFirstReady locking.requested after answer → IsFirstReadyHere here s after answer
  first_ready_here after None none = λ q past ready. none q past ((ready_here q).1 ready)
  first_ready_here after (Some p) (past, ready, least) = (past, (ready_here p).0 ready, λ q after_it other. least q after_it ((ready_here q).1 other))
