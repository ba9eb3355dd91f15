-- Laws of ready places, whatever lock manager keeps them.
use Rattle.std.proofs.Common.{◌≡◌, ◌≢◌, Bool, true, false, cond, Option, Some, None, is_some, refl, sym, ap, subst, ◌∙◌}
use Rattle.std.proofs.lemmas.Bool.{false≢true}
use Rattle.std.proofs.lemmas.Option.{none-some}
use Rattle.std.specs.Ordering.{eq_by_cmp}
use Rattle.std.specs.FinMap.{get, get-insert, get-remove}
use Rattle.calvin_types.specs.declared.key_set.Sets.{Sets}
use Rattle.calvin_types.specs.declared.place.Place.{Place}
use Rattle.calvin_types.specs.Places.{place_cmp, IsBefore}
use Rattle.calvin_types.proofs.PlaceOrder.{place_total, not_both, one_place, not_same}
use Rattle.calvin_lock.specs.Ready.{Requested, Conflict, IsReady, IsPast, IsOldest}
use Rattle.calvin_lock.specs.Locking.{Locking, IsUpToLast, with_request, without}
use Rattle.calvin_lock.proofs.Requests.{past_before}

-- the least unreleased place is ready: no earlier one is there to conflict with it
pub oldest_ready : (r : Requested) (q : Place) → IsOldest r q → IsReady r q
oldest_ready r q oldest = go (get r q) refl
  where
    go : (o : Option Sets) → get r q ≡ o → IsReady r q
    go None e = absurd (false≢true (sym (ap is_some e) ∙ oldest.0))
    go (Some h) e = (h, e, λ n g there before c. oldest.1 n (ap is_some there) before)

-- a ready place stays ready when a later one is requested
pub ready_with_request : (l : Locking) (q later : Place) (sets : Sets) → IsReady l.requested q → IsBefore q later → IsReady (with_request later sets l).requested q
ready_with_request l q later sets (h, at, free) before = (
  h,
  get-insert place_total l.requested later sets q ∙ own (eq_by_cmp place_cmp q later) refl,
  λ n g there. other n g (eq_by_cmp place_cmp n later) refl (sym (get-insert place_total l.requested later sets n) ∙ there),
)
  where
    own : (b : Bool) → eq_by_cmp place_cmp q later ≡ b → cond b (Some sets) (get l.requested q) ≡ Some h
    own true same = absurd (not_same q later before same)
    own false _ = at

    other : (n : Place) (g : Sets) (b : Bool) → eq_by_cmp place_cmp n later ≡ b → cond b (Some sets) (get l.requested n) ≡ Some g → IsBefore n q → ¬ Conflict g h
    other n g true same _ early = absurd (not_both q n (subst (IsBefore q) (sym (one_place n later same)) before) early)
    other n g false _ there early = free n g there early

-- and when another is released
pub ready_without : (l : Locking) (q p : Place) → IsReady l.requested q → q ≢ p → IsReady (without p l).requested q
ready_without l q p (h, at, free) different = (
  h,
  get-remove place_total l.requested p q ∙ own (eq_by_cmp place_cmp q p) refl,
  λ n g there. other n g (eq_by_cmp place_cmp n p) (sym (get-remove place_total l.requested p n) ∙ there),
)
  where
    own : (b : Bool) → eq_by_cmp place_cmp q p ≡ b → cond b None (get l.requested q) ≡ Some h
    own true same = absurd (different (one_place q p same))
    own false _ = at

    other : (n : Place) (g : Sets) (b : Bool) → cond b None (get l.requested n) ≡ Some g → IsBefore n q → ¬ Conflict g h
    other n g true there early = absurd (none-some g there)
    other n g false there early = free n g there early

-- a place past the last one requested comes after each requested one
pub requested_before : (l : Locking) (q later : Place) → IsUpToLast l → IsReady l.requested q → IsPast l.last later → IsBefore q later
requested_before l q later up_to ready past = past_before l.last q later (up_to q (ap is_some ready.1)) past
