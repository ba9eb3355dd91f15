-- Which snapshots can be taken, by what is kept of the progress of a scheduler; and points at the end of an epoch.
use Rattle.std.proofs.Common.{◌≡◌, ℕ, Bool, true, false, cond, ◌&&◌, List, Option, Some, None, refl, ap, ◌∙◌}
use Rattle.std.specs.Prelude.{nat_le}
use Rattle.std.specs.FinMap.{FinMap}
use Rattle.std.specs.Ordering.{eq_by_cmp}
use Rattle.calvin_types.specs.declared.fault.Fault.TheVariants as fault
use Rattle.calvin_types.specs.declared.place.Place.{Place}
use Rattle.calvin_types.specs.Deeds.{Deed, Refuses, Does}
use Rattle.calvin_types.specs.Places.{place_cmp}
use Rattle.calvin_app.specs.Rows.{Rows}
use Rattle.calvin_app.specs.Stores.{Store, Point}
use Rattle.calvin_order.specs.Merged.{end_of}
use Rattle.calvin_store.specs.Points.{rows_of}
use Rattle.calvin_sched.specs.Scheduling.{Scheduling}
use Rattle.calvin_sched.specs.Standing.{stands, all_done, closed_at, take_from, take_rows}
use Rattle.calvin_sched.specs.Keeping.{Kept, turns_of, scheduling_of, takes_effect, is_point_at, rows_at}
use Rattle.calvin_sched.specs.Progress.{left, end_of_due, IsProgress}
use Rattle.calvin_sched.proofs.Standings.{all_done_is, stands_is}

module _ {Args Row : Type 0} (merged : ℕ) (due : List Place) (n : ℕ) (s : Scheduling Args Row) where
  -- whether a snapshot at the end of n epochs can be taken
  abbrev pub takeable : Bool
  takeable = cond (is_point_at n s.store.point) (all_done s merged due n) (stands s merged due n)

  abbrev pub taken : Deed (Scheduling Args Row) (Rows Row)
  taken = Does (closed_at n s) (rows_at n s.store)

  pub take_is : take_rows merged due n s ≡ cond takeable taken (Refuses fault.NotAtEnd)
  take_is = go s.store.point
    where
      by_place : (p : Point Row) (b : Bool)
          → cond b (cond (all_done s merged due n) (Does (closed_at n s) p.rows) (Refuses fault.NotAtEnd)) (cond (stands s merged due n) (Does (closed_at n s) s.store.map) (Refuses fault.NotAtEnd))
          ≡ cond (cond b (all_done s merged due n) (stands s merged due n)) (Does (closed_at n s) (cond b p.rows s.store.map)) (Refuses fault.NotAtEnd)
      by_place p true = refl
      by_place p false = refl

      go : (o : Option (Point Row)) → take_from merged due n s o ≡ cond (cond (is_point_at n o) (all_done s merged due n) (stands s merged due n)) (Does (closed_at n s) (cond (is_point_at n o) (rows_of o) s.store.map)) (Refuses fault.NotAtEnd)
      go None = refl
      go (Some p) = by_place p (eq_by_cmp place_cmp p.at (end_of n))

  pub refused_of : takeable ≡ false → take_rows merged due n s ≡ Refuses fault.NotAtEnd
  refused_of h = take_is ∙ ap (λ b. cond b taken (Refuses fault.NotAtEnd)) h

  pub taken_of : takeable ≡ true → takes_effect (take_rows merged due n s) ≡ true
  taken_of h = ap takes_effect (take_is ∙ ap (λ b. cond b taken (Refuses fault.NotAtEnd)) h)

module _ {Args Row : Type 0} (opened : ℕ) (last : Option Place) (kept : FinMap {K = Place} place_cmp (Kept Args Row)) (store : Store Row) (merged done : ℕ) (due : List Place)
    (is : IsProgress opened last (turns_of kept) merged done due) (n : ℕ) where
  abbrev pub takeable_here : Bool
  takeable_here = takeable merged (left (scheduling_of opened last kept store) due) n (scheduling_of opened last kept store)

  pub takeable_is : takeable_here ≡ cond (is_point_at n store.point) (nat_le n (end_of_due merged due)) (nat_le n (end_of_due merged due) && (nat_le opened n && nat_le done n))
  takeable_is = λ i. cond (is_point_at n store.point) (all_done_is opened last kept store merged done due is n i) (stands_is opened last kept store merged done due is n i)

  -- what can't be done yet; a point; an epoch that the scheduler was opened past, or of which later ones have begun; and all else
  pub not_yet : nat_le n (end_of_due merged due) ≡ false → takeable_here ≡ false
  not_yet h = takeable_is ∙ ap (λ b. cond (is_point_at n store.point) b (b && (nat_le opened n && nat_le done n))) h ∙ go (is_point_at n store.point)
    where
      go : (b : Bool) → cond b false false ≡ false
      go true = refl
      go false = refl

  pub at_point : is_point_at n store.point ≡ true → nat_le n (end_of_due merged due) ≡ true → takeable_here ≡ true
  at_point p h = takeable_is ∙ ap (λ b. cond b (nat_le n (end_of_due merged due)) (nat_le n (end_of_due merged due) && (nat_le opened n && nat_le done n))) p ∙ h

  pub at_end : is_point_at n store.point ≡ false → (nat_le n (end_of_due merged due) && (nat_le opened n && nat_le done n)) ≡ true → takeable_here ≡ true
  at_end p h = takeable_is ∙ ap (λ b. cond b (nat_le n (end_of_due merged due)) (nat_le n (end_of_due merged due) && (nat_le opened n && nat_le done n))) p ∙ h

  pub not_at_end : is_point_at n store.point ≡ false → (nat_le opened n && nat_le done n) ≡ false → takeable_here ≡ false
  not_at_end p h =
      takeable_is ∙ ap (λ b. cond b (nat_le n (end_of_due merged due)) (nat_le n (end_of_due merged due) && (nat_le opened n && nat_le done n))) p
      ∙ ap (λ b. nat_le n (end_of_due merged due) && b) h ∙ go (nat_le n (end_of_due merged due))
    where
      go : (b : Bool) → (b && false) ≡ false
      go true = refl
      go false = refl
