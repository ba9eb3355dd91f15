-- A keeper's point: opened, closed, and told.
use Rattle.std.proofs.Common.{◌≡◌, ℕ, ◌+◌, true, false, Option, Some, None, Ok, is_some, refl, sym, ap, subst, ◌∙◌}
use Rattle.std.specs.FinMap.{empty, get, get-empty}
use Rattle.calvin_types.specs.Deeds.{Did}
use Rattle.calvin_types.specs.declared.key.Key.{Key}
use Rattle.calvin_types.specs.declared.place.Place.{Place}
use Rattle.calvin_types.specs.Keys.{key_cmp}
use Rattle.calvin_app.specs.Rows.{Rows}
use Rattle.calvin_app.specs.Stores.{Store, marked}
use Rattle.calvin_store.specs.Points.{mark_by, mark_at, rows_of, IsMarked}
use Rattle.calvin_store.specs.Versions.{before_rows, point_at, AreBeside}
use Rattle.calvin_store.proofs.BeforeVersions.{before_none}

-- the place at which the point of an epoch is
abbrev pub end_of : ℕ → Place
end_of e = record { epoch = e + 1; n = 0 }

module _ {Row : Type 0} where
  -- where no point is open there are no before versions
  pub beside_none : (epoch : Option ℕ) (rows : Rows Row) (before : Rows (Option Row)) → epoch ≡ None → before ≡ empty → AreBeside epoch rows before
  beside_none epoch rows before is same = record {
    within = λ k h. absurd (let e : false ≡ true = sym (none k) ∙ h in cc);
    closed = λ _. none;
  }
    where
      none : (k : Key) → is_some (get before k) ≡ false
      none k = ap (λ (m : Rows (Option Row)). is_some (get m k)) same ∙ ap is_some (get-empty key_cmp k)

  pub is_marked : (epoch : Option ℕ) (rows : Rows Row) (before : Rows (Option Row)) → IsMarked (point_at epoch rows before) epoch
  is_marked None rows before = refl
  is_marked (Some e) rows before = (record { at = end_of e; rows = before_rows rows before }, refl, refl)

  pub point_none : (epoch : Option ℕ) (rows : Rows Row) (before : Rows (Option Row)) → is_some epoch ≡ false → point_at epoch rows before ≡ None
  point_none None rows before h = refl
  point_none (Some e) rows before h = absurd (cc)

  pub point_rows : (epoch : Option ℕ) (rows : Rows Row) (before : Rows (Option Row)) → is_some epoch ≡ true → rows_of (point_at epoch rows before) ≡ before_rows rows before
  point_rows None rows before h = absurd (cc)
  point_rows (Some e) rows before h = refl

  -- a point that is opened has the present rows
  pub point_opened : (e : ℕ) (epoch : Option ℕ) (rows : Rows Row) (before : Rows (Option Row)) → is_some epoch ≡ false → AreBeside epoch rows before → point_at (Some e) rows before ≡ Some (record { at = end_of e; rows = rows })
  point_opened e None rows before h beside = ap (λ r. Some (record { at = end_of e; rows = r })) (before_none rows before (beside.closed refl))
  point_opened e (Some d) rows before h beside = absurd (cc)

  pub did_mark : (e : ℕ) (store new : Store Row) → store.point ≡ None → new ≡ marked (end_of e) store → Did false (Ok tt) (mark_at true (end_of e) store) store new
  did_mark e store new none is = subst (λ p. Did false (Ok tt) (mark_by true (end_of e) store p) store new) (sym none) (refl, is)
