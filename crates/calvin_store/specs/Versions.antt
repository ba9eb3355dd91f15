-- The versions of rows while a point is open (Thomson et al. 2012, section 5: before and after versions). The present rows
-- are the after versions; of keys that were written above the point the before versions are kept beside them, and the
-- present row of every other key is both.
--     with_row rows k row      the rows in which a key has this row, or none
--     before_rows rows before      the rows of the point
--     point_at epoch rows before      the point at the end of an epoch, if one is open
--     before_pairs before pairs      the pairs of the point, of the present ones
--     AreBeside epoch rows before      before versions that belong beside these rows
use Rattle.std.specs.Prelude.{◌≡◌, ℕ, ◌+◌, true, false, List, [], ◌∷◌, Option, Some, None, is_some, unwrap_or, option_map}
use Rattle.std.specs.List.{filter_map}
use Rattle.std.specs.FinMap.{entries, get, insert, remove}
use Rattle.calvin_types.specs.declared.key.Key.{Key}
use Rattle.calvin_app.specs.Rows.{Rows}
use Rattle.calvin_app.specs.Stores.{Point}

module _ {Row : Type 0} where
  abbrev pub with_row : Rows Row → Key → Option Row → Rows Row
  with_row rows k None = remove rows k
  with_row rows k (Some row) = insert rows k row

  abbrev pub with_rows : Rows Row → List (Key × Option Row) → Rows Row
  with_rows rows [] = rows
  with_rows rows (e ∷ es) = with_row (with_rows rows es) e.0 e.1

  abbrev pub before_rows : Rows Row → Rows (Option Row) → Rows Row
  before_rows rows before = with_rows rows (entries before)

  abbrev pub point_at : Option ℕ → Rows Row → Rows (Option Row) → Option (Point Row)
  point_at None rows before = None
  point_at (Some e) rows before = Some (record { at = record { epoch = e + 1; n = 0 }; rows = before_rows rows before })

  -- the before version of a pair: what is kept for its key, or else the pair
  abbrev pub before_pair : Rows (Option Row) → Key × Row → Option (Key × Row)
  before_pair before p = option_map (λ row. (p.0, row)) (unwrap_or (get before p.0) (Some p.1))

  abbrev pub before_pairs : Rows (Option Row) → List (Key × Row) → List (Key × Row)
  before_pairs before = filter_map (before_pair before)

  -- only a key that has a row has a before version, and none has where no point is open
  pub record AreBeside (epoch : Option ℕ) (rows : Rows Row) (before : Rows (Option Row)) : Type 0 where
    pub within : (k : Key) → is_some (get before k) ≡ true → is_some (get rows k) ≡ true
    pub closed : epoch ≡ None → (k : Key) → is_some (get before k) ≡ false
