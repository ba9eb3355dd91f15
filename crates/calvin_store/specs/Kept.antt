-- What tables of rows are seen as, and what keepers are. The notions are of this project.
--     Kept      rows, and room for more
--     IsListed pairs rows      the pairs of a table
--     Split      rows, the point that is open if one is, and room for more
--     split_store s      these as a store: nothing is cold
--     Keeper      a store, and room for more rows
use Rattle.std.specs.Prelude.{◌≡◌, ℕ, List, Option, refl}
use Rattle.std.specs.Coded.{Coded, code_by, coded×, coded_ℕ, coded_option}
use Rattle.std.specs.FinMap.{code, empty, from_entries}
use Rattle.std.specs.FinSet as set
use Rattle.std.specs.List.{IsDistinct}
use Rattle.calvin_types.specs.declared.key.Key.{Key}
use Rattle.calvin_types.specs.declared.place.Place.{Place}
use Rattle.calvin_types.specs.Keys.{key_cmp}
use Rattle.calvin_types.specs.Codes.{coded_key, coded_place}
use Rattle.calvin_types.specs.SameKeys.{equal_keys}
use Rattle.calvin_app.specs.Rows.{Rows}
use Rattle.calvin_app.specs.Stores.{Point, Store}
use Rattle.calvin_app.specs.Writing.{keys_of}

-- rows, and room for more
pub record Kept (Row : Type 0) : Type 0 where
  pub rows : Rows Row
  pub room : ℕ

-- rows, the point that is open if one is, and room for more
pub record Split (Row : Type 0) : Type 0 where
  pub rows : Rows Row
  pub point : Option (Point Row)
  pub room : ℕ

-- as a store: nothing is cold
abbrev pub split_store : {Row : Type 0} → Split Row → Store Row
split_store s = record { map = s.rows; point = s.point; cold = empty }

-- a store, and room for more rows
pub record Keeper (Row : Type 0) : Type 0 where
  pub store : Store Row
  pub room : ℕ

-- the pairs of a table, in no order that counts: each key once, with its row
pub record IsListed {Row : Type 0} (pairs : List (Key × Row)) (rows : Rows Row) : Type 0 where
  pub distinct : IsDistinct equal_keys (keys_of pairs)
  pub rows_are : from_entries pairs ≡ rows

-- each as the tuple of its fields
abbrev pub coded_kept : {Row : Type 0} → Coded Row → Coded (Kept Row)
coded_kept {Row} row = code_by (Rows Row × ℕ) (coded× (code coded_key row) coded_ℕ) (λ k. (k.rows, k.room)) (λ p. record { rows = p.0; room = p.1 }) (λ _. refl)

abbrev pub coded_point : {Row : Type 0} → Coded Row → Coded (Point Row)
coded_point {Row} row = code_by (Place × Rows Row) (coded× coded_place (code coded_key row)) (λ p. (p.at, p.rows)) (λ p. record { at = p.0; rows = p.1 }) (λ _. refl)

abbrev pub coded_split : {Row : Type 0} → Coded Row → Coded (Split Row)
coded_split {Row} row = code_by (Rows Row × (Option (Point Row) × ℕ)) (coded× (code coded_key row) (coded× (coded_option (coded_point row)) coded_ℕ))
    (λ s. (s.rows, (s.point, s.room))) (λ p. record { rows = p.0; point = p.1.0; room = p.1.1 }) (λ _. refl)

abbrev pub coded_store : {Row : Type 0} → Coded Row → Coded (Store Row)
coded_store {Row} row = code_by (Rows Row × (Option (Point Row) × set.FinSet {K = Key} key_cmp)) (coded× (code coded_key row) (coded× (coded_option (coded_point row)) (set.code coded_key)))
    (λ s. (s.map, (s.point, s.cold))) (λ p. record { map = p.0; point = p.1.0; cold = p.1.1 }) (λ _. refl)

abbrev pub coded_keeper : {Row : Type 0} → Coded Row → Coded (Keeper Row)
coded_keeper {Row} row = code_by (Store Row × ℕ) (coded× (coded_store row) coded_ℕ) (λ k. (k.store, k.room)) (λ p. record { store = p.0; room = p.1 }) (λ _. refl)
