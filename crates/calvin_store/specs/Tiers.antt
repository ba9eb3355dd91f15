-- Rows in a hot table and a cold one (Thomson et al. 2012, section 4: rows in memory, and rows on disk).
--     Tiered      the rows of both tables, the keys whose row is cold, and room for more hot rows
--     both hot cold      the rows of both; of a key that has two, the hot one
--     names_of rows      the keys that have a row
--     AreApart hot cold      no key has a row in both
--     is_hot_in tiers k      whether a key has a row that isn't cold
--     cool_in k tiers      the row of a key goes to the cold table
--     cold_of cold keys      those of these keys whose row is cold
use Rattle.std.specs.Prelude.{◌≡◌, ℕ, Bool, true, false, List, map, ◌++◌, is_some, if◌then◌else◌, ◌&&◌, not, refl}
use Rattle.std.specs.Coded.{Coded, code_by, coded×, coded_ℕ}
use Rattle.std.specs.List.{filter}
use Rattle.std.specs.FinMap.{code, entries, get, insert, from_entries}
use Rattle.std.specs.FinSet as set
use Rattle.calvin_types.specs.declared.fault.Fault.TheVariants as fault
use Rattle.calvin_types.specs.declared.key.Key.{Key}
use Rattle.calvin_types.specs.Keys.{key_cmp}
use Rattle.calvin_types.specs.Codes.{coded_key}
use Rattle.calvin_types.specs.Deeds.{Deed, Refuses, Does}
use Rattle.calvin_app.specs.Rows.{Rows}

pub record Tiered (Row : Type 0) : Type 0 where
  pub rows : Rows Row
  pub cold : set.FinSet {K = Key} key_cmp
  pub room : ℕ

-- as the tuple of its fields
abbrev pub coded_tiered : {Row : Type 0} → Coded Row → Coded (Tiered Row)
coded_tiered {Row} row = code_by (Rows Row × (set.FinSet {K = Key} key_cmp × ℕ)) (coded× (code coded_key row) (coded× (set.code coded_key) coded_ℕ))
    (λ t. (t.rows, (t.cold, t.room))) (λ p. record { rows = p.0; cold = p.1.0; room = p.1.1 }) (λ _. refl)

module _ {Row : Type 0} where
  abbrev pub both : Rows Row → Rows Row → Rows Row
  both hot cold = from_entries (entries hot ++ entries cold)

  abbrev pub names_of : Rows Row → set.FinSet {K = Key} key_cmp
  names_of rows = from_entries (map (λ e. (e.0, tt)) (entries rows))

  abbrev pub AreApart : Rows Row → Rows Row → Type 0
  AreApart hot cold = (k : Key) → is_some (get hot k) ≡ true → is_some (get cold k) ≡ false

  abbrev pub is_hot_in : Tiered Row → Key → Bool
  is_hot_in tiers k = is_some (get tiers.rows k) && not (is_some (get tiers.cold k))

  -- refused where the key has no row that isn't cold
  abbrev pub cool_in : Key → Tiered Row → Deed (Tiered Row) (Unit {0})
  cool_in k tiers = if is_hot_in tiers k then Does (record tiers { cold = insert tiers.cold k tt }) tt else Refuses fault.NoRow

-- those of these keys whose row is cold
abbrev pub cold_of : set.FinSet {K = Key} key_cmp → List Key → List Key
cold_of cold keys = filter (λ k. is_some (get cold k)) keys
