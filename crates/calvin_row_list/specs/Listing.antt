-- Rows that stand in a list.
--     Listing      the rows, and for how many there is room, counted with those that are there
--     coded_listing      a listing as these two, and back
--     IsListing entries      what is true of the entries of every row list
use Rattle.std.specs.Prelude.{ℕ, ◌≤◌, List, length, refl}
use Rattle.std.specs.Coded.{Coded, code_by, coded×, coded_ℕ}
use Rattle.std.specs.FinMap as map
use Rattle.calvin_types.specs.Codes.{coded_key}
use Rattle.calvin_types.specs.declared.key.Key.{Key}
use Rattle.calvin_types.specs.declared.limits.TheConstants.{MOST_KEYS}
use Rattle.calvin_app.specs.Entries.{rising}
use Rattle.calvin_app.specs.Rows.{Rows}

pub record Listing (Row : Type 0) : Type 0 where
  pub rows : Rows Row
  pub room : ℕ

abbrev pub coded_listing : {Row : Type 0} → Coded Row → Coded (Listing Row)
coded_listing {Row} row = code_by (Rows Row × ℕ) (coded× (map.code coded_key row) coded_ℕ) (λ l. (l.rows, l.room)) (λ p. record { rows = p.0; room = p.1 }) (λ _. refl)

pub record IsListing {Row : Type 0} (entries : List (Key × Row)) : Type 0 where
  pub rises : rising entries
  pub few : length entries ≤ MOST_KEYS
