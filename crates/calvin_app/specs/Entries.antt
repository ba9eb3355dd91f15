-- Rows by key, kept as entries whose keys rise.
--     rising entries      their keys rise
--     shown entries      the map that they show
use Rattle.std.specs.Prelude.{List, T}
use Rattle.std.specs.FinMap as map
use Rattle.calvin_types.specs.declared.key.Key.{Key}
use Rattle.calvin_types.specs.Keys.{key_cmp}
use Rattle.calvin_app.specs.Rows.{Rows}

abbrev pub rising : {Row : Type 0} → List (Key × Row) → Type 0
rising es = T (map.is_sorted key_cmp es)

abbrev pub shown : {Row : Type 0} → List (Key × Row) → Rows Row
shown es = map.from_sorted es
