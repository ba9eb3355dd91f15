-- Writes as they are gathered: each key once. The form is of this project.
--     keys_of writes      the keys that are written
--     with_write k row writes      writes with one more, in place of the one under this key
use Rattle.std.specs.Prelude.{List, [], ◌∷◌, map, if◌then◌else◌}
use Rattle.calvin_types.specs.declared.key.Key.{Key}
use Rattle.calvin_types.specs.Keys.{same_key}

abbrev pub keys_of : {Row : Type 0} → List (Key × Row) → List Key
keys_of ws = map (λ w. w.0) ws

abbrev pub with_write : {Row : Type 0} → Key → Row → List (Key × Row) → List (Key × Row)
with_write key row [] = (key, row) ∷ []
with_write key row (w ∷ ws) = if same_key key w.0 then (key, row) ∷ ws else w ∷ with_write key row ws
