-- A row as a line of a journal. The form is of this project.
--     row_of form d      the key and the row of `[table,id,ROW]`, where the row is written in a form
--     row_in form line      those of the line, or BadJson, or BadScript
use Rattle.std.specs.Prelude.{◌^◌, ℕ, List, Option, Some, option_and_then, is_none, Result, ok_or}
use Rattle.serde_json.specs.Data.{Data}
use Rattle.serde_json.specs.Find.{at}
use Rattle.calvin_types.specs.declared.fault.Fault.{Fault}
use Rattle.calvin_types.specs.declared.fault.Fault.TheVariants.{BadScript}
use Rattle.calvin_types.specs.declared.key.Key.{Key}
use Rattle.calvin_script.specs.Spelling.{◌>>=◌, only_if, below}
use Rattle.calvin_script.specs.Reading.{json, and_then}

module _ {Row : Type 0} (form : Data → Option Row) where
  unfoldable pub row_of : Data → Option (Key × Row)
  row_of d = only_if (is_none (at 3 d)) (do
    table ← option_and_then (below (2 ^ 8)) (at 0 d)
    id ← option_and_then (below (2 ^ 64)) (at 1 d)
    row ← option_and_then form (at 2 d)
    Some (record { table = table; id = id }, row))

  unfoldable pub row_in : List ℕ → Result (Key × Row) Fault
  row_in line = and_then (json line) (λ d. ok_or (row_of d) BadScript)
