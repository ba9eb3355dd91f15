-- The rows of Kv as a journal keeps them. The form is of this project.
--     kv_row d      the number of a row
use Rattle.std.specs.Prelude.{◌^◌, ℕ, Option}
use Rattle.serde_json.specs.Data.{Data}
use Rattle.calvin_script.specs.Spelling.{below}

abbrev pub kv_row : Data → Option ℕ
kv_row d = below (2 ^ 64) d
