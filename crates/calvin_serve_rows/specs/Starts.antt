-- What a journal begins with, behind its heading: nothing, or the rows in which the epochs of a former one ended. The form is of
-- this project.
--     Start Row      the number of the first epoch that is listed, and the rows that it finds
--     afresh      epoch 0, and no rows
--     start_of d      the numbers of `["rows",E,N]`: of the first epoch, and how many rows there are
--     start_in line      those of the line, if it is of this form, or BadJson
--     rows_in form lines      the rows that the lines keep, or why one keeps none
--     on_rows form e lines      the start at epoch e on the rows that these lines keep, each key once
--     starts form lines      what the lines behind a heading begin with, and the lines behind it, which are to be epochs
use Rattle.std.specs.Prelude.{◌^◌, ℕ, List, [], ◌∷◌, length, take, drop, nat_le, if◌then◌else◌, Option, Some, None, option_and_then, is_none, Result, Ok, Err, codes, bytes_eq}
use Rattle.std.specs.FinMap.{empty}
use Rattle.serde_json.specs.Data.{Data}
use Rattle.serde_json.specs.Find.{at, as_str}
use Rattle.calvin_types.specs.declared.fault.Fault.{Fault}
use Rattle.calvin_types.specs.declared.fault.Fault.TheVariants.{Repeated, BadScript}
use Rattle.calvin_types.specs.declared.key.Key.{Key}
use Rattle.calvin_types.specs.declared.limits.TheConstants.{MOST_EPOCHS}
use Rattle.calvin_types.specs.Keys.{are_distinct}
use Rattle.calvin_app.specs.Rows.{Rows, overwritten}
use Rattle.calvin_app.specs.Writing.{keys_of}
use Rattle.calvin_script.specs.Spelling.{◌>>=◌, only_if, below, between}
use Rattle.calvin_script.specs.Reading.{json, and_then}
use Rattle.calvin_serve_rows.specs.RowLines.{row_in}

pub record Start (Row : Type 0) : Type 0 where
  pub epoch : ℕ
  pub rows : Rows Row

abbrev pub afresh : {Row : Type 0} → Start Row
afresh = record { epoch = 0; rows = empty }

unfoldable pub start_of : Data → Option (ℕ × ℕ)
start_of d = only_if (is_none (at 3 d)) (do
  name ← option_and_then as_str (at 0 d)
  epoch ← option_and_then (between 0 MOST_EPOCHS) (at 1 d)
  count ← option_and_then (below (2 ^ 64)) (at 2 d)
  only_if (bytes_eq name (codes "rows")) (Some (epoch, count)))

unfoldable pub start_in : List ℕ → Result (Option (ℕ × ℕ)) Fault
start_in line = and_then (json line) (λ d. Ok (start_of d))

module _ {Row : Type 0} (form : Data → Option Row) where
  abbrev pub rows_in : List (List ℕ) → Result (List (Key × Row)) Fault
  rows_in [] = Ok []
  rows_in (line ∷ lines) = and_then (row_in form line) (λ row. and_then (rows_in lines) (λ rows. Ok (row ∷ rows)))

  abbrev pub on_rows : ℕ → List (List ℕ) → Result (Start Row) Fault
  on_rows e lines = and_then (rows_in lines) (λ rows.
      if are_distinct (keys_of rows) then Ok (record { epoch = e; rows = overwritten empty rows }) else Err Repeated)

  -- what the first line says decides: so many lines are rows, or all are epochs
  abbrev pub starts_by : Option (ℕ × ℕ) → List ℕ → List (List ℕ) → Result (Start Row × List (List ℕ)) Fault
  starts_by None line lines = Ok (afresh, line ∷ lines)
  starts_by (Some said) line lines = if nat_le said.1 (length lines)
      then and_then (on_rows said.0 (take said.1 lines)) (λ start. Ok (start, drop said.1 lines)) else Err BadScript

  abbrev pub starts : List (List ℕ) → Result (Start Row × List (List ℕ)) Fault
  starts [] = Ok (afresh, [])
  starts (line ∷ lines) = and_then (start_in line) (λ said. starts_by said line lines)
