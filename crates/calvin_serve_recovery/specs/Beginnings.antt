-- For private clauses: how far what a journal begins with was read. The notions are of this project.
--     start_at e rows      the start at epoch e on these rows
--     TakesLines P old new      some lines more were handed out, of which P holds; a journal tells its lines always or never
--     HandsRow form row old new      the next line was handed out, and keeps this row
--     BeginsWithNoRow form lines      there is no line, or the first keeps no row
--     HaveRows form count rows lines      the lines are so many, and keep these rows
--     HaveNoRows form count lines      there are fewer lines, or one of the first so many keeps no row
--     AreOnRows form count rows lines      behind the first line are so many, which keep these rows, each key once
--     AreOnNoRows form count lines      behind the first line are fewer, or the first so many of them don't keep rows, each key once
--     SaysOfStart said lines      what the first line says of a start
--     BeginsWithNoJson lines      the first line is no JSON
--     StartsAt form start old new      what the journal begins with was handed out, and the epochs are ahead
use Rattle.std.specs.Prelude.{◌≡◌, ℕ, List, [], ◌∷◌, ◌++◌, length, take, nat_le, true, Option, Some, None, Ok, Err}
use Rattle.serde_json.specs.Data.{Data}
use Rattle.calvin_types.specs.declared.fault.Fault.{Fault}
use Rattle.calvin_types.specs.declared.key.Key.{Key}
use Rattle.calvin_app.specs.Rows.{Rows}
use Rattle.calvin_journal.specs.Readings.{Lines, HandsOut}
use Rattle.calvin_serve_rows.specs.RowLines.{row_in}
use Rattle.calvin_serve_rows.specs.Starts.{Start, start_in, rows_in, on_rows, starts}

abbrev pub start_at : {Row : Type 0} → ℕ → Rows Row → Start Row
start_at e rows = record { epoch = e; rows = rows }

abbrev pub TakesLines : (List (List ℕ) → Type 0) → Option Lines → Option Lines → Type 0
TakesLines P None None = Unit {0}
TakesLines P None (Some new) = ⊥
TakesLines P (Some old) None = ⊥
TakesLines P (Some old) (Some new) = (lines : List (List ℕ)) × (old.ahead ≡ lines ++ new.ahead) × (new.done ≡ old.done ++ lines) × P lines

abbrev pub SaysOfStart : Option (ℕ × ℕ) → List (List ℕ) → Type 0
SaysOfStart said [] = said ≡ None
SaysOfStart said (line ∷ lines) = start_in line ≡ Ok said

abbrev pub BeginsWithNoJson : List (List ℕ) → Type 0
BeginsWithNoJson [] = ⊥
BeginsWithNoJson (line ∷ lines) = (fault : Fault) × (start_in line ≡ Err fault)

module _ {Row : Type 0} (form : Data → Option Row) where
  abbrev pub HandsRow : Key × Row → Option Lines → Option Lines → Type 0
  HandsRow row old new = (line : List ℕ) × HandsOut line old new × (row_in form line ≡ Ok row)

  abbrev pub BeginsWithNoRow : List (List ℕ) → Type 0
  BeginsWithNoRow [] = Unit {0}
  BeginsWithNoRow (line ∷ lines) = (fault : Fault) × (row_in form line ≡ Err fault)

  abbrev pub HaveRows : ℕ → List (Key × Row) → List (List ℕ) → Type 0
  HaveRows count rows lines = (length lines ≡ count) × (rows_in form lines ≡ Ok rows)

  abbrev pub HaveNoRows : ℕ → List (List ℕ) → Type 0
  HaveNoRows count lines = nat_le count (length lines) ≡ true → (fault : Fault) × (rows_in form (take count lines) ≡ Err fault)

  -- whatever the number of the first epoch is
  abbrev pub AreOnRows : ℕ → Rows Row → List (List ℕ) → Type 0
  AreOnRows count rows [] = ⊥
  AreOnRows count rows (line ∷ lines) = (length lines ≡ count) × ((e : ℕ) → on_rows form e lines ≡ Ok (start_at e rows))

  abbrev pub AreOnNoRows : ℕ → List (List ℕ) → Type 0
  AreOnNoRows count [] = Unit {0}
  AreOnNoRows count (line ∷ lines) = nat_le count (length lines) ≡ true → (e : ℕ) → (fault : Fault) × (on_rows form e (take count lines) ≡ Err fault)

  abbrev pub StartsAt : Start Row → Option Lines → Option Lines → Type 0
  StartsAt start None None = Unit {0}
  StartsAt start None (Some new) = ⊥
  StartsAt start (Some old) None = ⊥
  StartsAt start (Some old) (Some new) = (starts form old.ahead ≡ Ok (start, new.ahead)) × (new.done ++ new.ahead ≡ old.done ++ old.ahead)
