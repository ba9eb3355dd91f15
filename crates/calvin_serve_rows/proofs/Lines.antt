-- A line that is written of a row, or of a start, is read as that.
use Rattle.std.proofs.Common.{◌≡◌, ◌<◌, ◌≤◌, ◌^◌, ℕ, List, true, false, nat_lt, nat_le, Option, Some, Ok, IsUtf8, refl, ap, ◌∙◌, arith}
use Rattle.std.specs.Prelude.{ok_or}
use Rattle.std.proofs.lemmas.Bool.{lt-ltb, le-leb}
use Rattle.json.specs.Lex.{tokens}
use Rattle.json.specs.Print.{print}
use Rattle.serde_json.specs.Data.{Data, depth}
use Rattle.serde_json.specs.Read.{read, max_depth}
use Rattle.calvin_types.specs.declared.fault.Fault.TheVariants.{BadScript}
use Rattle.calvin_types.specs.declared.key.Key.{Key}
use Rattle.calvin_types.specs.declared.limits.TheConstants.{MOST_EPOCHS}
use Rattle.calvin_journal.specs.Lines.{has_break}
use Rattle.calvin_script.specs.Reading.{and_then}
use Rattle.calvin_script.proofs.Json.{json_read}
use Rattle.calvin_serve_lines.proofs.Breaks.{one_line as printed_line}
use Rattle.calvin_serve_rows.specs.RowLines.{row_of, row_in}
use Rattle.calvin_serve_rows.specs.Starts.{start_of, start_in}
use Rattle.calvin_serve_rows.specs.Spelled.{row_data, start_data}

module _ {Row : Type 0} (form : Data → Option Row) where
  row_read : (key : Key) (d : Data) (r : Row) → key.table < 2 ^ 8 → key.id < 2 ^ 64 → form d ≡ Some r → row_of form (row_data key d) ≡ Some (key, r)
  unfolding row_of
  row_read key d r table id is =
      let narrow : nat_lt key.table 256 ≡ true = lt-ltb key.table 256 (omega (arith, table)) in
      let small : nat_lt key.id (2 ^ 64) ≡ true = lt-ltb key.id (2 ^ 64) id in
      rw (narrow, small, is) refl

  pub line_read : (line : List ℕ) (key : Key) (d : Data) (r : Row) → IsUtf8 line → (depth (row_data key d) ≤ max_depth → read line ≡ Some (row_data key d)) → depth d < max_depth
      → key.table < 2 ^ 8 → key.id < 2 ^ 64 → form d ≡ Some r → row_in form line ≡ Ok (key, r)
  unfolding row_in
  line_read line key d r utf8 reads shallow table id is =
      ap (λ x. and_then x (λ y. ok_or (row_of form y) BadScript)) (json_read line (row_data key d) utf8 (reads (omega (arith, shallow))))
      ∙ ap (λ o. ok_or o BadScript) (row_read key d r table id is)

-- what a writer of JSON prints is one line
pub one_line : (text : List ℕ) → text ≡ print (tokens text) → has_break text ≡ false
one_line = printed_line

-- a line that is written of a start is read as that start
pub start_read : (line : List ℕ) (epoch count : ℕ) → IsUtf8 line → (depth (start_data epoch count) ≤ max_depth → read line ≡ Some (start_data epoch count)) → count < 2 ^ 64 → epoch ≤ MOST_EPOCHS
    → start_in line ≡ Ok (Some (epoch, count))
unfolding start_in start_of
start_read line epoch count utf8 reads small most =
    let in_range : nat_le epoch MOST_EPOCHS ≡ true = le-leb epoch MOST_EPOCHS most in
    let at_least : nat_le 0 epoch ≡ true = le-leb 0 epoch (omega arith) in
    let counted : nat_lt count (2 ^ 64) ≡ true = lt-ltb count (2 ^ 64) small in
    ap (λ x. and_then x (λ y. Ok (start_of y))) (json_read line (start_data epoch count) utf8 (reads (omega arith)))
    ∙ rw (at_least, in_range, counted) refl
