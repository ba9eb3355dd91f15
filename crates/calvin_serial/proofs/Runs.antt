-- The lines of one run after another.
use Rattle.std.proofs.Common.{◌≡◌, ℕ, suc, ◌+◌, ◌-◌, ◌<◌, List, [], ◌∷◌, ◌++◌, length, map, Result, Ok, Err, refl, sym, ap, ◌∙◌, append_assoc, append-nil, arith}
use Rattle.std.specs.Prelude.{IsOkAnd}
use Rattle.std.specs.FinMap.{empty}
use Rattle.calvin_types.specs.declared.fault.Fault.{Fault}
use Rattle.calvin_types.specs.declared.place.Place.{Place}
use Rattle.calvin_types.specs.declared.txn.Txn.{Txn}
use Rattle.calvin_types.specs.Orders.{Order}
use Rattle.calvin_app.specs.Rows.{Rows}
use Rattle.calvin_app.specs.Meaning.{Meaning}
use Rattle.calvin_app.specs.Serial.{serial, after_one, answer_one}
use Rattle.calvin_order.specs.Configs.{merged, stretch}
use Rattle.calvin_script.specs.Scripts.{Contents, requests_at, batch_at}
use Rattle.calvin_script.specs.Reading.{and_then}
use Rattle.calvin_text.specs.Texts.{line, lines, finished}
use Rattle.calvin_serial.specs.declared.undeclared.UndeclaredSets.{UndeclaredSets}
use Rattle.calvin_serial.specs.declared.undeclared.UndeclaredSets.TheVariants.{First, Scouted}
use Rattle.calvin_serial.specs.Scouting.{serial_config, scouted_epoch, scouted_order, order_of, RunsOn}
use Rattle.calvin_serial.specs.Engine.{text_of}

module _ {Args Row Reply : Type 0} (m : Meaning Args Row Reply) (show : Reply → List ℕ) where
  pub lines-append : (xs ys : Order Args) (rows : Rows Row) → lines show (xs ++ ys) (serial m (map (λ e. e.1) (xs ++ ys)) rows).1
      ≡ lines show xs (serial m (map (λ e. e.1) xs) rows).1 ++ lines show ys (serial m (map (λ e. e.1) ys) (serial m (map (λ e. e.1) xs) rows).0).1
  lines-append [] ys rows = refl
  lines-append (x ∷ xs) ys rows =
      ap (λ text. line show x.0 x.1.id (answer_one m x.1 rows) ++ text) (lines-append xs ys (after_one m x.1 rows))
      ∙ sym (append_assoc (line show x.0 x.1.id (answer_one m x.1 rows)) _ _)

-- where no request is left, all were run
module _ {Args Row Reply : Type 0} (m : Meaning Args Row Reply) (show : Reply → List ℕ) (all rest : Order Args) (rows new : Rows Row) (text longer : List ℕ) where
  pub runs_on : rest ≡ []
      → longer ++ lines show rest (serial m (map (λ e. e.1) rest) new).1 ≡ text ++ lines show all (serial m (map (λ e. e.1) all) rows).1
      → (serial m (map (λ e. e.1) rest) new).0 ≡ (serial m (map (λ e. e.1) all) rows).0
      → RunsOn m show all rows new text longer
  runs_on none added after = record {
    added = sym (append-nil longer) ∙ ap (λ order. longer ++ lines show order (serial m (map (λ e. e.1) order) new).1) (sym none) ∙ added;
    after = ap (λ order. (serial m (map (λ e. e.1) order) new).0) (sym none) ∙ after;
  }

-- the text of a run, epoch after epoch
module _ {Args Row Reply : Type 0} (m : Meaning Args Row Reply) (show : Reply → List ℕ) (script : Contents Args) (sets : UndeclaredSets) where
  -- a text with the lines of requests that are run on these rows
  abbrev pub with_lines : List ℕ → Rows Row → Order Args → List ℕ
  with_lines text rows placed = text ++ lines show placed (serial m (map (λ e. e.1) placed) rows).1

  -- the merged requests of epoch e, over the rows before it
  abbrev pub epoch_order : Rows Row → ℕ → UndeclaredSets → Result (Order Args) Fault
  epoch_order rows e First = Ok (merged (serial_config script) (batch_at script) e)
  epoch_order rows e Scouted = scouted_epoch m rows (merged (serial_config script) (requests_at script) e)

  -- the order of n epochs from e on
  abbrev pub rest_of : Rows Row → ℕ → ℕ → UndeclaredSets → Result (Order Args) Fault
  rest_of rows e n First = Ok (stretch (serial_config script) (batch_at script) e n)
  rest_of rows e n Scouted = scouted_order m script rows e n

  -- a text with the lines of n epochs from e on
  abbrev pub text_from : List ℕ → Rows Row → ℕ → ℕ → Result (List ℕ) Fault
  text_from text rows e n = and_then (rest_of rows e n sets) (λ placed. Ok (with_lines text rows placed))

  rest_more : (kind : UndeclaredSets) (rows : Rows Row) (e n : ℕ) (placed : Order Args) → epoch_order rows e kind ≡ Ok placed
      → rest_of rows e (suc n) kind ≡ and_then (rest_of (serial m (map (λ e. e.1) placed) rows).0 (suc e) n kind) (λ later. Ok (placed ++ later))
  rest_more First rows e n placed is = ap (λ r. and_then r (λ here. Ok (here ++ stretch (serial_config script) (batch_at script) (suc e) n))) is
  rest_more Scouted rows e n placed is = ap (λ r. and_then r (λ here. and_then (scouted_order m script (serial m (map (λ e. e.1) here) rows).0 (suc e) n) (λ later. Ok (here ++ later)))) is

  module _ (rows new : Rows Row) (text longer : List ℕ) where
    joined_text : (placed : Order Args) → RunsOn m show placed rows new text longer → (r : Result (Order Args) Fault)
        → and_then (and_then r (λ later. Ok (placed ++ later))) (λ all. Ok (with_lines text rows all)) ≡ and_then r (λ later. Ok (with_lines longer new later))
    joined_text placed runs (Err fault) = refl
    joined_text placed runs (Ok later) = ap Ok (sym ((λ i. runs.added i ++ lines show later (serial m (map (λ e. e.1) later) (runs.after i)).1)
        ∙ append_assoc text (lines show placed (serial m (map (λ e. e.1) placed) rows).1) (lines show later (serial m (map (λ e. e.1) later) (serial m (map (λ e. e.1) placed) rows).0).1)
        ∙ ap (λ xs. text ++ xs) (sym (lines-append m show placed later rows))))

    -- the lines of one more epoch
    pub epoch_run : (e n : ℕ) (all : Result (List ℕ) Fault) (here : Result (Order Args) Fault) → e < n → epoch_order rows e sets ≡ here
        → IsOkAnd here (λ placed. RunsOn m show placed rows new text longer)
        → text_from text rows e (n - e) ≡ all → text_from longer new (e + 1) (n - (e + 1)) ≡ all
    epoch_run e n all (Err fault) h is runs so = absurd runs
    epoch_run e n all (Ok placed) h is runs so =
        let left : n - e ≡ suc (n - (e + 1)) = omega arith in
        let next : suc e ≡ e + 1 = omega arith in
        sym (ap (text_from text rows e) left
        ∙ ap (λ r. and_then r (λ whole. Ok (with_lines text rows whole))) (rest_more sets rows e (n - (e + 1)) placed is)
        ∙ joined_text placed runs (rest_of (serial m (map (λ e. e.1) placed) rows).0 (suc e) (n - (e + 1)) sets)
        ∙ (λ i. and_then (rest_of (sym runs.after i) (next i) (n - (e + 1)) sets) (λ later. Ok (with_lines longer new later))))
        ∙ so

  none_left : (kind : UndeclaredSets) (text : List ℕ) (rows : Rows Row) (e : ℕ) → and_then (rest_of rows e 0 kind) (λ placed. Ok (with_lines text rows placed)) ≡ Ok text
  none_left First text rows e = ap Ok (append-nil text)
  none_left Scouted text rows e = ap Ok (append-nil text)

  whole_order : (kind : UndeclaredSets) → order_of m script kind ≡ rest_of empty 0 (length script.epochs) kind
  whole_order First = refl
  whole_order Scouted = refl

  with_end : (r : Result (Order Args) Fault) (end : List ℕ)
      → and_then r (λ placed. Ok (with_lines [] empty placed ++ end)) ≡ and_then (and_then r (λ placed. Ok (with_lines [] empty placed))) (λ text. Ok (text ++ end))
  with_end (Err fault) end = refl
  with_end (Ok placed) end = refl

  -- the lines of all epochs, and the last one
  pub all_run : (text : List ℕ) (rows : Rows Row) (e n k : ℕ) → n ≡ length script.epochs → k ≡ 0 → text_from text rows e k ≡ text_from [] empty 0 n
      → text_of m show sets script ≡ Ok (text ++ finished (length script.epochs))
  all_run text rows e n k is none so =
      let end = finished (length script.epochs) in
      ap (λ r. and_then r (λ placed. Ok (with_lines [] empty placed ++ end))) (whole_order sets)
      ∙ with_end (rest_of empty 0 (length script.epochs) sets) end
      ∙ ap (λ r. and_then r (λ t. Ok (t ++ end))) (ap (text_from [] empty 0) (sym is) ∙ sym so ∙ ap (text_from text rows e) none ∙ none_left sets text rows e)

-- the line of one more request
module _ {Args Row Reply : Type 0} (m : Meaning Args Row Reply) (show : Reply → List ℕ) (p : Place) (t : Txn Args) (order rest : Order Args) (here : order ≡ (p, t) ∷ rest) (rows new : Rows Row) (new_are : new ≡ after_one m t rows) where
  pub one_line : (text more all : List ℕ) → more ≡ text ++ line show p t.id (answer_one m t rows)
      → text ++ lines show order (serial m (map (λ e. e.1) order) rows).1 ≡ all
      → more ++ lines show rest (serial m (map (λ e. e.1) rest) new).1 ≡ all
  one_line text more all more_is so =
      (λ i. more_is i ++ lines show rest (serial m (map (λ e. e.1) rest) (new_are i)).1)
      ∙ append_assoc text (line show p t.id (answer_one m t rows)) (lines show rest (serial m (map (λ e. e.1) rest) (after_one m t rows)).1)
      ∙ ap (λ es. text ++ lines show es (serial m (map (λ e. e.1) es) rows).1) (sym here)
      ∙ so

  pub one_row : (all : Rows Row) → (serial m (map (λ e. e.1) order) rows).0 ≡ all → (serial m (map (λ e. e.1) rest) new).0 ≡ all
  one_row all so = (λ i. (serial m (map (λ e. e.1) rest) (new_are i)).0) ∙ ap (λ es. (serial m (map (λ e. e.1) es) rows).0) (sym here) ∙ so
