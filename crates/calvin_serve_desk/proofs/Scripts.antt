-- The epochs of a journal as a script.
use Rattle.std.proofs.Common.{arith, ℕ, zero, suc, ◌+◌, ◌≡◌, List, [], ◌∷◌, ◌++◌, refl, sym, ◌∙◌, ap, map, length, length-append, get_or, append_assoc, append-nil, Result, Ok, Err, None}
use Rattle.std.specs.FinMap.{empty}
use Rattle.calvin_types.specs.declared.fault.Fault.{Fault}
use Rattle.calvin_types.specs.declared.place.Slot.{Slot}
use Rattle.calvin_types.specs.Orders.{Order}
use Rattle.calvin_app.specs.Rows.{Rows}
use Rattle.calvin_app.specs.Meaning.{Meaning}
use Rattle.calvin_app.specs.Serial.{serial}
use Rattle.calvin_order.specs.Configs.{merged, stretch}
use Rattle.calvin_order.specs.Merged.{joined, numbered}
use Rattle.calvin_script.specs.declared.contents.Request.{Request}
use Rattle.calvin_script.specs.Scripts.{Contents, Listed, requests_of, requests_at, batch_at}
use Rattle.calvin_script.specs.Reading.{and_then}
use Rattle.calvin_text.specs.Texts.{lines, finished}
use Rattle.calvin_serial.specs.declared.undeclared.UndeclaredSets.{UndeclaredSets}
use Rattle.calvin_serial.specs.declared.undeclared.UndeclaredSets.TheVariants.{First, Scouted}
use Rattle.calvin_serial.specs.Scouting.{serial_config, placed_txn, with_sets, scouted_order, order_of}
use Rattle.calvin_serial.specs.Engine.{text_of}
use Rattle.calvin_serial.proofs.Requests.{txns_merged}
use Rattle.calvin_serial.proofs.Runs.{lines-append}
use Rattle.calvin_serve_desk.specs.declared.setting.Setting.{Setting}
use Rattle.calvin_serve_desk.specs.Epochs.{in_order, epoch_answers, answers}

-- what stands behind so many items is the next one
at_length : {A : Type 0} (before : List A) (x : A) (rest : List A) (d : A) → get_or (before ++ x ∷ rest) (length before) d ≡ x
at_length [] x rest d = refl
at_length (b ∷ bs) x rest d = at_length bs x rest d

module _ {Args : Type 0} (partitions : ℕ) (epochs : List (List (Listed Args))) where
  abbrev pub script : Contents Args
  script = record { partitions = partitions; woven_from = None; epochs = epochs }

  same_joined : (e g : ℕ) → joined (λ (slot : Slot). requests_of slot.group (get_or epochs e [])) e g ≡ joined (requests_at script) e g
  same_joined e zero = refl
  same_joined e (suc g) = ap (λ w. w ++ requests_of g (get_or epochs e [])) (same_joined e g)

  -- the requests of an epoch are those of the script's
  pub same_order : (e : ℕ) (epoch : List (Listed Args)) → get_or epochs e [] ≡ epoch → in_order partitions e epoch ≡ merged (serial_config script) (requests_at script) e
  same_order e epoch is = ap (in_order partitions e) (sym is) ∙ ap (numbered e 0) (same_joined e partitions)

module _ {Args Row Reply : Type 0} (m : Meaning Args Row Reply) (show : Reply → List ℕ) (setting : Setting) (epochs : List (List (Listed Args))) where
  abbrev whole : Contents Args
  whole = script setting.partitions epochs

  -- the order of n epochs from e on
  abbrev rest_of : UndeclaredSets → Rows Row → ℕ → ℕ → Result (Order Args) Fault
  rest_of First rows e n = Ok (stretch (serial_config whole) (batch_at whole) e n)
  rest_of Scouted rows e n = scouted_order m whole rows e n

  abbrev after : Rows Row → Order Args → Rows Row
  after rows placed = (serial m (map (λ p. p.1) placed) rows).0

  abbrev said : Rows Row → Order Args → List ℕ
  said rows placed = lines show placed (serial m (map (λ p. p.1) placed) rows).1

  none_left : (kind : UndeclaredSets) (rows : Rows Row) (e : ℕ) → rest_of kind rows e 0 ≡ Ok []
  none_left First rows e = refl
  none_left Scouted rows e = refl

  one_more : (kind : UndeclaredSets) (rows : Rows Row) (e n : ℕ) (epoch : List (Listed Args)) → get_or epochs e [] ≡ epoch
      → rest_of kind rows e (suc n) ≡ and_then (with_sets m kind rows (in_order setting.partitions e epoch)) (λ placed. and_then (rest_of kind (after rows placed) (suc e) n) (λ later. Ok (placed ++ later)))
  one_more First rows e n epoch is =
      ap (λ (placed : Order Args). Ok (placed ++ stretch (serial_config whole) (batch_at whole) (suc e) n))
      (sym (txns_merged whole e) ∙ ap (map placed_txn) (sym (same_order setting.partitions epochs e epoch is)))
  one_more Scouted rows e n epoch is =
      ap (λ requests. and_then (with_sets m Scouted rows requests) (λ placed. and_then (rest_of Scouted (after rows placed) (suc e) n) (λ later. Ok (placed ++ later))))
      (sym (same_order setting.partitions epochs e epoch is))

  -- the answers of the epochs, and the lines of the order
  abbrev lines_of_order : Rows Row → List ℕ → Result (Order Args) Fault → Result (List ℕ) Fault
  lines_of_order rows end order = and_then order (λ placed. Ok (said rows placed ++ end))

  abbrev text_of_answers : List ℕ → Result (Rows Row × List ℕ) Fault → Result (List ℕ) Fault
  text_of_answers end answered = and_then answered (λ (a : Rows Row × List ℕ). Ok (a.1 ++ end))

  first_lines : (rows : Rows Row) (placed : Order Args) (end : List ℕ) (later : Result (Order Args) Fault)
      → lines_of_order rows end (and_then later (λ (l : Order Args). Ok (placed ++ l))) ≡ and_then (lines_of_order (after rows placed) end later) (λ t. Ok (said rows placed ++ t))
  first_lines rows placed end (Err fault) = refl
  first_lines rows placed end (Ok l) =
      ap (λ w. Ok (w ++ end)) (lines-append m show placed l rows) ∙ ap Ok (append_assoc (said rows placed) (said (after rows placed) l) end)

  first_answers : (here : List ℕ) (end : List ℕ) (later : Result (Rows Row × List ℕ) Fault)
      → text_of_answers end (and_then later (λ (l : Rows Row × List ℕ). Ok (l.0, here ++ l.1))) ≡ and_then (text_of_answers end later) (λ t. Ok (here ++ t))
  first_answers here end (Err fault) = refl
  first_answers here end (Ok l) = ap Ok (append_assoc here l.1 end)

  pub alike : (end : List ℕ) (before rest : List (List (Listed Args))) (rows : Rows Row) → before ++ rest ≡ epochs
      → lines_of_order rows end (rest_of setting.sets rows (length before) (length rest)) ≡ text_of_answers end (answers m show setting (length before) rows rest)
  alike end before [] rows is = ap (lines_of_order rows end) (none_left setting.sets rows (length before))
  alike end before (epoch ∷ rest) rows is =
      ap (lines_of_order rows end) (one_more setting.sets rows (length before) (length rest) epoch (ap (λ es. get_or es (length before) []) (sym is) ∙ at_length before epoch rest []))
      ∙ through
      (λ placed. ap (λ n. lines_of_order (after rows placed) end (rest_of setting.sets (after rows placed) n (length rest))) (sym count)
      ∙ alike end (before ++ epoch ∷ []) rest (after rows placed) longer
      ∙ ap (λ n. text_of_answers end (answers m show setting n (after rows placed) rest)) count)
      (with_sets m setting.sets rows (in_order setting.partitions (length before) epoch))
    where
      longer : (before ++ epoch ∷ []) ++ rest ≡ epochs
      longer = append_assoc before (epoch ∷ []) rest ∙ is

      count : length (before ++ epoch ∷ []) ≡ suc (length before)
      count = omega (arith, length-append before (epoch ∷ []))

      Next : Type 0
      Next = (placed : Order Args) → lines_of_order (after rows placed) end (rest_of setting.sets (after rows placed) (suc (length before)) (length rest))
          ≡ text_of_answers end (answers m show setting (suc (length before)) (after rows placed) rest)

      through : Next → (here : Result (Order Args) Fault)
          → lines_of_order rows end (and_then here (λ placed. and_then (rest_of setting.sets (after rows placed) (suc (length before)) (length rest)) (λ later. Ok (placed ++ later))))
          ≡ text_of_answers end (and_then (and_then here (λ placed. Ok (after rows placed, said rows placed))) (λ (h : Rows Row × List ℕ). and_then (answers m show setting (suc (length before)) h.0 rest) (λ (l : Rows Row × List ℕ). Ok (l.0, h.1 ++ l.1))))
      through next (Err fault) = refl
      through next (Ok placed) =
          first_lines rows placed end (rest_of setting.sets (after rows placed) (suc (length before)) (length rest))
          ∙ ap (λ r. and_then r (λ t. Ok (said rows placed ++ t))) (next placed)
          ∙ sym (first_answers (said rows placed) end (answers m show setting (suc (length before)) (after rows placed) rest))

  whole_order : (kind : UndeclaredSets) → order_of m whole kind ≡ rest_of kind empty 0 (length epochs)
  whole_order First = refl
  whole_order Scouted = refl

  pub as_a_script : text_of m show setting.sets whole ≡ text_of_answers (finished (length epochs)) (answers m show setting 0 empty epochs)
  as_a_script = ap (lines_of_order empty (finished (length epochs))) (whole_order setting.sets) ∙ alike (finished (length epochs)) [] epochs empty refl
