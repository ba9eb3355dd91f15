-- One epoch more is run.
use Rattle.std.proofs.Common.{arith, ℕ, suc, ◌+◌, ◌≡◌, List, [], ◌∷◌, ◌++◌, refl, sym, ◌∙◌, ap, length, append_assoc, append-nil, Result, Ok, Err}
use Rattle.calvin_types.specs.declared.fault.Fault.{Fault}
use Rattle.calvin_app.specs.Rows.{Rows}
use Rattle.calvin_app.specs.Meaning.{Meaning}
use Rattle.calvin_script.specs.Grammar.{Grammar}
use Rattle.calvin_script.specs.Scripts.{Listed}
use Rattle.calvin_script.specs.Reading.{and_then}
use Rattle.calvin_serve_lines.specs.Epochs.{epoch_in}
use Rattle.calvin_serve_desk.specs.declared.setting.Setting.{Setting}
use Rattle.calvin_serve_desk.specs.Epochs.{epoch_answers, answers}
use Rattle.calvin_serve_recovery.specs.Recovered.{epochs_of}

module _ {Args : Type 0} (grammar : Grammar Args) (partitions : ℕ) where
  abbrev of_or : Result (List (List (Listed Args))) Fault → List (List (Listed Args))
  of_or (Ok es) = es
  of_or (Err fault) = []

  pub epochs_of-append : (lines : List (List ℕ)) (epochs : List (List (Listed Args))) (line : List ℕ) (epoch : List (Listed Args)) → epochs_of grammar partitions lines ≡ Ok epochs
      → epoch_in grammar partitions line ≡ Ok epoch → epochs_of grammar partitions (lines ++ line ∷ []) ≡ Ok (epochs ++ epoch ∷ [])
  epochs_of-append [] epochs line epoch are is = ap (λ r. and_then r (λ e. Ok (e ∷ []))) is ∙ ap (λ (es : List (List (Listed Args))). Ok (es ++ epoch ∷ [])) (ap of_or are)
  epochs_of-append (l ∷ ls) epochs line epoch are is = first (epoch_in grammar partitions l) (λ es so. epochs_of-append ls es line epoch so is) are
    where
      Later : Type 0
      Later = (es : List (List (Listed Args))) → epochs_of grammar partitions ls ≡ Ok es → epochs_of grammar partitions (ls ++ line ∷ []) ≡ Ok (es ++ epoch ∷ [])

      rest : (e : List (Listed Args)) (r : Result (List (List (Listed Args))) Fault) → (later : Result (List (List (Listed Args))) Fault)
          → ((es : List (List (Listed Args))) → r ≡ Ok es → later ≡ Ok (es ++ epoch ∷ [])) → and_then r (λ es. Ok (e ∷ es)) ≡ Ok epochs → and_then later (λ es. Ok (e ∷ es)) ≡ Ok (epochs ++ epoch ∷ [])
      rest e (Err fault) later h so = absurd (cc so)
      rest e (Ok es) later h so = ap (λ r. and_then r (λ es. Ok (e ∷ es))) (h es refl) ∙ ap (λ r. and_then r (λ (xs : List (List (Listed Args))). Ok (xs ++ epoch ∷ []))) so

      first : (r : Result (List (Listed Args)) Fault) → Later → and_then r (λ e. and_then (epochs_of grammar partitions ls) (λ es. Ok (e ∷ es))) ≡ Ok epochs
          → and_then r (λ e. and_then (epochs_of grammar partitions (ls ++ line ∷ [])) (λ es. Ok (e ∷ es))) ≡ Ok (epochs ++ epoch ∷ [])
      first (Err fault) later so = absurd (cc so)
      first (Ok e) later so = rest e (epochs_of grammar partitions ls) (epochs_of grammar partitions (ls ++ line ∷ [])) later so

module _ {Args Row Reply : Type 0} (m : Meaning Args Row Reply) (show : Reply → List ℕ) (setting : Setting) where
  pub answers-append : (e : ℕ) (rows : Rows Row) (epochs : List (List (Listed Args))) (epoch : List (Listed Args))
      → answers m show setting e rows (epochs ++ epoch ∷ [])
      ≡ and_then {B = Rows Row × List ℕ} (answers m show setting e rows epochs) (λ (a : Rows Row × List ℕ). and_then {B = Rows Row × List ℕ} (epoch_answers m show setting (e + length epochs) a.0 epoch) (λ (b : Rows Row × List ℕ). Ok (b.0, a.1 ++ b.1)))
  answers-append e rows [] epoch =
      one (epoch_answers m show setting e rows epoch) ∙ ap (λ n. and_then {B = Rows Row × List ℕ} (epoch_answers m show setting n rows epoch) (λ (b : Rows Row × List ℕ). Ok (b.0, b.1))) none
    where
      none : e ≡ e + 0
      none = omega arith

      one : (r : Result (Rows Row × List ℕ) Fault) → and_then {B = Rows Row × List ℕ} r (λ (h : Rows Row × List ℕ). Ok (h.0, h.1 ++ [])) ≡ and_then {B = Rows Row × List ℕ} r (λ (b : Rows Row × List ℕ). Ok (b.0, b.1))
      one (Err fault) = refl
      one (Ok b) = ap (λ w. Ok (b.0, w)) (append-nil b.1)
  answers-append e rows (x ∷ xs) epoch = first (λ after. answers-append (suc e) after xs epoch) (epoch_answers m show setting e rows x)
    where
      next : suc e + length xs ≡ e + suc (length xs)
      next = omega arith

      Later : Type 0
      Later = (after : Rows Row) → answers m show setting (suc e) after (xs ++ epoch ∷ [])
          ≡ and_then {B = Rows Row × List ℕ} (answers m show setting (suc e) after xs) (λ (a : Rows Row × List ℕ). and_then {B = Rows Row × List ℕ} (epoch_answers m show setting (suc e + length xs) a.0 epoch) (λ (b : Rows Row × List ℕ). Ok (b.0, a.1 ++ b.1)))

      inner : (h a : Rows Row × List ℕ) (r : Result (Rows Row × List ℕ) Fault)
          → and_then {B = Rows Row × List ℕ} (and_then {B = Rows Row × List ℕ} r (λ (b : Rows Row × List ℕ). Ok (b.0, a.1 ++ b.1))) (λ (l : Rows Row × List ℕ). Ok (l.0, h.1 ++ l.1)) ≡ and_then {B = Rows Row × List ℕ} r (λ (b : Rows Row × List ℕ). Ok (b.0, (h.1 ++ a.1) ++ b.1))
      inner h a (Err fault) = refl
      inner h a (Ok b) = ap (λ w. Ok (b.0, w)) (sym (append_assoc h.1 a.1 b.1))

      through : (h : Rows Row × List ℕ) (r : Result (Rows Row × List ℕ) Fault)
          → and_then {B = Rows Row × List ℕ} (and_then {B = Rows Row × List ℕ} r (λ (a : Rows Row × List ℕ). and_then {B = Rows Row × List ℕ} (epoch_answers m show setting (suc e + length xs) a.0 epoch) (λ (b : Rows Row × List ℕ). Ok (b.0, a.1 ++ b.1)))) (λ (l : Rows Row × List ℕ). Ok (l.0, h.1 ++ l.1))
          ≡ and_then {B = Rows Row × List ℕ} (and_then {B = Rows Row × List ℕ} r (λ (l : Rows Row × List ℕ). Ok (l.0, h.1 ++ l.1))) (λ (a : Rows Row × List ℕ). and_then {B = Rows Row × List ℕ} (epoch_answers m show setting (e + suc (length xs)) a.0 epoch) (λ (b : Rows Row × List ℕ). Ok (b.0, a.1 ++ b.1)))
      through h (Err fault) = refl
      through h (Ok a) = inner h a (epoch_answers m show setting (suc e + length xs) a.0 epoch)
          ∙ ap (λ n. and_then {B = Rows Row × List ℕ} (epoch_answers m show setting n a.0 epoch) (λ (b : Rows Row × List ℕ). Ok (b.0, (h.1 ++ a.1) ++ b.1))) next

      first : Later → (r : Result (Rows Row × List ℕ) Fault)
          → and_then {B = Rows Row × List ℕ} r (λ (h : Rows Row × List ℕ). and_then {B = Rows Row × List ℕ} (answers m show setting (suc e) h.0 (xs ++ epoch ∷ [])) (λ (l : Rows Row × List ℕ). Ok (l.0, h.1 ++ l.1)))
          ≡ and_then {B = Rows Row × List ℕ} (and_then {B = Rows Row × List ℕ} r (λ (h : Rows Row × List ℕ). and_then {B = Rows Row × List ℕ} (answers m show setting (suc e) h.0 xs) (λ (l : Rows Row × List ℕ). Ok (l.0, h.1 ++ l.1))))
          (λ (a : Rows Row × List ℕ). and_then {B = Rows Row × List ℕ} (epoch_answers m show setting (e + suc (length xs)) a.0 epoch) (λ (b : Rows Row × List ℕ). Ok (b.0, a.1 ++ b.1)))
      first later (Err fault) = refl
      first later (Ok h) = ap (λ r. and_then {B = Rows Row × List ℕ} r (λ (l : Rows Row × List ℕ). Ok (l.0, h.1 ++ l.1))) (later h.0) ∙ through h (answers m show setting (suc e) h.0 xs)
