-- The epochs of a journal, answered in two parts.
use Rattle.std.proofs.Common.{arith, ℕ, suc, ◌+◌, ◌≡◌, List, [], ◌∷◌, ◌++◌, refl, sym, ◌∙◌, ap, length, append_assoc, Result, Ok, Err}
use Rattle.calvin_types.specs.declared.fault.Fault.{Fault}
use Rattle.calvin_app.specs.Rows.{Rows}
use Rattle.calvin_app.specs.Meaning.{Meaning}
use Rattle.calvin_script.specs.Scripts.{Listed}
use Rattle.calvin_script.specs.Reading.{and_then}
use Rattle.calvin_serve_desk.specs.declared.setting.Setting.{Setting}
use Rattle.calvin_serve_desk.specs.Epochs.{epoch_answers, answers}

module _ (Row : Type 0) where
  abbrev Answered : Type 0
  Answered = Result (Rows Row × List ℕ) Fault

  -- with a text in front
  abbrev behind : List ℕ → Answered → Answered
  behind text r = and_then r (λ later. Ok (later.0, text ++ later.1))

  behind_none : (r : Answered) → behind [] r ≡ r
  behind_none (Ok b) = refl
  behind_none (Err fault) = refl

  behind_both : (h a : List ℕ) (r : Answered) → behind h (behind a r) ≡ behind (h ++ a) r
  behind_both h a (Ok b) = ap (λ w. Ok (b.0, w)) (sym (append_assoc h a b.1))
  behind_both h a (Err fault) = refl

  -- with later answers, which depend on the rows
  abbrev then : Answered → (Rows Row → Answered) → Answered
  then r next = and_then r (λ a. behind a.1 (next a.0))

  behind_then : (h : List ℕ) (next : Rows Row → Answered) (r : Answered) → behind h (then r next) ≡ then (behind h r) next
  behind_then h next (Ok a) = behind_both h a.1 (next a.0)
  behind_then h next (Err fault) = refl

module _ {Args Row Reply : Type 0} (m : Meaning Args Row Reply) (show : Reply → List ℕ) (setting : Setting) where
  pub in_two : (e : ℕ) (rows : Rows Row) (first rest : List (List (Listed Args)))
      → answers m show setting e rows (first ++ rest) ≡ then Row (answers m show setting e rows first) (λ rows. answers m show setting (e + length first) rows rest)
  in_two e rows [] rest =
      sym (behind_none Row (answers m show setting e rows rest)) ∙ ap (λ n. behind Row [] (answers m show setting n rows rest)) none_before
    where
      none_before : e ≡ e + 0
      none_before = omega arith
  in_two e rows (epoch ∷ first) rest = through (λ (h : Rows Row × List ℕ). in_two (suc e) h.0 first rest) (epoch_answers m show setting e rows epoch)
    where
      count : suc e + length first ≡ e + length (epoch ∷ first)
      count = omega arith

      Next : Type 0
      Next = (h : Rows Row × List ℕ) → answers m show setting (suc e) h.0 (first ++ rest)
          ≡ then Row (answers m show setting (suc e) h.0 first) (λ rows. answers m show setting (suc e + length first) rows rest)

      through : Next → (here : Answered Row)
          → and_then here (λ (h : Rows Row × List ℕ). behind Row h.1 (answers m show setting (suc e) h.0 (first ++ rest)))
          ≡ then Row (and_then here (λ (h : Rows Row × List ℕ). behind Row h.1 (answers m show setting (suc e) h.0 first))) (λ rows. answers m show setting (e + length (epoch ∷ first)) rows rest)
      through next (Err fault) = refl
      through next (Ok h) =
          ap (behind Row h.1) (next h) ∙ behind_then Row h.1 (λ rows. answers m show setting (suc e + length first) rows rest) (answers m show setting (suc e) h.0 first)
          ∙ ap (λ n. then Row (behind Row h.1 (answers m show setting (suc e) h.0 first)) (λ rows. answers m show setting n rows rest)) count
