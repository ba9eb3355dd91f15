-- One turn behind others.
use Rattle.std.proofs.Common.{arith, ℕ, suc, ◌+◌, ◌≡◌, List, [], ◌∷◌, ◌++◌, refl, sym, ◌∙◌, ap, subst, map, length, length-append, append_assoc, Result, Ok, Err}
use Rattle.std.proofs.lemmas.List.{length-map}
use Rattle.calvin_types.specs.declared.fault.Fault.{Fault}
use Rattle.calvin_app.specs.Rows.{Rows}
use Rattle.calvin_app.specs.Meaning.{Meaning}
use Rattle.calvin_script.specs.Grammar.{Grammar}
use Rattle.calvin_script.specs.Reading.{and_then}
use Rattle.calvin_serve_desk.specs.declared.setting.Setting.{Setting}
use Rattle.calvin_serve_desk.specs.Epochs.{epoch_answers}
use Rattle.calvin_serve_lines.specs.Asking.{Asked}
use Rattle.calvin_serve.specs.Turns.{Turn, Epoch, Refusal, lines_in, epoch_of_asked, refusal, AreSpelled, told}

module _ {Args : Type 0} where
  abbrev pub epochs_in : List (Turn Args) → ℕ
  epochs_in [] = 0
  epochs_in (Epoch asked ∷ turns) = suc (epochs_in turns)
  epochs_in (Refusal fault ∷ turns) = epochs_in turns

  pub lines_in-append : (turns more : List (Turn Args)) → lines_in (turns ++ more) ≡ lines_in turns ++ lines_in more
  lines_in-append [] more = refl
  lines_in-append (Epoch asked ∷ turns) more = ap (λ w. map Ok asked ++ w) (lines_in-append turns more) ∙ sym (append_assoc (map Ok asked) (lines_in turns) (lines_in more))
  lines_in-append (Refusal fault ∷ turns) more = ap (λ w. Err fault ∷ w) (lines_in-append turns more)

  pub spelled-append : (grammar : Grammar Args) (partitions : ℕ) (turns more : List (Turn Args)) (xs ys : List (List ℕ))
      → AreSpelled grammar partitions turns xs → AreSpelled grammar partitions more ys → AreSpelled grammar partitions (turns ++ more) (xs ++ ys)
  spelled-append grammar partitions [] more xs ys p q = subst (λ w. AreSpelled grammar partitions more (w ++ ys)) (sym p) q
  spelled-append grammar partitions (Refusal fault ∷ turns) more xs ys p q = spelled-append grammar partitions turns more xs ys p q
  spelled-append grammar partitions (Epoch asked ∷ turns) more [] ys p q = absurd p
  spelled-append grammar partitions (Epoch asked ∷ turns) more (x ∷ xs) ys p q = (p.0, p.1, spelled-append grammar partitions turns more xs ys p.2 q)

  pub spelled-length : (grammar : Grammar Args) (partitions : ℕ) (turns : List (Turn Args)) (xs : List (List ℕ)) → AreSpelled grammar partitions turns xs → length xs ≡ epochs_in turns
  spelled-length grammar partitions [] xs p = ap length p
  spelled-length grammar partitions (Refusal fault ∷ turns) xs p = spelled-length grammar partitions turns xs p
  spelled-length grammar partitions (Epoch asked ∷ turns) [] p = absurd p
  spelled-length grammar partitions (Epoch asked ∷ turns) (x ∷ xs) p = ap suc (spelled-length grammar partitions turns xs p.2)

module _ {Args Row Reply : Type 0} (m : Meaning Args Row Reply) (show : Reply → List ℕ) (setting : Setting) where
  abbrev Told : Type 0
  Told = Rows Row × List ℕ

  -- a text in front of what is told
  abbrev pub behind : List ℕ → Result (Rows Row × List ℕ) Fault → Result (Rows Row × List ℕ) Fault
  behind text later = and_then later (λ (l : Rows Row × List ℕ). Ok (l.0, text ++ l.1))

  behind-none : (later : Result (Rows Row × List ℕ) Fault) → behind [] later ≡ later
  behind-none (Ok l) = refl
  behind-none (Err fault) = refl

  behind-twice : (xs ys : List ℕ) (later : Result (Rows Row × List ℕ) Fault) → behind xs (behind ys later) ≡ behind (xs ++ ys) later
  behind-twice xs ys (Ok l) = ap (λ w. Ok (l.0, w)) (sym (append_assoc xs ys l.1))
  behind-twice xs ys (Err fault) = refl

  abbrev ended : Result (Rows Row × List ℕ) Fault → (Rows Row × List ℕ → Result (Rows Row × List ℕ) Fault) → Result (Rows Row × List ℕ) Fault
  ended here later = and_then here (λ (h : Rows Row × List ℕ). behind h.1 (later h))

  -- where a text in front of what is told gives this, that is told of it
  pub told-append : (k e : ℕ) (rows : Rows Row) (turns more : List (Turn Args))
      → told m show setting k e rows (turns ++ more)
      ≡ and_then (told m show setting k e rows turns) (λ (h : Rows Row × List ℕ). behind h.1 (told m show setting (k + length (lines_in turns)) (e + epochs_in turns) h.0 more))
  told-append k e rows [] more =
      (λ i. told m show setting (same k i) (same e i) rows more) ∙ sym (behind-none (told m show setting (k + 0) (e + 0) rows more))
    where
      same : (n : ℕ) → n ≡ n + 0
      same n = omega arith
  told-append k e rows (Refusal fault ∷ turns) more =
      ap (behind (refusal k fault)) (told-append (suc k) e rows turns more) ∙ through (told m show setting (suc k) e rows turns)
    where
      next : suc k + length (lines_in turns) ≡ k + suc (length (lines_in turns))
      next = omega arith

      through : (here : Result (Rows Row × List ℕ) Fault)
          → behind (refusal k fault) (and_then here (λ (h : Rows Row × List ℕ). behind h.1 (told m show setting (suc k + length (lines_in turns)) (e + epochs_in turns) h.0 more)))
          ≡ and_then (behind (refusal k fault) here) (λ (h : Rows Row × List ℕ). behind h.1 (told m show setting (k + suc (length (lines_in turns))) (e + epochs_in turns) h.0 more))
      through (Err fault) = refl
      through (Ok h) = behind-twice (refusal k fault) h.1 (told m show setting (suc k + length (lines_in turns)) (e + epochs_in turns) h.0 more)
          ∙ ap (λ n. behind (refusal k fault ++ h.1) (told m show setting n (e + epochs_in turns) h.0 more)) next
  told-append k e rows (Epoch asked ∷ turns) more =
      first (λ after. told-append (k + length asked) (suc e) after turns more) (epoch_answers m show setting e rows (epoch_of_asked setting.partitions asked))
    where
      count : (k + length asked) + length (lines_in turns) ≡ k + length (map {B = Result (Asked Args) Fault} Ok asked ++ lines_in turns)
      count = omega (arith, length-append (map {B = Result (Asked Args) Fault} Ok asked) (lines_in turns), length-map {B = Result (Asked Args) Fault} asked Ok)

      next : suc e + epochs_in turns ≡ e + suc (epochs_in turns)
      next = omega arith

      through : (text : List ℕ) (here : Result (Rows Row × List ℕ) Fault)
          → behind text (and_then here (λ (h : Rows Row × List ℕ). behind h.1 (told m show setting ((k + length asked) + length (lines_in turns)) (suc e + epochs_in turns) h.0 more)))
          ≡ and_then (behind text here) (λ (h : Rows Row × List ℕ). behind h.1 (told m show setting (k + length (map {B = Result (Asked Args) Fault} Ok asked ++ lines_in turns)) (e + suc (epochs_in turns)) h.0 more))
      through text (Err fault) = refl
      through text (Ok h) = behind-twice text h.1 (told m show setting ((k + length asked) + length (lines_in turns)) (suc e + epochs_in turns) h.0 more)
          ∙ (λ i. behind (text ++ h.1) (told m show setting (count i) (next i) h.0 more))

      Later : Type 0
      Later = (after : Rows Row) → told m show setting (k + length asked) (suc e) after (turns ++ more)
          ≡ and_then (told m show setting (k + length asked) (suc e) after turns) (λ (h : Rows Row × List ℕ). behind h.1 (told m show setting ((k + length asked) + length (lines_in turns)) (suc e + epochs_in turns) h.0 more))

      first : Later → (here : Result (Rows Row × List ℕ) Fault)
          → and_then here (λ (h : Rows Row × List ℕ). behind h.1 (told m show setting (k + length asked) (suc e) h.0 (turns ++ more)))
          ≡ and_then (and_then here (λ (h : Rows Row × List ℕ). behind h.1 (told m show setting (k + length asked) (suc e) h.0 turns)))
          (λ (h : Rows Row × List ℕ). behind h.1 (told m show setting (k + length (map {B = Result (Asked Args) Fault} Ok asked ++ lines_in turns)) (e + suc (epochs_in turns)) h.0 more))
      first later (Err fault) = refl
      first later (Ok h) = ap (behind h.1) (later h.0) ∙ through h.1 (told m show setting (k + length asked) (suc e) h.0 turns)
