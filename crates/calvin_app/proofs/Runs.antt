-- A run of an application as it is gone through, request by request.
use Rattle.std.proofs.Common.{◌≡◌, ℕ, ◌+◌, ◌≤◌, List, [], ◌∷◌, ◌++◌, length, drop, Some, slice_get, sym, ap, ◌∙◌, append_assoc, append-nil}
use Rattle.std.proofs.lemmas.List.{drop_all}
use Rattle.calvin_types.specs.declared.txn.Txn.{Txn}
use Rattle.calvin_types.proofs.Fews.{drop_at}
use Rattle.calvin_app.specs.declared.answer.Answer.{Answer}
use Rattle.calvin_app.specs.Rows.{Rows}
use Rattle.calvin_app.specs.Meaning.{Meaning}
use Rattle.calvin_app.specs.Serial.{serial, answer_one, after_one}

module _ {Args Row Reply : Type 0} (m : Meaning Args Row Reply) (ts : List (Txn Args)) (i : ℕ) (rows : Rows Row) (answers : List (Answer Reply)) (all : Rows Row × List (Answer Reply))
    (rows_so : (serial m (drop i ts) rows).0 ≡ all.0) (answers_so : answers ++ (serial m (drop i ts) rows).1 ≡ all.1) where
  module _ (t : Txn Args) (here : slice_get ts i ≡ Some t) (new : Rows Row) (new_is : new ≡ after_one m t rows) where
    -- the rest of a run from the rows after a request
    pub next_rows : (serial m (drop (i + 1) ts) new).0 ≡ all.0
    next_rows = ap (λ r. (serial m (drop (i + 1) ts) r).0) new_is ∙ ap (λ us. (serial m us rows).0) (sym (drop_at ts i t here)) ∙ rows_so

    -- and its answers, which follow one more
    pub next_answers : (a : Answer Reply) (more : List (Answer Reply)) → a ≡ answer_one m t rows → more ≡ answers ++ a ∷ [] → more ++ (serial m (drop (i + 1) ts) new).1 ≡ all.1
    next_answers a more a_is more_is =
        (λ j. (more_is ∙ ap (λ b. answers ++ b ∷ []) a_is) j ++ (serial m (drop (i + 1) ts) (new_is j)).1)
        ∙ append_assoc answers (answer_one m t rows ∷ []) (serial m (drop (i + 1) ts) (after_one m t rows)).1
        ∙ ap (λ us. answers ++ (serial m us rows).1) (sym (drop_at ts i t here))
        ∙ answers_so

  -- where no request is left the rows and the answers are those of the run
  pub last_rows : length ts ≤ i → rows ≡ all.0
  last_rows past = ap (λ us. (serial m us rows).0) (sym (drop_all i ts past)) ∙ rows_so

  pub last_answers : length ts ≤ i → answers ≡ all.1
  last_answers past = sym (append-nil answers) ∙ ap (λ us. answers ++ (serial m us rows).1) (sym (drop_all i ts past)) ∙ answers_so
