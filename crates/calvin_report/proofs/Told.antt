-- The replies of an order that is run one request at a time, as entries by place.
--     told_of order answers      each request's name and answer, at its place
--     told_sorted, told_find, told_none      its places rise; what it has at a place
--     lines_told      its lines are those of the order
use Rattle.std.proofs.Common.{◌≡◌, ℕ, Bool, true, false, cond, ◌&&◌, List, [], ◌∷◌, ◌++◌, inl, inr, refl, sym, ap, subst, ◌∙◌, map, Some, None, T}
use Rattle.std.specs.List.{zip, Contains}
use Rattle.std.specs.Ordering.{eq_by_cmp, is_lt}
use Rattle.std.specs.FinMap.Entries.{find, below_all, is_sorted}
use Rattle.calvin_types.specs.declared.place.Place.{Place}
use Rattle.calvin_types.specs.declared.txn.Txn.{Txn}
use Rattle.calvin_types.specs.Places.{place_cmp, IsBefore}
use Rattle.calvin_types.specs.Orders.{Order, StandsAt, Rises}
use Rattle.calvin_types.proofs.PlaceOrder.{one_place, same_itself, not_before_itself}
use Rattle.calvin_app.specs.declared.answer.Answer.{Answer}
use Rattle.calvin_app.specs.Meaning.{Meaning}
use Rattle.calvin_app.specs.Rows.{Rows}
use Rattle.calvin_app.specs.Serial.{answer_one, after_one, answers_by_place}
use Rattle.calvin_bench.proofs.Lists.{none_in, first_in, first_or_rest, rest_too}
use Rattle.calvin_text.specs.Texts.{line, lines}
use Rattle.calvin_report.specs.Replies.{ByPlace, reply_lines}

both : (a b : Bool) → T a → T b → T (a && b)
both true b p q = q
both false b p q = p

not_true : (b : Bool) → (b ≡ true → ⊥) → b ≡ false
not_true true h = absurd (h refl)
not_true false h = refl

module _ {Args Reply : Type 0} where
  abbrev pub told_of : Order Args → List (Answer Reply) → ByPlace Reply
  told_of [] answers = []
  told_of (e ∷ es) [] = []
  told_of (e ∷ es) (a ∷ answers) = (e.0, (e.1.id, a)) ∷ told_of es answers

  pub lines_told : (show : Reply → List ℕ) (es : Order Args) (answers : List (Answer Reply)) → reply_lines show (told_of es answers) ≡ lines show es answers
  lines_told show [] answers = refl
  lines_told show (e ∷ es) [] = refl
  lines_told show (e ∷ es) (a ∷ answers) = ap (λ more. line show e.0 e.1.id a ++ more) (lines_told show es answers)

  told_below : (x : Place) (es : Order Args) (answers : List (Answer Reply)) → ((q : Place) (t : Txn Args) → StandsAt es q t → IsBefore x q) → T (below_all place_cmp x (told_of es answers))
  told_below x [] answers late = tt
  told_below x (e ∷ es) [] late = tt
  told_below x (e ∷ es) (a ∷ answers) late = both _ _ (subst (λ r. T (is_lt r)) (sym (late e.0 e.1 (inl (refl, refl)))) tt) (told_below x es answers (λ q t at. late q t (inr at)))

  pub told_sorted : (es : Order Args) (answers : List (Answer Reply)) → Rises es → T (is_sorted place_cmp (told_of es answers))
  told_sorted [] answers rises = tt
  told_sorted (e ∷ es) [] rises = tt
  told_sorted (e ∷ es) (a ∷ answers) rises = both _ _ (told_below e.0 es answers rises.0) (told_sorted es answers rises.1)

  pub told_none : (es : Order Args) (answers : List (Answer Reply)) (q : Place) → ((t : Txn Args) → StandsAt es q t → ⊥) → find place_cmp q (told_of es answers) ≡ None
  told_none [] answers q none = refl
  told_none (e ∷ es) [] q none = refl
  told_none (e ∷ es) (a ∷ answers) q none =
      ap (λ b. cond b (Some (e.1.id, a)) (find place_cmp q (told_of es answers))) (not_true (eq_by_cmp place_cmp q e.0) (λ same. none e.1 (inl (sym (one_place q e.0 same), refl))))
      ∙ told_none es answers q (λ t at. none t (inr at))

  -- what stands in a list of places and answers stands in the order
  answered : (es : Order Args) (answers : List (Answer Reply)) (q : Place) (a : Answer Reply) → Contains (zip (map (λ e. e.0) es) answers) (q, a) → (t : Txn Args) × StandsAt es q t
  answered [] answers q a c = absurd (none_in (q, a) c)
  answered (e ∷ es) [] q a c = absurd (none_in (q, a) c)
  answered (e ∷ es) (b ∷ answers) q a c = elim (first_or_rest (e.0, b) (zip (map (λ e. e.0) es) answers) (q, a) c) [
    | inl is ↦ (e.1, inl (ap (λ (p : Place × Answer Reply). p.0) is, refl))
    | inr more ↦ let found = answered es answers q a more in (found.0, inr found.1)
  ]

  pub told_find : (es : Order Args) (answers : List (Answer Reply)) → Rises es → (q : Place) (t : Txn Args) (a : Answer Reply) → StandsAt es q t → Contains (zip (map (λ e. e.0) es) answers) (q, a)
      → find place_cmp q (told_of es answers) ≡ Some (t.id, a)
  told_find [] answers rises q t a at c = absurd at
  told_find (e ∷ es) [] rises q t a at c = absurd (none_in (q, a) c)
  told_find (e ∷ es) (b ∷ answers) rises q t a (inl (here, is)) c = elim (first_or_rest (e.0, b) (zip (map (λ e. e.0) es) answers) (q, a) c) [
    | inl same ↦ ap (λ x. cond x (Some (e.1.id, b)) (find place_cmp q (told_of es answers))) (subst (λ p. eq_by_cmp place_cmp q p ≡ true) (sym here) (same_itself q))
        ∙ (λ i. Some ((is i).id, (same i).1))
    | inr more ↦ let found = answered es answers q a more in absurd (not_before_itself q (subst (λ p. IsBefore p q) here (rises.0 q found.0 found.1)))
  ]
  told_find (e ∷ es) (b ∷ answers) rises q t a (inr at) c =
      let before = rises.0 q t at in
      elim (first_or_rest (e.0, b) (zip (map (λ e. e.0) es) answers) (q, a) c) [
        | inl same ↦ absurd (not_before_itself q (subst (λ p. IsBefore p q) (ap (λ (p : Place × Answer Reply). p.0) same) before))
        | inr more ↦ ap (λ x. cond x (Some (e.1.id, b)) (find place_cmp q (told_of es answers))) (not_true (eq_by_cmp place_cmp q e.0) (λ same. not_before_itself q (subst (λ p. IsBefore p q) (sym (one_place q e.0 same)) before)))
            ∙ told_find es answers rises.1 q t a at more
      ]

module _ {Args Row Reply : Type 0} (m : Meaning Args Row Reply) where
  -- the answers of an order stay as they are where it goes on
  pub more_answers : (es more : Order Args) (rows : Rows Row) (x : Place × Answer Reply) → Contains (answers_by_place m es rows) x → Contains (answers_by_place m (es ++ more) rows) x
  more_answers [] more rows x c = absurd (none_in x c)
  more_answers (e ∷ es) more rows x c = elim (first_or_rest (e.0, answer_one m e.1 rows) (answers_by_place m es (after_one m e.1 rows)) x c) [
    | inl is ↦ subst (λ y. Contains (answers_by_place m (e ∷ es ++ more) rows) y) is (first_in (e.0, answer_one m e.1 rows) (answers_by_place m (es ++ more) (after_one m e.1 rows)))
    | inr rest ↦ rest_too (e.0, answer_one m e.1 rows) (answers_by_place m (es ++ more) (after_one m e.1 rows)) x (more_answers es more (after_one m e.1 rows) x rest)
  ]
