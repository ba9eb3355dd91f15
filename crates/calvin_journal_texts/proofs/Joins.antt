-- One text more, behind a comma.
use Rattle.std.proofs.Common.{ℕ, ◌≡◌, ◌+◌, ◌<◌, List, [], ◌∷◌, ◌++◌, refl, sym, ◌∙◌, ap, map, length, take, get_or, append_assoc, append-nil}
use Rattle.std.proofs.lemmas.List.{take_more, map-append}
use Rattle.calvin_journal_texts.specs.Joined.{continued}

continued-append : (xs : List (List ℕ)) (x : List ℕ) → continued (xs ++ x ∷ []) ≡ (continued xs ++ 44 ∷ []) ++ x
continued-append [] x = ap (λ w. 44 ∷ w) (append-nil x)
continued-append (y ∷ ys) x = ap (λ w. 44 ∷ y ++ w) (continued-append ys x) ∙ ap (λ w. 44 ∷ w) (sym (append_assoc y (continued ys ++ 44 ∷ []) x)) ∙ ap (λ w. 44 ∷ w ++ x) (sym (append_assoc y (continued ys) (44 ∷ [])))

pub one_more : {A : Type 0} (f : A → List ℕ) (xs : List A) (i : ℕ) (x : A) → i < length xs → get_or xs i x ≡ x → (old : List ℕ)
    → ((old ++ continued (map f (take i xs))) ++ 44 ∷ []) ++ f x ≡ old ++ continued (map f (take (i + 1) xs))
one_more f xs i x lt is old =
    let more = ap (map f) (take_more xs i x lt ∙ ap (λ y. take i xs ++ y ∷ []) is) ∙ map-append f (take i xs) (x ∷ []) in
    ap (λ w. w ++ f x) (append_assoc old (continued (map f (take i xs))) (44 ∷ [])) ∙ append_assoc old (continued (map f (take i xs)) ++ 44 ∷ []) (f x)
    ∙ ap (λ w. old ++ w) (sym (continued-append (map f (take i xs)) (f x)) ∙ ap continued (sym more))
