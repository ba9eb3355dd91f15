-- One more value after a space.
use Rattle.std.proofs.Common.{◌≡◌, ℕ, ◌+◌, List, ◌++◌, drop, Some, slice_get, sym, ap, ◌∙◌, append_assoc}
use Rattle.std.specs.List.{flat_map}
use Rattle.calvin_types.proofs.Fews.{drop_at}

regroup : (a b c d : List ℕ) → (a ++ b ++ c) ++ d ≡ a ++ ((b ++ c) ++ d)
regroup a b c d = simp append_assoc

pub one_joined : {X : Type 0} (space : List ℕ) (f : X → List ℕ) (xs : List X) (text all : List ℕ) (i : ℕ) (x : X) → slice_get xs i ≡ Some x
    → text ++ flat_map (λ y. space ++ f y) (drop i xs) ≡ all → (text ++ space ++ f x) ++ flat_map (λ y. space ++ f y) (drop (i + 1) xs) ≡ all
one_joined space f xs text all i x here so =
    regroup text space (f x) _ ∙ ap (λ ys. text ++ flat_map (λ y. space ++ f y) ys) (sym (drop_at xs i x here)) ∙ so
