-- One more value for each of some keys.
use Rattle.std.proofs.Common.{◌≡◌, ℕ, ◌+◌, List, [], ◌∷◌, ◌++◌, map, drop, Some, slice_get, sym, ap, ◌∙◌, append_assoc}
use Rattle.calvin_types.proofs.Fews.{drop_at}

pub one_more : {X Y : Type 0} (f : X → Y) (xs : List X) (done all : List Y) (i : ℕ) (x : X) → slice_get xs i ≡ Some x → done ++ map f (drop i xs) ≡ all → (done ++ f x ∷ []) ++ map f (drop (i + 1) xs) ≡ all
one_more f xs done all i x here so = append_assoc done (f x ∷ []) (map f (drop (i + 1) xs)) ∙ ap (λ ys. done ++ map f ys) (sym (drop_at xs i x here)) ∙ so
