-- Lines of nodes, one after another.
use Rattle.std.proofs.Common.{◌≡◌, ℕ, ◌+◌, ◌<◌, List, [], ◌∷◌, ◌++◌, length, take, get_or, slice_get, Some, sym, ap, ◌∙◌, append_assoc}
use Rattle.std.specs.List.{flat_map}
use Rattle.std.proofs.lemmas.Grind.{flat_map-append}
use Rattle.std.proofs.lemmas.List.{append-nil}
use Rattle.std.proofs.lemmas.Option.{slice_get-get_or}
use Rattle.calvin_types.proofs.Fews.{take_at}

module _ {X : Type 0} (f : X → List ℕ) (xs : List X) (i : ℕ) (x : X) (less : i < length xs) (is : x ≡ get_or xs i x) where
  pub next_line : (start text new : List ℕ) → text ≡ start ++ flat_map f (take i xs) → new ≡ text ++ f x → new ≡ start ++ flat_map f (take (i + 1) xs)
  next_line start text new so_far more =
      let here : slice_get xs i ≡ Some x = slice_get-get_or xs i x less ∙ ap Some (sym is) in
      more ∙ ap (λ ys. ys ++ f x) so_far ∙ append_assoc start (flat_map f (take i xs)) (f x)
      ∙ ap (λ ys. start ++ (flat_map f (take i xs) ++ ys)) (sym (append-nil (f x)))
      ∙ ap (λ ys. start ++ ys) (sym (flat_map-append f (take i xs) (x ∷ [])))
      ∙ ap (λ ys. start ++ flat_map f ys) (sym (take_at xs i x here))
