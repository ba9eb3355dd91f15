-- A test of a list from a place on.
use Rattle.std.proofs.Common.{◌≡◌, ℕ, ◌+◌, Bool, true, false, ◌&&◌, ◌||◌, List, drop, Some, slice_get, sym, ap, ◌∙◌}
use Rattle.std.specs.List.{list_any, list_all}
use Rattle.calvin_types.proofs.Fews.{drop_at}

module _ {X : Type 0} (p : X → Bool) (xs : List X) (i : ℕ) (x : X) (here : slice_get xs i ≡ Some x) where
  any_at : list_any p (drop i xs) ≡ (p x || list_any p (drop (i + 1) xs))
  any_at = ap (list_any p) (drop_at xs i x here)

  all_at : list_all p (drop i xs) ≡ (p x && list_all p (drop (i + 1) xs))
  all_at = ap (list_all p) (drop_at xs i x here)

  pub any_hit : p x ≡ true → list_any p (drop i xs) ≡ list_any p xs → true ≡ list_any p xs
  any_hit h so = sym (any_at ∙ ap (λ b. b || list_any p (drop (i + 1) xs)) h) ∙ so

  pub any_next : p x ≡ false → list_any p (drop i xs) ≡ list_any p xs → list_any p (drop (i + 1) xs) ≡ list_any p xs
  any_next h so = sym (any_at ∙ ap (λ b. b || list_any p (drop (i + 1) xs)) h) ∙ so

  pub all_missed : p x ≡ false → list_all p (drop i xs) ≡ list_all p xs → false ≡ list_all p xs
  all_missed h so = sym (all_at ∙ ap (λ b. b && list_all p (drop (i + 1) xs)) h) ∙ so

  pub all_next : p x ≡ true → list_all p (drop i xs) ≡ list_all p xs → list_all p (drop (i + 1) xs) ≡ list_all p xs
  all_next h so = sym (all_at ∙ ap (λ b. b && list_all p (drop (i + 1) xs)) h) ∙ so
