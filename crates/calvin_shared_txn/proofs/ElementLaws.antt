-- The element of a list at a number is what a look at that number gives.
use Rattle.std.proofs.Common.{◌≡◌, ℕ, zero, suc, ◌<◌, List, [], ◌∷◌, length, Some, refl, sym, ◌∙◌, arith}
use Rattle.std.specs.List.{slice_get}
use Rattle.std.proofs.lemmas.Option.{same_Some}
use Rattle.calvin_shared_txn.specs.Elements.{element, below_rest}

module _ {T : Type 0} where
  pub element_is : (xs : List T) (n : ℕ) (within : n < length xs) → slice_get xs n ≡ Some (element xs n within)
  element_is [] n within = absurd (omega arith)
  element_is (x ∷ xs) zero within = refl
  element_is (x ∷ xs) (suc n) within = element_is xs n (below_rest n (length xs) within)

  -- whatever is found there is it
  pub element_found : (xs : List T) (n : ℕ) (within : n < length xs) (x : T) → slice_get xs n ≡ Some x → element xs n within ≡ x
  element_found xs n within x found = same_Some _ _ (sym (element_is xs n within) ∙ found)
