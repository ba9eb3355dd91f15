-- A list of which some items are left, each as something makes it, in the place of the list itself.
use Rattle.std.proofs.Common.{◌≡◌, ℕ, ◌+◌, ◌≤◌, List, [], ◌∷◌, ◌++◌, take, drop, Option, Some, None, slice_get, refl, sym, ap, ◌∙◌, append_assoc, arith}
use Rattle.std.proofs.Math.ListN.{set}
use Rattle.std.proofs.lemmas.Grind.{take-set_at}
use Rattle.std.proofs.lemmas.List.{drop-set-lt}
use Rattle.std.proofs.lemmas.Option.{slice_get_within}
use Rattle.std.specs.List.{filter_map, cons_option}
use Rattle.calvin_types.proofs.Fews.{drop_at}

module _ {X : Type 0} (h : X → Option X) (now : List X) (i n : ℕ) (x : X) (here : slice_get now i ≡ Some x) where
  -- an item of which nothing is made goes
  pub filtered_out : h x ≡ None → take n now ++ filter_map h (drop (i + 1) now) ≡ take n now ++ filter_map h (drop i now)
  filtered_out none = sym (ap (λ r. take n now ++ filter_map h r) (drop_at now i x here) ∙ ap (λ o. take n now ++ cons_option o (filter_map h (drop (i + 1) now))) none)

  -- what is made of another one stands behind those that are left
  pub filtered_in : (y : X) → h x ≡ Some y → n ≤ i → take (n + 1) (set now n y) ++ filter_map h (drop (i + 1) (set now n y)) ≡ take n now ++ filter_map h (drop i now)
  filtered_in y some behind =
      let within = slice_get_within now i x here in
      (λ j. take-set_at now n (n + 1) y refl (omega (arith, within)) j ++ filter_map h (drop-set-lt (i + 1) now n y (omega arith) j))
      ∙ append_assoc (take n now) (y ∷ []) (filter_map h (drop (i + 1) now))
      ∙ sym (ap (λ r. take n now ++ filter_map h r) (drop_at now i x here) ∙ ap (λ o. take n now ++ cons_option o (filter_map h (drop (i + 1) now))) some)
