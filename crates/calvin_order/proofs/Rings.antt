-- The part of a ring that is in use, when a slot behind it is filled and when its first one is left.
use Rattle.std.proofs.Common.{◌≡◌, ℕ, suc, ◌+◌, ◌-◌, ◌%◌, ◌<◌, ◌≤◌, ◌⊎◌, List, [], ◌∷◌, ◌++◌, length, get_or, set, sym, ap, subst, ◌∙◌, ap₂, inl, inr, mod-eq_of_lt, arith, length-append, length-drop, length-set, length-take-le, get_or-drop, get_or-take}
use native.Mathlib.Nat.{mod-eq-sub-mod, mod-add-mod}
use Rattle.std.proofs.lemmas.List.{same_lists, drop_more, get_or_append_left, get_or-append_right, get_or-map, length-map, map-set}
use Rattle.std.proofs.lemmas.List.Elements.{All-push}
use Rattle.std.proofs.lemmas.Bool.{cases_lt}
use Rattle.std.proofs.lemmas.Grind.{common_steps}
use Rattle.std.specs.Borrow.{Bor}
use Rattle.std.specs.List.{All}
use Rattle.calvin_order.specs.Rings.{window, lists_at, IsRing}

-- an index below 2 N wraps once at most
mod_wraps_once : (N j : ℕ) → j < N + N → ((j < N) × (j % N ≡ j)) ⊎ ((N ≤ j) × (j % N ≡ j - N))
mod_wraps_once N j below = elim (cases_lt j N) [
  | inl low ↦ inl (low, mod-eq_of_lt low)
  | inr high ↦ inr (high, mod-eq-sub-mod high ∙ mod-eq_of_lt (omega arith))
]

module _ {X : Type 0} (N k n : ℕ) (xs : List X) (start_in_range : k < N) (len_fits : n ≤ N) (length_xs : length xs ≡ N) where
  pub length-window : length (window k n xs) ≡ n
  length-window = length-take-le n _ (simp (length-append, length-drop) (omega (arith, length-take-le k xs (omega arith))))

  -- item i of the window is slot (k + i) % N, which is before the end of the ring or past it
  pub get_or-window : (i : ℕ) (d : X) → i < n → get_or (window k n xs) i d ≡ get_or xs ((k + i) % N) d
  get_or-window i d in_range =
      let length_tail = length-drop k xs in
      get_or-take n _ i d in_range ∙ elim (mod_wraps_once N (k + i) (omega arith)) [
        | inl unwrapped ↦ get_or_append_left _ _ d i (omega arith) ∙ get_or-drop k xs i d ∙ ap (λ j. get_or xs j d) (omega arith)
        | inr wrapped ↦ get_or-append_right _ _ (N - k) i d (omega arith) (omega arith) ∙ get_or-take k xs _ d (omega arith) ∙ ap (λ j. get_or xs j d) (omega arith)
      ]

module _ {X : Type 0} (N k n : ℕ) (xs : List X) (start_in_range : k < N) (len_fits : n ≤ N) (length_xs : length xs ≡ N) where
  -- what is written behind the last item is added at the end
  pub window_after_push : (x : X) → n < N → window k (n + 1) (set xs ((k + n) % N) x) ≡ window k n xs ++ x ∷ []
  window_after_push x has_room =
      let ys = set xs ((k + n) % N) x in
      let length_ys = length-set xs ((k + n) % N) x ∙ length_xs in
      let length_old = length-window N k n xs start_in_range len_fits length_xs in
      let length_new = length-window N k (n + 1) ys start_in_range (omega arith) length_ys in
      let written_slot = mod_wraps_once N (k + n) (omega arith) in
      same_lists _ _ (grind (arith, common_steps)) (λ i d in_range. grind (
        arith,
        common_steps,
        mod_wraps_once N (k + i) (omega arith),
        get_or-window N k n xs start_in_range len_fits length_xs i d,
        get_or-window N k (n + 1) ys start_in_range (omega arith) length_ys i d,
      ))

  -- the first item, and what follows it from the next slot on
  pub window_before_pop : (x : X) → 0 < n → window k n xs ≡ get_or xs k x ∷ window ((k + 1) % N) (n - 1) xs
  window_before_pop x nonempty =
      let next_in_range : (k + 1) % N < N = grind (arith, mod_wraps_once N (k + 1) (omega arith)) in
      let length_old = length-window N k n xs start_in_range len_fits length_xs in
      let length_new = length-window N ((k + 1) % N) (n - 1) xs next_in_range (omega arith) length_xs in
      let old_item = get_or-window N k n xs start_in_range len_fits length_xs in
      drop_more _ 0 x (omega arith) ∙ ap₂ ◌∷◌ (grind (arith, old_item 0 x, mod_wraps_once N k)) (same_lists _ _ (simp length-drop (omega arith)) (λ i d in_range. grind (
        arith,
        length-drop 1 (window k n xs),
        get_or-drop 1 (window k n xs) i d,
        mod-add-mod (k + 1) N i,
        old_item (1 + i) d,
        get_or-window N _ (n - 1) xs next_in_range (omega arith) length_xs i d,
      )))

-- what holds of all of a list holds of its first one, and of the others
all_head : {X : Type 0} (P : X → Type 0) (x : X) (xs : List X) → All P (x ∷ xs) → P x
all_head P x xs all = all 0 x (omega arith)

all_rest : {X : Type 0} (P : X → Type 0) (x : X) (xs : List X) → All P (x ∷ xs) → All P xs
all_rest P x xs all k d less = all (suc k) d (omega (arith, less))

module _ {T : Type 0} (k n : ℕ) (refs : List (Bor (List T))) (old : List (List T)) (ring : IsRing k n (lists_at refs)) (slots : length refs ≡ 16) (is : window k n (lists_at refs) ≡ old) where
  all_slots : length (lists_at refs) ≡ 16
  all_slots = length-map refs (λ r. r.now) ∙ slots

  pub number : length old ≡ n
  number = sym (ap length is) ∙ length-window 16 k n (lists_at refs) ring.inside ring.at_most all_slots

  -- one more batch waits behind the others
  pub filled : (batch : Bor (List T)) → length old < 16 → window k (n + 1) (lists_at (set refs ((k + n) % 16) batch)) ≡ old ++ batch.now ∷ []
  filled batch room =
      let few : n < 16 = omega (arith, number, room) in
      ap (window k (n + 1)) (map-set (λ r. r.now) refs ((k + n) % 16) batch)
      ∙ window_after_push 16 k n (lists_at refs) ring.inside ring.at_most all_slots batch.now few
      ∙ ap (λ xs. xs ++ batch.now ∷ []) is

  pub ring_filled : (batch : Bor (List T)) → length old < 16 → 0 < length batch.now → IsRing k (n + 1) (lists_at (set refs ((k + n) % 16) batch))
  ring_filled batch room some = record {
    inside = ring.inside;
    at_most = omega (arith, number, room);
    some = subst (All (λ b. 0 < length b)) (sym (filled batch room)) (All-push (λ b. 0 < length b) old batch.now (subst (All (λ b. 0 < length b)) is ring.some) some);
  }

  -- the first one waits no more
  pub left : (batch : Bor (List T)) → batch ≡ get_or refs k batch → (n ≡ 0 → ⊥) → old ≡ batch.now ∷ window ((k + 1) % 16) (n - 1) (lists_at refs)
  left batch at some =
      let low = ring.inside in
      let within : k < length refs = omega (arith, low, slots) in
      sym is
      ∙ window_before_pop 16 k n (lists_at refs) ring.inside ring.at_most all_slots batch.now (omega (arith, some))
      ∙ ap (λ b. b ∷ window ((k + 1) % 16) (n - 1) (lists_at refs)) (get_or-map (λ r. r.now) refs k batch batch.now within ∙ ap (λ r. r.now) (sym at))

  all_some : (batch : Bor (List T)) → batch ≡ get_or refs k batch → (n ≡ 0 → ⊥) → All (λ b. 0 < length b) (batch.now ∷ window ((k + 1) % 16) (n - 1) (lists_at refs))
  all_some batch at some = subst (All (λ b. 0 < length b)) (is ∙ left batch at some) ring.some

  pub ring_left : (batch : Bor (List T)) → batch ≡ get_or refs k batch → (n ≡ 0 → ⊥) → IsRing ((k + 1) % 16) (n - 1) (lists_at refs)
  ring_left batch at some = record {
    inside = omega arith;
    at_most = (let upto = ring.at_most in omega (arith, upto));
    some = all_rest (λ b. 0 < length b) batch.now (window ((k + 1) % 16) (n - 1) (lists_at refs)) (all_some batch at some);
  }

  pub left_some : (batch : Bor (List T)) → batch ≡ get_or refs k batch → (n ≡ 0 → ⊥) → 0 < length batch.now
  left_some batch at some = all_head (λ b. 0 < length b) batch.now (window ((k + 1) % 16) (n - 1) (lists_at refs)) (all_some batch at some)
