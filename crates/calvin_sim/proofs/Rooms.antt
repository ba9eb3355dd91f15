-- Whether what is listed has room, epoch by epoch and group by group.
use Rattle.std.proofs.Common.{◌≡◌, ℕ, suc, ◌+◌, ◌-◌, ◌<◌, ◌≤◌, inl, inr, Bool, true, false, ◌&&◌, List, [], ◌∷◌, ◌++◌, map, drop, length, sym, ap, ◌∙◌, subst, arith}
use Rattle.std.specs.Prelude.{nat_le}
use Rattle.std.specs.List.{list_all, range_with_len}
use Rattle.std.proofs.Math.ListN.{get_or, get_or-map}
use Rattle.std.proofs.lemmas.Bool.{cases_lt, le-leb, lt-leb}
use Rattle.std.proofs.lemmas.List.{drop-map, length-map}
use Rattle.std.proofs.lemmas.List.Folds.{list_all-append, list_all_at}
use Rattle.std.proofs.lemmas.List.FromFn.{length-range_with_len, get_or-range_with_len}
use Rattle.std.proofs.lemmas.List.Sums.{sum_by-drop_more}
use Rattle.calvin_script.specs.declared.contents.Epoch.{Epoch}
use Rattle.calvin_script.specs.declared.contents.Request.{Request}
use Rattle.calvin_script.specs.Scripts.{Listed, all_listed, requests_of}
use Rattle.calvin_sim.specs.Simulations.{listed_for}
use Rattle.calvin_sim.proofs.Submitted.{range_more}

-- what is less than what is left
take_away : (a b l : ℕ) → a ≤ l → nat_le b (l - a) ≡ nat_le (a + b) l
take_away a b l low = elim (cases_lt l (a + b)) [
  | inl over ↦ lt-leb b (l - a) (omega (arith, over, low)) ∙ sym (lt-leb (a + b) l over)
  | inr upto ↦ le-leb b (l - a) (omega (arith, upto, low)) ∙ sym (le-leb (a + b) l upto)
]

module _ {Args : Type 0} (g : ℕ) (items : List (Epoch (Request Args))) (i : ℕ) (epoch : Epoch (Request Args)) (within : i < length items) (is : epoch ≡ get_or items i epoch) (number left : ℕ) (counts : number ≡ length (requests_of g (all_listed epoch))) where
  -- the epochs to come are this one and those after it
  rest_is : listed_for g (map all_listed (drop i items)) ≡ number + listed_for g (map all_listed (drop (i + 1) items))
  rest_is =
      let f : List (Listed Args) → ℕ = (λ x. length (requests_of g x)) in
      ap (listed_for g) (sym (drop-map all_listed i items))
      ∙ sum_by-drop_more f (map all_listed items) i (all_listed epoch) (subst (λ n. i < n) (sym (length-map items all_listed)) within)
      ∙ (λ j. f ((get_or-map all_listed items i epoch ∙ ap all_listed (sym is)) j) + listed_for g (drop-map all_listed (i + 1) items j))
      ∙ ap (λ n. n + listed_for g (map all_listed (drop (i + 1) items))) (sym counts)

  pub too_many : left < number → nat_le (listed_for g (map all_listed (drop i items))) left ≡ false
  too_many over = lt-leb (listed_for g (map all_listed (drop i items))) left (let rest = rest_is in omega (arith, rest, over))

  pub still_room : number ≤ left → nat_le (listed_for g (map all_listed (drop (i + 1) items))) (left - number) ≡ nat_le (listed_for g (map all_listed (drop i items))) left
  still_room low = take_away number (listed_for g (map all_listed (drop (i + 1) items))) left low ∙ ap (λ n. nat_le n left) (sym rest_is)

-- a group that has none
pub one_fails : (p : ℕ → Bool) (n h : ℕ) → h < n → p h ≡ false → list_all p (range_with_len 0 n) ≡ false
one_fails p n h less fails =
    list_all_at p (range_with_len 0 n) h h (subst (λ k. h < k) (sym (length-range_with_len 0 n)) less)
    (ap p (get_or-range_with_len 0 n h h less ∙ omega arith) ∙ fails)

-- one group more
pub one_passes : (p : ℕ → Bool) (h : ℕ) → list_all p (range_with_len 0 h) ≡ true → p h ≡ true → list_all p (range_with_len 0 (h + 1)) ≡ true
one_passes p h all one =
    let next : h + 1 ≡ suc h = omega arith in
    let last : range_with_len 0 h ++ (0 + h) ∷ [] ≡ range_with_len 0 h ++ h ∷ [] = ap (λ k. range_with_len 0 h ++ k ∷ []) (omega arith) in
    ap (λ k. list_all p (range_with_len 0 k)) next ∙ ap (list_all p) (range_more 0 h ∙ last)
    ∙ list_all-append p (range_with_len 0 h) (h ∷ []) ∙ (λ j. all j && (one j && true))
