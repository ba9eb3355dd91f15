-- Sums over the values of a map's entries.
use Rattle.std.proofs.Common.{◌≡◌, ℕ, zero, suc, ◌+◌, ◌≤◌, Bool, true, false, cond, if◌then◌else◌, List, [], ◌∷◌, Option, Some, None, is_some, slice_get, get_or, position, refl, sym, ap, subst, ◌∙◌, arith, OnOk, IfOk, Result, Ok, Err}
use Rattle.std.proofs.lemmas.Bool.{false≢true}
use Rattle.std.proofs.lemmas.Option.{none-some, same_Some, slice_get-map, slice_get-get_or, slice_get_within, get_or_from_slice_get}
use Rattle.std.proofs.lemmas.List.Sums.{sum_by-cons, sum_by_push, sum_by-swap_remove, sum_by-le}
use Rattle.std.proofs.lemmas.Map.Views.{All-values_from_lookup}
use Rattle.std.proofs.lemmas.Map.Entries.{place_from_lookup}
use Rattle.std.specs.Cmp.{IsEquivalence}
use Rattle.std.specs.List.{sum_by, swap_remove, IsDistinct}
use Rattle.std.specs.Option.{option_map, IfSome}
use Rattle.std.specs.Map.{lookup, keys_of, values_of}
use Rattle.indexmap.specs.IndexMap.{insert_entry, swap_remove_entry, set_value_at}
use Rattle.indexmap.proofs.MapLemmas.{Found-position, some_index, swap_remove_entry-found}

pub on_ok : {X E P : Type 0} (r : Result X E) (x : X) → r ≡ Ok x → OnOk r P → P
on_ok (Ok y) x is of = of
on_ok (Err e) x is of = absurd (cc)

pub if_ok : {X E : Type 0} (r : Result X E) (x : X) (P : X → Type 0) → r ≡ Ok x → IfOk r P → P x
if_ok (Ok y) x P is of = subst P (ap (λ s. ok_or y s) is) of
  where
    ok_or : {Y F : Type 0} → Y → Result Y F → Y
    ok_or d (Ok z) = z
    ok_or d (Err e) = d
if_ok (Err e) x P is of = absurd (cc)

pub of_some : {X : Type 0} (o : Option X) (x : X) (P : X → Type 0) → o ≡ Some x → IfSome o P → P x
of_some o x P is holds = subst (λ r. IfSome r P) is holds

module _ {K X : Type 0} where
  -- what stands where a value was set
  pub set_stands : (at : ℕ) (k : K) (v w : X) (es : List (K × X)) → slice_get es at ≡ Some (k, v) → slice_get (set_value_at es at w) at ≡ Some (k, w)
  set_stands at k v w [] there = absurd (none-some (k, v) there)
  set_stands zero k v w (e ∷ es) there = ap (λ (x : K × X). Some (x.0, w)) (same_Some e (k, v) there)
  set_stands (suc i) k v w (e ∷ es) there = set_stands i k v w es there

module _ {K X : Type 0} (f : X → ℕ) where
  sum_values : (es : List (K × X)) → sum_by f (values_of es) ≡ sum_by (λ (e : K × X). f e.1) es
  sum_values [] = refl
  sum_values (e ∷ es) = sum_by-cons f e.1 (values_of es) ∙ ap (λ n. f e.1 + n) (sum_values es) ∙ sym (sum_by-cons (λ (e : K × X). f e.1) e es)

  -- with a new entry
  pub sum_new : (eq : K → K → Bool) (k : K) (v : X) (es : List (K × X)) → lookup (eq k) es ≡ None → sum_by f (values_of (insert_entry eq es k v)) ≡ sum_by f (values_of es) + f v
  sum_new eq k v [] none = sum_by_push f [] v
  sum_new eq k v (e ∷ es) none = go (eq k e.0) refl none (λ rest. sum_new eq k v es rest)
    where
      go : (b : Bool) → eq k e.0 ≡ b → cond b (Some e.1) (lookup (eq k) es) ≡ None → (lookup (eq k) es ≡ None → sum_by f (values_of (insert_entry eq es k v)) ≡ sum_by f (values_of es) + f v)
          → sum_by f (values_of (if eq k e.0 then (e.0, v) ∷ es else e ∷ insert_entry eq es k v)) ≡ sum_by f (values_of (e ∷ es)) + f v
      go true is found more = absurd (none-some e.1 (sym found))
      go false is found more =
          let here = ap (λ b. sum_by f (values_of (if b then (e.0, v) ∷ es else e ∷ insert_entry eq es k v))) is ∙ sum_by-cons f e.1 (values_of (insert_entry eq es k v)) in
          let old = sum_by-cons f e.1 (values_of es) in
          let rest = more found in
          omega (arith, here, old, rest)

  -- with another value for an entry that is there
  pub sum_put : (eq : K → K → Bool) (k : K) (v w : X) (es : List (K × X)) → lookup (eq k) es ≡ Some v → sum_by f (values_of (insert_entry eq es k w)) + f v ≡ sum_by f (values_of es) + f w
  sum_put eq k v w [] found = absurd (none-some v found)
  sum_put eq k v w (e ∷ es) found = go (eq k e.0) refl found (λ rest. sum_put eq k v w es rest)
    where
      go : (b : Bool) → eq k e.0 ≡ b → cond b (Some e.1) (lookup (eq k) es) ≡ Some v → (lookup (eq k) es ≡ Some v → sum_by f (values_of (insert_entry eq es k w)) + f v ≡ sum_by f (values_of es) + f w)
          → sum_by f (values_of (if eq k e.0 then (e.0, w) ∷ es else e ∷ insert_entry eq es k w)) + f v ≡ sum_by f (values_of (e ∷ es)) + f w
      go true is there more =
          let here = ap (λ b. sum_by f (values_of (if b then (e.0, w) ∷ es else e ∷ insert_entry eq es k w))) is ∙ sum_by-cons f w (values_of es) in
          let old = sum_by-cons f e.1 (values_of es) in
          let one = ap f (same_Some e.1 v there) in
          omega (arith, here, old, one)
      go false is there more =
          let here = ap (λ b. sum_by f (values_of (if b then (e.0, w) ∷ es else e ∷ insert_entry eq es k w))) is ∙ sum_by-cons f e.1 (values_of (insert_entry eq es k w)) in
          let old = sum_by-cons f e.1 (values_of es) in
          let rest = more there in
          omega (arith, here, old, rest)

  -- without an entry, in whose place the last one is put
  pub sum_gone : (test : K → Bool) (v : X) (es : List (K × X)) → lookup test es ≡ Some v → sum_by f (values_of (swap_remove_entry test es)) + f v ≡ sum_by f (values_of es)
  sum_gone test v es found = go (position test (keys_of es)) refl
    where
      go : (o : Option ℕ) → position test (keys_of es) ≡ o → sum_by f (values_of (swap_remove_entry test es)) + f v ≡ sum_by f (values_of es)
      go None is = absurd (false≢true (sym (ap is_some is) ∙ some_index test es ∙ ap is_some found))
      go (Some i) is =
          let at = Found-position test es i is in
          let there = place_from_lookup test es v found in
          let d : K × X = (there.1, v) in
          let same : (get_or es i d).1 ≡ v = same_Some (get_or es i d).1 v (sym (slice_get-map (λ (e : K × X). e.1) es i ∙ ap (option_map (λ (e : K × X). e.1)) (slice_get-get_or es i d at.within)) ∙ sym at.value ∙ found) in
          let less = sum_by-swap_remove (λ (e : K × X). f e.1) es i d at.within in
          let now = ap (λ l. sum_by f (values_of l)) (swap_remove_entry-found test es i d is) ∙ sum_values (swap_remove es i d) in
          let old = sum_values es in
          let one = ap f same in
          omega (arith, less, now, old, one)

  -- with another value where an entry stands
  pub sum_set : (at : ℕ) (k : K) (v w : X) (es : List (K × X)) → slice_get es at ≡ Some (k, v) → sum_by f (values_of (set_value_at es at w)) + f v ≡ sum_by f (values_of es) + f w
  sum_set at k v w [] there = absurd (none-some (k, v) there)
  sum_set zero k v w (e ∷ es) there =
      let same = ap (λ (x : K × X). f x.1) (same_Some e (k, v) there) in
      let now = sum_by-cons f w (values_of es) in
      let old = sum_by-cons f e.1 (values_of es) in
      omega (arith, same, now, old)
  sum_set (suc i) k v w (e ∷ es) there =
      let rest = sum_set i k v w es there in
      let now = sum_by-cons f e.1 (values_of (set_value_at es i w)) in
      let old = sum_by-cons f e.1 (values_of es) in
      omega (arith, rest, now, old)

  -- without the entry that stands there, in whose place the last one is put
  pub sum_taken : (at : ℕ) (p : K × X) (es : List (K × X)) → slice_get es at ≡ Some p → sum_by f (values_of (swap_remove es at p)) + f p.1 ≡ sum_by f (values_of es)
  sum_taken at p es there =
      let less = sum_by-swap_remove (λ (e : K × X). f e.1) es at p (slice_get_within es at p there) in
      let same = ap (λ (e : K × X). f e.1) (get_or_from_slice_get es at p p there) in
      let now = sum_values (swap_remove es at p) in
      let old = sum_values es in
      omega (arith, less, same, now, old)

  -- a part of no sum is none
  pub sum_part : (test : K → Bool) (v : X) (es : List (K × X)) → lookup test es ≡ Some v → sum_by f (values_of es) ≡ 0 → f v ≡ 0
  sum_part test v [] found none = absurd (none-some v found)
  sum_part test v (e ∷ es) found none = go (test e.0) found (λ rest zero. sum_part test v es rest zero)
    where
      whole : f e.1 + sum_by f (values_of es) ≡ 0
      whole = sym (sum_by-cons f e.1 (values_of es)) ∙ none

      go : (b : Bool) → cond b (Some e.1) (lookup test es) ≡ Some v → (lookup test es ≡ Some v → sum_by f (values_of es) ≡ 0 → f v ≡ 0) → f v ≡ 0
      go true is more = let one = ap f (same_Some e.1 v is) in omega (arith, whole, one)
      go false is more = more is (omega (arith, whole))

  -- and where no part is anything, nor is the sum
  pub sum_none : {eq : K → K → Bool} → IsEquivalence eq → (es : List (K × X)) → IsDistinct eq (keys_of es) → ((q : K) (v : X) → lookup (eq q) es ≡ Some v → f v ≡ 0) → sum_by f (values_of es) ≡ 0
  sum_none {eq} laws es distinct none =
      let few = sum_by-le f 0 (values_of es) (All-values_from_lookup laws (λ v. f v ≤ 0) es distinct (λ q. part q (lookup (eq q) es) refl)) in
      omega (arith, few)
    where
      part : (q : K) (o : Option X) → lookup (eq q) es ≡ o → IfSome o (λ v. f v ≤ 0)
      part q None is = tt
      part q (Some v) is = let zero = none q v is in omega (arith, zero)

  -- a part is at most the sum
  pub sum_least : (test : K → Bool) (v : X) (es : List (K × X)) → lookup test es ≡ Some v → f v ≤ sum_by f (values_of es)
  sum_least test v [] found = absurd (none-some v found)
  sum_least test v (e ∷ es) found = go (test e.0) found (λ rest. sum_least test v es rest)
    where
      whole : sum_by f (values_of (e ∷ es)) ≡ f e.1 + sum_by f (values_of es)
      whole = sum_by-cons f e.1 (values_of es)

      go : (b : Bool) → cond b (Some e.1) (lookup test es) ≡ Some v → (lookup test es ≡ Some v → f v ≤ sum_by f (values_of es)) → f v ≤ sum_by f (values_of (e ∷ es))
      go true is more = let one = ap f (same_Some e.1 v is) in omega (arith, whole, one)
      go false is more = let rest = more is in omega (arith, whole, rest)
