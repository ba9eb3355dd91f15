-- Of some keys those whose row is cold: how many they are.
use Rattle.std.proofs.Common.{◌≡◌, ◌+◌, ◌≤◌, ℕ, Bool, true, false, cond, not, ◌||◌, List, [], ◌∷◌, ◌++◌, length, drop, Option, Some, None, slice_get, is_some, refl, sym, ap, ◌∙◌, subst, arith}
use Rattle.std.proofs.lemmas.Bool.{false≢true}
use Rattle.std.specs.FinMap.{get, remove}
use Rattle.std.specs.List.{list_any}
use Rattle.std.specs.FinSet.{FinSet}
use Rattle.calvin_types.specs.declared.key.Key.{Key}
use Rattle.calvin_types.specs.Keys.{key_cmp, has}
use Rattle.calvin_types.proofs.Fews.{drop_at}
use Rattle.calvin_app.specs.Rows.{Rows}
use Rattle.calvin_app.specs.Stores.{without}
use Rattle.calvin_store.specs.Tiers.{names_of, cold_of}
use Rattle.calvin_store.proofs.PutsInTurn.{get-without}
use Rattle.calvin_store.proofs.TwoTables.{has_name, names-removed}

-- one where it is so, and none where it isn't
abbrev pub one_if : Bool → ℕ
one_if b = cond b 1 0

module _ (cold : FinSet {K = Key} key_cmp) where
  pub cold-cons : (k : Key) (ks : List Key) → length (cold_of cold (k ∷ ks)) ≡ one_if (is_some (get cold k)) + length (cold_of cold ks)
  cold-cons k ks = go (is_some (get cold k))
    where
      go : (b : Bool) → length (cond b (k ∷ cold_of cold ks) (cold_of cold ks)) ≡ one_if b + length (cold_of cold ks)
      go true = omega arith
      go false = omega arith

  cold-append : (ks js : List Key) → length (cold_of cold (ks ++ js)) ≡ length (cold_of cold ks) + length (cold_of cold js)
  cold-append [] js = omega arith
  cold-append (k ∷ ks) js = omega (arith, cold-cons k (ks ++ js), cold-cons k ks, cold-append ks js)

  -- where no test finds one, there are none
  pub none-listed : (ks : List Key) → list_any (λ k. is_some (get cold k)) ks ≡ false → cold_of cold ks ≡ []
  none-listed [] none = refl
  none-listed (k ∷ ks) none = go (is_some (get cold k)) (none-listed ks) none
    where
      go : (b : Bool) → (list_any (λ k. is_some (get cold k)) ks ≡ false → cold_of cold ks ≡ []) → (b || list_any (λ k. is_some (get cold k)) ks) ≡ false → cond b (k ∷ cold_of cold ks) (cold_of cold ks) ≡ []
      go true rest found = absurd (false≢true (sym found))
      go false rest none = rest none

  pub none-cold : (ks js : List Key) → cold_of cold (ks ++ js) ≡ [] → length (cold_of cold ks) + length (cold_of cold js) ≡ 0
  none-cold ks js none = sym (cold-append ks js) ∙ ap length none

-- no more of them are cold without some
cold-without : (cold : FinSet {K = Key} key_cmp) (ks js : List Key) → length (cold_of (without cold ks) js) ≤ length (cold_of cold js)
cold-without cold ks [] = omega arith
cold-without cold ks (j ∷ js) =
    let fewer : one_if (is_some (get (without cold ks) j)) ≤ one_if (is_some (get cold j)) = subst (λ o. one_if (is_some o) ≤ one_if (is_some (get cold j))) (sym (get-without cold ks j)) (go (has ks j) (get cold j)) in
    omega (arith, cold-cons (without cold ks) j js, cold-cons cold j js, fewer, cold-without cold ks js)
  where
    go : (b : Bool) (o : Option (Unit {0})) → one_if (is_some (cond (not b) o None)) ≤ one_if (is_some o)
    go true None = omega arith
    go true (Some x) = omega arith
    go false None = omega arith
    go false (Some x) = omega arith

pub cold-fewer : (cold left : FinSet {K = Key} key_cmp) (ks js : List Key) → left ≡ without cold ks → length (cold_of left js) ≤ length (cold_of cold js)
cold-fewer cold left ks js is = omega (arith, ap (λ c. length (cold_of c js)) is, cold-without cold ks js)

module _ {Row : Type 0} (cold : Rows Row) (keys : List Key) (i : ℕ) (k : Key) where
  -- the key at a place, and those behind it
  pub cold-at : slice_get keys i ≡ Some k → length (cold_of (names_of cold) (drop i keys)) ≡ one_if (is_some (get cold k)) + length (cold_of (names_of cold) (drop (i + 1) keys))
  cold-at is =
      ap (λ ks. length (cold_of (names_of cold) ks)) (drop_at keys i k is) ∙ cold-cons (names_of cold) k (drop (i + 1) keys)
      ∙ ap (λ b. one_if b + length (cold_of (names_of cold) (drop (i + 1) keys))) (has_name cold k)

  -- its row is taken out
  pub cold-taken : slice_get keys i ≡ Some k → one_if (is_some (get cold k)) + length (cold_of (names_of (remove cold k)) (drop (i + 1) keys)) ≤ length (cold_of (names_of cold) (drop i keys))
  cold-taken is =
      omega (arith, cold-at is, cold-fewer (names_of cold) (names_of (remove cold k)) (k ∷ []) (drop (i + 1) keys) (names-removed cold k))
