-- The partitions that store some keys, as they are found key by key.
use Rattle.std.proofs.Common.{◌≡◌, ℕ, ◌<◌, ◌≤◌, Bool, true, false, ◌&&◌, ◌||◌, List, [], ◌∷◌, ◌++◌, length, refl, sym, ap, ◌∙◌, arith}
use Rattle.std.proofs.Common.{get_or, get_or-set_same, get_or-set_other}
use Rattle.std.proofs.Math.ListN.{set}
use Rattle.std.specs.Prelude.{◌==◌, Some}
use Rattle.std.specs.List.{list_any, list_all}
use Rattle.std.proofs.lemmas.Bool.{false≢true, false_from_ne_true, and_parts, and_from, or_left, or_right, eqb-true, eq-eqb, ne_eqb, leb-true, le-leb}
use Rattle.std.proofs.lemmas.List.Folds.{list_any-append, list_all-append}
use Rattle.calvin_types.specs.declared.key.Key.{Key}
use Rattle.calvin_types.specs.declared.txn.Txn.{Txn}
use Rattle.calvin_types.specs.Keys.{partition_of}
use Rattle.calvin_types.specs.Participants.{site, declared_keys, is_least, is_active}
use Rattle.calvin_sched.specs.Sites.{IsLeast, IsLeastOf}
use Rattle.calvin_sched.proofs.Alone.{at, from, lower, meets}

or_none : (b : Bool) → (b || false) ≡ b
or_none true = refl
or_none false = refl

module _ (partitions : ℕ) where
  -- ---- the least

  -- of one key
  pub least_of_one : (k : Key) (p : ℕ) → p ≡ partition_of partitions k → p < partitions → IsLeastOf partitions (k ∷ []) (Some p)
  least_of_one k p is within = record {
    there = or_left (at partitions p k) false (eq-eqb (partition_of partitions k) p (sym is));
    none_below = and_from (from partitions p k) true (le-leb p (partition_of partitions k) (omega (arith, is))) refl;
    in_range = within;
  }

  -- of the keys of two lists
  pub least_of_first : (xs ys : List Key) (a b : ℕ) → IsLeast partitions xs a → IsLeast partitions ys b → a ≤ b → IsLeast partitions (xs ++ ys) a
  least_of_first xs ys a b x y le = record {
    there = list_any-append (at partitions a) xs ys ∙ or_left (list_any (at partitions a) xs) (list_any (at partitions a) ys) x.there;
    none_below = list_all-append (from partitions a) xs ys ∙ and_from (list_all (from partitions a) xs) (list_all (from partitions a) ys) x.none_below (lower partitions a b le ys y.none_below);
    in_range = x.in_range;
  }

  pub least_of_second : (xs ys : List Key) (a b : ℕ) → IsLeast partitions xs a → IsLeast partitions ys b → b ≤ a → IsLeast partitions (xs ++ ys) b
  least_of_second xs ys a b x y le = record {
    there = list_any-append (at partitions b) xs ys ∙ or_right (list_any (at partitions b) xs) (list_any (at partitions b) ys) y.there;
    none_below = list_all-append (from partitions b) xs ys ∙ and_from (list_all (from partitions b) xs) (list_all (from partitions b) ys) (lower partitions b a le xs x.none_below) y.none_below;
    in_range = y.in_range;
  }

  -- no other partition is the least
  only : (ks : List Key) (m p : ℕ) → IsLeast partitions ks m → (list_any (at partitions p) ks && list_all (from partitions p) ks) ≡ true → p ≡ m
  only ks m p least h =
      let parts = and_parts (list_any (at partitions p) ks) (list_all (from partitions p) ks) h in
      let a = meets (at partitions m) (from partitions p) ks least.there parts.1 in
      let b = meets (at partitions p) (from partitions m) ks parts.0 least.none_below in
      omega (arith, eqb-true (partition_of partitions a.0) m a.1.0, leb-true p (partition_of partitions a.0) a.1.1, eqb-true (partition_of partitions b.0) p b.1.0, leb-true m (partition_of partitions b.0) b.1.1)

  -- ---- the marks

  -- after one key more
  pub marked_more : (ks : List Key) (k : Key) (q : ℕ) → q ≡ partition_of partitions k → (marks : List Bool) → q < length marks
      → ((p : ℕ) → p < 16 → get_or marks p false ≡ list_any (at partitions p) ks)
      → (p : ℕ) → p < 16 → get_or (set marks q true) p false ≡ list_any (at partitions p) (ks ++ k ∷ [])
  marked_more ks k q is marks within before p lt = go (p == q) refl
    where
      more : list_any (at partitions p) (ks ++ k ∷ []) ≡ (list_any (at partitions p) ks || (at partitions p k || false))
      more = list_any-append (at partitions p) ks (k ∷ [])

      go : (b : Bool) → (p == q) ≡ b → get_or (set marks q true) p false ≡ list_any (at partitions p) (ks ++ k ∷ [])
      go true e =
          let same : p ≡ q = eqb-true p q e in
          ap (λ o. get_or (set marks q true) o false) same ∙ get_or-set_same marks q true false within
          ∙ sym (more ∙ or_right (list_any (at partitions p) ks) (at partitions p k || false) (or_left (at partitions p k) false (eq-eqb (partition_of partitions k) p (sym is ∙ sym same))))
      go false e =
          let other : p ≡ q → ⊥ = λ s. false≢true (sym e ∙ eq-eqb p q s) in
          get_or-set_other marks q p true false other ∙ before p lt
          ∙ sym (more ∙ ap (λ b. list_any (at partitions p) ks || (b || false)) (ne_eqb (partition_of partitions k) p (λ s. other (sym (is ∙ s)))) ∙ or_none (list_any (at partitions p) ks))

  module _ {Args : Type 0} (t : Txn Args) (marks : List Bool) (are : (p : ℕ) → p < 16 → get_or marks p false ≡ list_any (at partitions p) t.sets.writes) where
    -- those of what is written, and the least participant: the partitions that run a request
    pub marked_runs : (m : ℕ) → IsLeast partitions (declared_keys t) m → m < length marks → (p : ℕ) → p < 16 → get_or (set marks m true) p false ≡ is_active (site partitions p) t
    marked_runs m least within p lt = go (p == m) refl
      where
        go : (b : Bool) → (p == m) ≡ b → get_or (set marks m true) p false ≡ is_active (site partitions p) t
        go true e =
            let same : p ≡ m = eqb-true p m e in
            ap (λ o. get_or (set marks m true) o false) same ∙ get_or-set_same marks m true false within
            ∙ sym (ap (λ o. is_active (site partitions o) t) same ∙ or_right (list_any (at partitions m) t.sets.writes) (is_least (site partitions m) t)
            (and_from (list_any (at partitions m) (declared_keys t)) (list_all (from partitions m) (declared_keys t)) least.there least.none_below))
        go false e =
            let other : p ≡ m → ⊥ = λ s. false≢true (sym e ∙ eq-eqb p m s) in
            let passive : is_least (site partitions p) t ≡ false = false_from_ne_true (is_least (site partitions p) t) (λ h. other (only (declared_keys t) m p least h)) in
            get_or-set_other marks m p true false other ∙ are p lt
            ∙ sym (ap (λ b. list_any (at partitions p) t.sets.writes || b) passive ∙ or_none (list_any (at partitions p) t.sets.writes))

    -- no key is declared: nobody runs it
    pub marked_none : declared_keys t ≡ [] → (p : ℕ) → p < 16 → get_or marks p false ≡ is_active (site partitions p) t
    marked_none none p lt =
        are p lt
        ∙ sym (ap (λ ks. list_any (at partitions p) t.sets.writes || (list_any (at partitions p) ks && list_all (from partitions p) ks)) none ∙ or_none (list_any (at partitions p) t.sets.writes))
