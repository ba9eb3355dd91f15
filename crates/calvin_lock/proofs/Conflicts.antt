-- Keys that two sets have in common, and conflicts.
use Rattle.std.proofs.Common.{◌≡◌, Bool, true, ◌⊎◌, inl, inr, List, [], ◌∷◌, ◌++◌, sym, subst, ◌∙◌}
use Rattle.std.proofs.lemmas.Bool.{false≢true, or_cases, or_left, or_right}
use Rattle.std.proofs.lemmas.List.Folds.{list_any-append}
use Rattle.std.specs.List.{list_any}
use Rattle.std.specs.Ordering.{eq_by_cmp}
use Rattle.std.specs.Cmp.{Equal-is}
use Rattle.calvin_types.specs.declared.key.Key.{Key}
use Rattle.calvin_types.specs.declared.key_set.Sets.{Sets}
use Rattle.calvin_types.specs.Keys.{key_cmp, has}
use Rattle.calvin_types.specs.KeyOrder.{key_cmp_exact, same_key-self}
use Rattle.calvin_lock.specs.Ready.{Conflict}

-- a key of two lists together is in one of them, and back
pub of_either : (rs ws : List Key) (k : Key) → has (rs ++ ws) k ≡ true → (has rs k ≡ true) ⊎ (has ws k ≡ true)
of_either rs ws k h = or_cases (has rs k) (has ws k) (sym (list_any-append (eq_by_cmp key_cmp k) rs ws) ∙ h)

pub in_first : (rs ws : List Key) (k : Key) → has rs k ≡ true → has (rs ++ ws) k ≡ true
in_first rs ws k h = list_any-append (eq_by_cmp key_cmp k) rs ws ∙ or_left (has rs k) (has ws k) h

pub in_second : (rs ws : List Key) (k : Key) → has ws k ≡ true → has (rs ++ ws) k ≡ true
in_second rs ws k h = list_any-append (eq_by_cmp key_cmp k) rs ws ∙ or_right (has rs k) (has ws k) h

-- a list that passes a test somewhere has a key that passes it
some_key : (p : Key → Bool) (ks : List Key) → list_any p ks ≡ true → (k : Key) × (has ks k ≡ true) × (p k ≡ true)
some_key p [] h = absurd (false≢true h)
some_key p (x ∷ ks) h = go (or_cases (p x) (list_any p ks) h) (λ rest. some_key p ks rest)
  where
    go : (p x ≡ true) ⊎ (list_any p ks ≡ true) → (list_any p ks ≡ true → (k : Key) × (has ks k ≡ true) × (p k ≡ true)) → (k : Key) × (has (x ∷ ks) k ≡ true) × (p k ≡ true)
    go (inl here) more = (x, or_left _ (has ks x) (same_key-self x), here)
    go (inr there) more = let found = more there in (found.0, or_right (eq_by_cmp key_cmp found.0 x) _ found.1, found.2)

-- and a key that passes it makes the list pass
key_passes : (p : Key → Bool) (ks : List Key) (k : Key) → has ks k ≡ true → p k ≡ true → list_any p ks ≡ true
key_passes p [] k h q = absurd (false≢true h)
key_passes p (x ∷ ks) k h q = go (or_cases (eq_by_cmp key_cmp k x) (has ks k) h) (λ rest. key_passes p ks k rest q)
  where
    go : (eq_by_cmp key_cmp k x ≡ true) ⊎ (has ks k ≡ true) → (has ks k ≡ true → list_any p ks ≡ true) → list_any p (x ∷ ks) ≡ true
    go (inl same) more = or_left (p x) (list_any p ks) (subst (λ y. p y ≡ true) (key_cmp_exact k x ((Equal-is (key_cmp k x)).0 same)) q)
    go (inr there) more = or_right (p x) (list_any p ks) (more there)

-- whether two lists have a key in common
abbrev pub meets : List Key → List Key → Bool
meets a b = list_any (has b) a

pub common_key : (a b : List Key) → meets a b ≡ true → (k : Key) × (has a k ≡ true) × (has b k ≡ true)
common_key a b h = some_key (has b) a h

pub meets_at : (a b : List Key) (k : Key) → has a k ≡ true → has b k ≡ true → meets a b ≡ true
meets_at a b k h g = key_passes (has b) a k h g

-- one writes what the other reads or writes, exactly where one of three pairs of sets has a key in common
pub conflict_by_sets : (g h : Sets) → (meets g.writes h.reads ≡ true) ⊎ ((meets g.writes h.writes ≡ true) ⊎ (meets g.reads h.writes ≡ true)) → Conflict g h
conflict_by_sets g h (inl wr) = let c = common_key g.writes h.reads wr in (c.0, inl (c.1, in_first h.reads h.writes c.0 c.2))
conflict_by_sets g h (inr (inl ww)) = let c = common_key g.writes h.writes ww in (c.0, inl (c.1, in_second h.reads h.writes c.0 c.2))
conflict_by_sets g h (inr (inr rw)) = let c = common_key g.reads h.writes rw in (c.0, inr (in_first g.reads g.writes c.0 c.1, c.2))

pub sets_by_conflict : (g h : Sets) → Conflict g h → (meets g.writes h.reads ≡ true) ⊎ ((meets g.writes h.writes ≡ true) ⊎ (meets g.reads h.writes ≡ true))
sets_by_conflict g h (k, inl (w, e)) = elim (of_either h.reads h.writes k e) [
  | inl r ↦ inl (meets_at g.writes h.reads k w r)
  | inr v ↦ inr (inl (meets_at g.writes h.writes k w v))
]
sets_by_conflict g h (k, inr (e, w)) = elim (of_either g.reads g.writes k e) [
  | inl r ↦ inr (inr (meets_at g.reads h.writes k r w))
  | inr v ↦ inr (inl (meets_at g.writes h.writes k v w))
]
