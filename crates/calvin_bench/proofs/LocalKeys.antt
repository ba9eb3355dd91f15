-- The keys that a partition stores, and the view that is gathered for a request.
use Rattle.std.proofs.Common.{◌≡◌, Bool, true, false, cond, ◌||◌, List, [], ◌∷◌, inl, inr, refl, sym, ap, ◌∙◌, Option, Some, None}
use Rattle.std.specs.Ordering.{eq_by_cmp}
use Rattle.std.specs.List.{list_any}
use Rattle.std.proofs.lemmas.Bool.{or_left, or_right}
use Rattle.std.proofs.lemmas.List.Folds.{list_any-append}
use Rattle.calvin_types.specs.declared.key.Key.{Key}
use Rattle.calvin_types.specs.declared.txn.Txn.{Txn}
use Rattle.calvin_types.specs.Keys.{key_cmp, has}
use Rattle.calvin_types.specs.Participants.{Site, is_local, local_keys, has_local_key}
use Rattle.calvin_bench.specs.Turns.{Writes, Uses, ConflictsHere}
use Rattle.calvin_bench.proofs.KeyRows.{same_key}

pub has_local : (site : Site) (keys : List Key) (k : Key) → is_local site k ≡ true → has keys k ≡ true → has (local_keys site keys) k ≡ true
has_local site [] k l h = h
has_local site (x ∷ keys) k l h = go (is_local site x) refl (eq_by_cmp key_cmp k x) refl (has_local site keys k l)
  where
    go : (b : Bool) → is_local site x ≡ b → (c : Bool) → eq_by_cmp key_cmp k x ≡ c → (has keys k ≡ true → has (local_keys site keys) k ≡ true)
        → has (cond b (x ∷ local_keys site keys) (local_keys site keys)) k ≡ true
    go true n true e rest = ap (λ b. b || has (local_keys site keys) k) e
    go true n false e rest = ap (λ b. b || has (local_keys site keys) k) e ∙ rest (ap (λ b. b || has keys k) (sym e) ∙ h)
    go false n true e rest = let is = ap (is_local site) (same_key k x e) in absurd (cc)
    go false n false e rest = rest (ap (λ b. b || has keys k) (sym e) ∙ h)

-- a key of the partition among the keys
pub any_local : (site : Site) (keys : List Key) (k : Key) → is_local site k ≡ true → has keys k ≡ true → list_any (is_local site) keys ≡ true
any_local site [] k l h = h
any_local site (x ∷ keys) k l h = go (is_local site x) refl (eq_by_cmp key_cmp k x) refl (any_local site keys k l)
  where
    go : (b : Bool) → is_local site x ≡ b → (c : Bool) → eq_by_cmp key_cmp k x ≡ c → (has keys k ≡ true → list_any (is_local site) keys ≡ true) → (b || list_any (is_local site) keys) ≡ true
    go true n c e rest = refl
    go false n true e rest = let is = ap (is_local site) (same_key k x e) in absurd (cc)
    go false n false e rest = rest (ap (λ b. b || has keys k) (sym e) ∙ h)

module _ {Args : Type 0} where
  pub write_uses : (t : Txn Args) (k : Key) → Writes t k → Uses t k
  write_uses t k w = list_any-append (eq_by_cmp key_cmp k) t.sets.reads t.sets.writes ∙ or_right _ _ w

  pub read_uses : (t : Txn Args) (k : Key) → has t.sets.reads k ≡ true → Uses t k
  read_uses t k r = list_any-append (eq_by_cmp key_cmp k) t.sets.reads t.sets.writes ∙ or_left _ _ r

  pub conflict_local : (site : Site) (t u : Txn Args) → ConflictsHere site t u → has_local_key site t ≡ true
  conflict_local site t u (k, l, inl (w, h)) = any_local site _ k l (write_uses t k w)
  conflict_local site t u (k, l, inr (h, w)) = any_local site _ k l h

pub is_there : {X : Type 0} (o : Option X) → ¬ (o ≡ None) → (x : X) × (o ≡ Some x)
is_there None h = absurd (h refl)
is_there (Some x) h = (x, refl)
