-- What comparing two batches, views or sets tells.
--     batches_told, views_told, sets_told      whether they are the same
use Rattle.std.proofs.Common.{◌≡◌, Bool, true, false, ◌&&◌, List, [], ◌∷◌, refl, ap, sym, ◌∙◌}
use Rattle.std.specs.Prelude.{MatchBool}
use Rattle.std.specs.Cmp.{IsEquivalence}
use Rattle.std.specs.Cmp.Lexicographic.{pointwise}
use Rattle.std.specs.FinMap as map
use Rattle.std.proofs.lemmas.Bool.{false≢true}
use Rattle.calvin_types.specs.declared.key.Key.{Key}
use Rattle.calvin_types.specs.declared.key_set.Sets.{Sets}
use Rattle.calvin_types.specs.declared.txn.Txn.{Txn}
use Rattle.calvin_types.specs.Exact.{first, second, pointwise_exact}
use Rattle.calvin_types.specs.SameKeys.{equal_keys, same_keys}
use Rattle.calvin_types.specs.SameKeysLaws.{equal_keys_exact, equal_keys_self, same_keys_equiv}
use Rattle.calvin_app.specs.Meaning.{IsExact}
use Rattle.calvin_book.proofs.Same.{same_txn, txn_exact, txn_self}
use Rattle.calvin_app.specs.Rows.{Rows}

-- by a test of which it is known when it holds
told : {X : Type 0} (a b : X) (t u : Bool) → t ≡ u → (u ≡ true → a ≡ b) → (a ≡ b → u ≡ true) → MatchBool t (a ≡ b) (a ≡ b → ⊥)
told a b true u is exact self = exact (sym is)
told a b false u is exact self = λ same. false≢true (is ∙ self same)

pointwise_self : {X : Type 0} (E : X → X → Bool) → ((x : X) → E x x ≡ true) → (xs : List X) → pointwise E xs xs ≡ true
pointwise_self E self [] = refl
pointwise_self E self (x ∷ xs) = λ i. self x i && pointwise_self E self xs i

module _ {Args : Type 0} (E : Args → Args → Bool) where
  pub batches_told : IsExact E → IsEquivalence E → (a b : List (Txn Args)) (t : Bool) → t ≡ pointwise (same_txn E) a b → MatchBool t (a ≡ b) (a ≡ b → ⊥)
  batches_told exact laws a b t is = told a b t (pointwise (same_txn E) a b) is (pointwise_exact (same_txn E) (txn_exact E exact) a b)
      (λ same. ap (pointwise (same_txn E) a) (sym same) ∙ pointwise_self (same_txn E) (txn_self E laws) a)

module _ {Row : Type 0} (E : Row → Row → Bool) where
  abbrev same_entry : Key × Row → Key × Row → Bool
  same_entry a b = equal_keys a.0 b.0 && E a.1 b.1

  entry_exact : IsExact E → (a b : Key × Row) → same_entry a b ≡ true → a ≡ b
  entry_exact exact a b h = λ i. (equal_keys_exact a.0 b.0 (first _ _ h) i, exact a.1 b.1 (second (equal_keys a.0 b.0) _ h) i)

  pub views_told : IsExact E → IsEquivalence E → (v w : Rows Row) (t : Bool) → t ≡ pointwise same_entry (map.entries v) (map.entries w) → MatchBool t (v ≡ w) (v ≡ w → ⊥)
  views_told exact laws v w t is = told v w t (pointwise same_entry (map.entries v) (map.entries w)) is
      (λ h. map.same_entries_map v w (pointwise_exact same_entry (entry_exact exact) (map.entries v) (map.entries w) h))
      (λ same. ap (λ w. pointwise same_entry (map.entries v) (map.entries w)) (sym same) ∙ pointwise_self same_entry (λ e i. equal_keys_self e.0 i && laws.refl e.1 i) (map.entries v))

-- what comparing two declared sets answers
abbrev same_sets : Sets → Sets → Bool
same_sets a b = same_keys a.reads b.reads && same_keys a.writes b.writes

pub sets_told : (a b : Sets) (t : Bool) → t ≡ same_sets a b → MatchBool t (a ≡ b) (a ≡ b → ⊥)
sets_told a b t is = told a b t (same_sets a b) is
    (λ h i. record {
      reads = pointwise_exact equal_keys equal_keys_exact a.reads b.reads (first (same_keys a.reads b.reads) (same_keys a.writes b.writes) h) i;
      writes = pointwise_exact equal_keys equal_keys_exact a.writes b.writes (second (same_keys a.reads b.reads) (same_keys a.writes b.writes) h) i;
    })
    (λ same. ap (same_sets a) (sym same) ∙ (λ i. same_keys_equiv.refl a.reads i && same_keys_equiv.refl a.writes i))
