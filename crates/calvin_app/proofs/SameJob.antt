-- Requests that compare equal are one, where their arguments are; so are views where rows are; and each equals itself.
use Rattle.std.proofs.Common.{◌≡◌, Bool, true, false, ◌&&◌, List, [], ◌∷◌, refl, ap, sym, ◌∙◌}
use Rattle.std.specs.Prelude.{◌==◌, MatchBool}
use Rattle.std.specs.Cmp.{IsEquivalence}
use Rattle.std.specs.Cmp.Lexicographic.{pointwise}
use Rattle.std.specs.FinMap as map
use Rattle.std.proofs.lemmas.Bool.{eqb-true, eq-eqb, false≢true}
use Rattle.calvin_types.specs.declared.key.Key.{Key}
use Rattle.calvin_types.specs.declared.txn.Txn.{Txn}
use Rattle.calvin_types.specs.Exact.{first, second, pointwise_exact}
use Rattle.calvin_types.specs.SameKeys.{equal_keys, same_keys}
use Rattle.calvin_types.specs.SameKeysLaws.{equal_keys_exact, equal_keys_self, same_keys_equiv}
use Rattle.calvin_app.specs.declared.job.Job.{Job}
use Rattle.calvin_app.specs.Meaning.{IsExact}
use Rattle.calvin_app.specs.Rows.{Rows}

module _ {Args : Type 0} (E : Args → Args → Bool) where
  -- what comparing two requests answers
  abbrev pub same_txn : Txn Args → Txn Args → Bool
  same_txn a b = ((a.id.client == b.id.client) && (a.id.number == b.id.number)) && ((a.attempt == b.attempt) && (E a.args b.args && (same_keys a.sets.reads b.sets.reads && same_keys a.sets.writes b.sets.writes)))

  pub txn_exact : IsExact E → (a b : Txn Args) → same_txn a b ≡ true → a ≡ b
  txn_exact exact a b h =
      let client : Bool = a.id.client == b.id.client in
      let number : Bool = a.id.number == b.id.number in
      let attempt : Bool = a.attempt == b.attempt in
      let reads : Bool = same_keys a.sets.reads b.sets.reads in
      let writes : Bool = same_keys a.sets.writes b.sets.writes in
      let args : Bool = E a.args b.args in
      let id : (client && number) ≡ true = first (client && number) (attempt && (args && (reads && writes))) h in
      let rest : (attempt && (args && (reads && writes))) ≡ true = second (client && number) (attempt && (args && (reads && writes))) h in
      let asked : (args && (reads && writes)) ≡ true = second attempt (args && (reads && writes)) rest in
      let sets : (reads && writes) ≡ true = second args (reads && writes) asked in
      λ i. record {
        id = record { client = eqb-true a.id.client b.id.client (first client number id) i; number = eqb-true a.id.number b.id.number (second client number id) i };
        attempt = eqb-true a.attempt b.attempt (first attempt (args && (reads && writes)) rest) i;
        args = exact a.args b.args (first args (reads && writes) asked) i;
        sets = record { reads = pointwise_exact equal_keys equal_keys_exact a.sets.reads b.sets.reads (first reads writes sets) i; writes = pointwise_exact equal_keys equal_keys_exact a.sets.writes b.sets.writes (second reads writes sets) i };
      }

  pub txn_self : IsEquivalence E → (a : Txn Args) → same_txn a a ≡ true
  txn_self laws a = λ i.
      (eq-eqb a.id.client a.id.client refl i && eq-eqb a.id.number a.id.number refl i)
      && (eq-eqb a.attempt a.attempt refl i && (laws.refl a.args i && (same_keys_equiv.refl a.sets.reads i && same_keys_equiv.refl a.sets.writes i)))

module _ {Row : Type 0} (E : Row → Row → Bool) where
  -- what comparing two entries answers
  abbrev pub same_entry : Key × Row → Key × Row → Bool
  same_entry a b = equal_keys a.0 b.0 && E a.1 b.1

  entry_exact : IsExact E → (a b : Key × Row) → same_entry a b ≡ true → a ≡ b
  entry_exact exact a b h = λ i. (equal_keys_exact a.0 b.0 (first _ _ h) i, exact a.1 b.1 (second (equal_keys a.0 b.0) _ h) i)

  pub view_exact : IsExact E → (v w : Rows Row) → pointwise same_entry (map.entries v) (map.entries w) ≡ true → v ≡ w
  view_exact exact v w h = map.same_entries_map v w (pointwise_exact _ (entry_exact exact) (map.entries v) (map.entries w) h)

  pub view_self : IsEquivalence E → (es : List (Key × Row)) → pointwise same_entry es es ≡ true
  view_self laws [] = refl
  view_self laws (e ∷ es) = λ i. (equal_keys_self e.0 i && laws.refl e.1 i) && view_self laws es i

-- two jobs of one place are one where both tests hold, and are not where one fails
module _ {Args Row : Type 0} (E : Args → Args → Bool) (F : Row → Row → Bool) (a b : Job Args Row) where
  pub same_views : IsExact E → IsExact F → IsEquivalence F → same_txn E a.txn b.txn ≡ true → (t : Bool) → t ≡ pointwise (same_entry F) (map.entries a.view) (map.entries b.view) → a.place ≡ b.place
      → MatchBool t (a ≡ b) (a ≡ b → ⊥)
  same_views args rows laws txn true is place =
      let same = txn_exact E args a.txn b.txn txn in
      let seen = view_exact F rows a.view b.view (sym is) in
      λ i. record { place = place i; txn = same i; view = seen i }
  same_views args rows laws txn false is place = λ same. false≢true (is ∙ ap (λ (j : Job Args Row). pointwise (same_entry F) (map.entries a.view) (map.entries j.view)) (sym same) ∙ view_self F laws (map.entries a.view))

  pub other_txn : IsEquivalence E → same_txn E a.txn b.txn ≡ false → a ≡ b → ⊥
  other_txn laws differ same = false≢true (sym differ ∙ ap (λ (j : Job Args Row). same_txn E a.txn j.txn) (sym same) ∙ txn_self E laws a.txn)
