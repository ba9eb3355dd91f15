-- What comparing two requests tells. The first part is that of calvin_app's proofs (SameJob), which isn't public there.
use Rattle.std.proofs.Common.{◌≡◌, Bool, true, false, ◌&&◌, refl, ap, sym, ◌∙◌}
use Rattle.std.specs.Prelude.{◌==◌, MatchBool}
use Rattle.std.specs.Cmp.{IsEquivalence}
use Rattle.std.proofs.lemmas.Bool.{eqb-true, eq-eqb, false≢true}
use Rattle.calvin_types.specs.declared.txn.Txn.{Txn}
use Rattle.calvin_types.specs.Exact.{first, second, pointwise_exact}
use Rattle.calvin_types.specs.SameKeys.{equal_keys, same_keys}
use Rattle.calvin_types.specs.SameKeysLaws.{equal_keys_exact, same_keys_equiv}
use Rattle.calvin_app.specs.Meaning.{IsExact}

module _ {Args : Type 0} (E : Args → Args → Bool) where
  -- what comparing two requests answers
  abbrev pub same_txn : Txn Args → Txn Args → Bool
  same_txn a b = ((a.id.client == b.id.client) && (a.id.number == b.id.number)) && ((a.attempt == b.attempt) && (E a.args b.args && (same_keys a.sets.reads b.sets.reads && same_keys a.sets.writes b.sets.writes)))

  pub txn_exact : IsExact E → (a b : Txn Args) → same_txn a b ≡ true → a ≡ b
  txn_exact exact a b h =
      let client : Bool = a.id.client == b.id.client in
      let number : Bool = a.id.number == b.id.number in
      let attempt : Bool = a.attempt == b.attempt in
      let reads : Bool = same_keys a.sets.reads b.sets.reads in
      let writes : Bool = same_keys a.sets.writes b.sets.writes in
      let args : Bool = E a.args b.args in
      let id : (client && number) ≡ true = first (client && number) (attempt && (args && (reads && writes))) h in
      let rest : (attempt && (args && (reads && writes))) ≡ true = second (client && number) (attempt && (args && (reads && writes))) h in
      let asked : (args && (reads && writes)) ≡ true = second attempt (args && (reads && writes)) rest in
      let sets : (reads && writes) ≡ true = second args (reads && writes) asked in
      λ i. record {
        id = record { client = eqb-true a.id.client b.id.client (first client number id) i; number = eqb-true a.id.number b.id.number (second client number id) i };
        attempt = eqb-true a.attempt b.attempt (first attempt (args && (reads && writes)) rest) i;
        args = exact a.args b.args (first args (reads && writes) asked) i;
        sets = record { reads = pointwise_exact equal_keys equal_keys_exact a.sets.reads b.sets.reads (first reads writes sets) i; writes = pointwise_exact equal_keys equal_keys_exact a.sets.writes b.sets.writes (second reads writes sets) i };
      }

  pub txn_self : IsEquivalence E → (a : Txn Args) → same_txn a a ≡ true
  txn_self laws a = λ i.
      (eq-eqb a.id.client a.id.client refl i && eq-eqb a.id.number a.id.number refl i)
      && (eq-eqb a.attempt a.attempt refl i && (laws.refl a.args i && (same_keys_equiv.refl a.sets.reads i && same_keys_equiv.refl a.sets.writes i)))

pub told_same : {Args : Type 0} (E : Args → Args → Bool) → IsExact E → IsEquivalence E → (a b : Txn Args) (t : Bool) → t ≡ same_txn E a b → MatchBool t (a ≡ b) (a ≡ b → ⊥)
told_same E exact laws a b true is = txn_exact E exact a b (sym is)
told_same E exact laws a b false is = λ same. false≢true (is ∙ ap (same_txn E a) (sym same) ∙ txn_self E laws a)
