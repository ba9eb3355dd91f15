-- Lemmas: whether two keys are the same is an equivalence, and it is what their order says.
--     equal_keys_exact, equal_keys_self      keys for which the test holds are one;  it holds for each key and itself
--     equal_keys_is_same_key      by their fields two keys are one exactly where they are by their order
--     equal_keys_equiv, same_keys_equiv, same_keys_per      both tests are equivalences
use Rattle.std.specs.Prelude.{◌≡◌, Bool, true, false, ◌&&◌, ◌==◌, refl}
use Rattle.std.specs.Bool.{one_answer}
use Rattle.std.specs.Cmp.{IsEquivalence, IsPartialEquivalence, Equal-is, partial_equiv_from_equiv}
use Rattle.std.specs.Cmp.Lexicographic.{lists_equiv}
use Rattle.std.proofs.Common.{sym, ap, ◌∙◌}
use Rattle.std.proofs.lemmas.Bool.{eqb-true, eq-eqb, false≢true}
use Rattle.calvin_types.specs.declared.key.Key.{Key}
use Rattle.calvin_types.specs.Exact.{first, second}
use Rattle.calvin_types.specs.KeyOrder.{key_cmp_exact, same_key-self}
use Rattle.calvin_types.specs.Keys.{key_cmp, same_key}
use Rattle.calvin_types.specs.SameKeys.{equal_keys, same_keys}

pub equal_keys_exact : (a b : Key) → equal_keys a b ≡ true → a ≡ b
equal_keys_exact a b h = λ i. record { table = eqb-true a.table b.table (first _ _ h) i; id = eqb-true a.id b.id (second (a.table == b.table) _ h) i }

pub equal_keys_self : (a : Key) → equal_keys a a ≡ true
equal_keys_self a = (λ i. eq-eqb a.table a.table refl i && eq-eqb a.id a.id refl i)

pub equal_keys_is_same_key : (a b : Key) → equal_keys a b ≡ same_key a b
equal_keys_is_same_key a b =
    one_answer (equal_keys a b) (same_key a b)
    (equal_keys_exact a b, λ e. ap (λ x. equal_keys a x) (sym e) ∙ equal_keys_self a)
    (λ h. key_cmp_exact a b ((Equal-is (key_cmp a b)).0 h), λ e. ap (λ x. same_key a x) (sym e) ∙ same_key-self a)

-- it holds both ways or neither
turned : (a b : Key) → (c : Bool) → equal_keys a b ≡ c → (d : Bool) → equal_keys b a ≡ d → equal_keys a b ≡ equal_keys b a
turned a b true p true q = p ∙ sym q
turned a b true p false q = absurd (false≢true (sym q ∙ ap (λ x. equal_keys b x) (equal_keys_exact a b p) ∙ equal_keys_self b))
turned a b false p true q = absurd (false≢true (sym p ∙ ap (λ x. equal_keys a x) (equal_keys_exact b a q) ∙ equal_keys_self a))
turned a b false p false q = p ∙ sym q

pub equal_keys_equiv : IsEquivalence equal_keys
equal_keys_equiv = record {
  refl = equal_keys_self;
  symm = λ a b. turned a b (equal_keys a b) refl (equal_keys b a) refl;
  congr = λ a b z h. ap (λ x. equal_keys x z) (equal_keys_exact a b h);
}

pub same_keys_equiv : IsEquivalence same_keys
same_keys_equiv = lists_equiv equal_keys_equiv

pub same_keys_per : IsPartialEquivalence same_keys
same_keys_per = partial_equiv_from_equiv same_keys_equiv
