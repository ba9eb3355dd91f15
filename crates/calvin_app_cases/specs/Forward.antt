-- An application of the tests, whose writes depend on a row. All keys are of table 0.
--     named a rows      the key that the row of the key a names; no row names the key 0
--     forward      the request a reads the row of a; it tells the row of the key that is named there, and writes a under it
--     forward_lawful      it keeps the laws of applications
use Rattle.std.specs.Prelude.{◌≡◌, ℕ, true, false, ◌||◌, [], ◌∷◌, Option, unwrap_or, refl}
use Rattle.std.specs.FinMap as map
use Rattle.std.specs.declared.cmp.Ordering.TheVariants.{Less, Equal, Greater}
use Rattle.std.proofs.Common.{ap, sym, ◌∙◌, lit≤}
use Rattle.std.proofs.lemmas.Bool.{false≢true}
use Rattle.calvin_types.specs.declared.key.Key.{Key}
use Rattle.calvin_types.specs.Keys.{key_cmp, has, same_key, by_order, insert_key}
use Rattle.calvin_types.specs.KeyOrder.{same_key-self}
use Rattle.calvin_app.specs.Kv.{key_of}
use Rattle.calvin_app.specs.Meaning.{Meaning, IsLawful, IsBounded}
use Rattle.calvin_app.specs.Rows.{Rows, view}
use Rattle.calvin_app.specs.RowLaws.{get-seen}

abbrev pub named : ℕ → Rows ℕ → Key
named a rows = key_of (unwrap_or (map.get rows (key_of a)) 0)

-- what the application needs and does
abbrev pub forward : Meaning ℕ ℕ ℕ
forward = record {
  needs = λ a rows. record { reads = insert_key (named a rows) (key_of a ∷ []); writes = named a rows ∷ [] };
  outcome = λ a rows. (unwrap_or (map.get rows (named a rows)) 0, (named a rows, a) ∷ []);
}

-- whatever key is put beside a key, the latter is there
has-beside : (q k : Key) → has (insert_key q (k ∷ [])) k ≡ true
has-beside q k = elim (key_cmp q k) as (λ o. has (by_order o (q ∷ k ∷ []) (k ∷ []) (k ∷ q ∷ [])) k ≡ true) [
  | Less ↦ ap (λ b. same_key k q || (b || false)) (same_key-self k) ∙ elim (same_key k q) as (λ b. (b || true) ≡ true) [ true ↦ refl | false ↦ refl ]
  | Equal ↦ ap (λ b. b || false) (same_key-self k)
  | Greater ↦ ap (λ b. b || (same_key k q || false)) (same_key-self k)
]

same_named : (a : ℕ) (rows : Rows ℕ) → named a (view rows (forward.needs a rows).reads) ≡ named a rows
same_named a rows = ap (λ (found : Option ℕ). key_of (unwrap_or found 0)) (get-seen rows (forward.needs a rows).reads (key_of a) (has-beside (named a rows) (key_of a)))

-- two keys of table 0, or one where they are the same
two_bounded : (i j : ℕ) → IsBounded 2 0 (insert_key (key_of i) (key_of j ∷ []))
two_bounded i j = elim (key_cmp (key_of i) (key_of j)) as (λ o. IsBounded 2 0 (by_order o (key_of i ∷ key_of j ∷ []) (key_of j ∷ []) (key_of j ∷ key_of i ∷ []))) [
  | Less ↦ record { number = lit≤ tt; tables = (lit≤ tt, (lit≤ tt, tt)) }
  | Equal ↦ record { number = lit≤ tt; tables = (lit≤ tt, tt) }
  | Greater ↦ record { number = lit≤ tt; tables = (lit≤ tt, (lit≤ tt, tt)) }
]

pub forward_lawful : IsLawful forward (λ _. true) 2 0
forward_lawful = record {
  writes_within_the_sets = λ a v k h. h;
  sets_follow_from_their_reads = λ a rows. ap (λ (q : Key). record { reads = insert_key q (key_of a ∷ []); writes = q ∷ [] }) (same_named a rows);
  independent_sets_are_fixed = λ a v w h. absurd (false≢true (sym h));
  bounded_reads = λ a v. two_bounded (unwrap_or (map.get v (key_of a)) 0) a;
  bounded_writes = λ a v. record { number = lit≤ tt; tables = (lit≤ tt, tt) };
  at_most_sixteen = lit≤ tt;
}
