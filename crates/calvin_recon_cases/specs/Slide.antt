-- An application of the tests, whose sets move on with every look. All keys are of table 0.
--     greatest n rows      the greatest key below n that has a row
--     beside found      the keys that are read then
--     slide      each request reads the greatest key up to 30 that has a row and the key after it, or else the key 0
--     slide_lawful      it keeps the laws of applications
use Rattle.std.specs.Prelude.{◌≡◌, ℕ, zero, suc, ◌+◌, Bool, true, false, ◌||◌, if◌then◌else◌, List, [], ◌∷◌, Option, Some, None, refl}
use Rattle.std.specs.Option.{is_some}
use Rattle.std.specs.FinMap as map
use Rattle.std.proofs.Common.{ap, sym, ◌∙◌, cond, lit≤}
use Rattle.std.proofs.lemmas.Bool.{false≢true}
use Rattle.calvin_types.specs.declared.key.Key.{Key}
use Rattle.calvin_types.specs.declared.key_set.Sets.{Sets}
use Rattle.calvin_types.specs.Keys.{key_cmp, has, same_key}
use Rattle.calvin_types.specs.KeyOrder.{has-alike, same_key-self}
use Rattle.calvin_app.specs.Kv.{key_of}
use Rattle.calvin_app.specs.Meaning.{Meaning, IsLawful, IsBounded}
use Rattle.calvin_app.specs.Rows.{Rows, view}
use Rattle.calvin_app.specs.RowLaws.{get-seen}

unfoldable pub greatest : ℕ → Rows ℕ → Option ℕ
greatest zero rows = None
greatest (suc n) rows = if is_some (map.get rows (key_of n)) then Some n else greatest n rows

abbrev pub beside : Option ℕ → List Key
beside None = key_of 0 ∷ []
beside (Some m) = key_of m ∷ key_of (m + 1) ∷ []

-- what the application needs and does
abbrev pub slide : Meaning ℕ ℕ ℕ
slide = record {
  needs = λ a rows. record { reads = beside (greatest 31 rows); writes = [] };
  outcome = λ a rows. (0, []);
}

-- a key without a row has none in a view
unseen : (rows : Rows ℕ) (ks : List Key) (k : Key) → is_some (map.get rows k) ≡ false → is_some (map.get (view rows ks) k) ≡ false
unseen rows ks k none = ap is_some (map.get-retain_keys rows (has ks) k (λ x h. has-alike ks k x h)) ∙ elim (has ks k) as (λ b. is_some (cond b (map.get rows k) None) ≡ false) [ true ↦ none | false ↦ refl ]

pub none_below : (rows : Rows ℕ) → greatest 0 rows ≡ None
unfolding greatest
none_below rows = refl

-- a key with a row is the greatest below the next one, and one without a row changes nothing
pub found_below : (n : ℕ) (rows : Rows ℕ) → is_some (map.get rows (key_of n)) ≡ true → greatest (suc n) rows ≡ Some n
unfolding greatest
found_below n rows is = ap (λ b. if b then Some n else greatest n rows) is

pub passed_below : (n : ℕ) (rows : Rows ℕ) → is_some (map.get rows (key_of n)) ≡ false → greatest (suc n) rows ≡ greatest n rows
unfolding greatest
passed_below n rows is = ap (λ b. if b then Some n else greatest n rows) is

-- in a view whose keys have it the greatest key stays
stays : (n : ℕ) (rows : Rows ℕ) (ks : List Key) → ((m : ℕ) → greatest n rows ≡ Some m → has ks (key_of m) ≡ true) → greatest n (view rows ks) ≡ greatest n rows
stays zero rows ks there = none_below (view rows ks) ∙ sym (none_below rows)
stays (suc n) rows ks there = go (is_some (map.get rows (key_of n))) refl (λ below. stays n rows ks below) where
  go : (b : Bool) → is_some (map.get rows (key_of n)) ≡ b → (((m : ℕ) → greatest n rows ≡ Some m → has ks (key_of m) ≡ true) → greatest n (view rows ks) ≡ greatest n rows) → greatest (suc n) (view rows ks) ≡ greatest (suc n) rows
  go true is rest = found_below n (view rows ks) (ap is_some (get-seen rows ks (key_of n) (there n (found_below n rows is))) ∙ is) ∙ sym (found_below n rows is)
  go false is rest = passed_below n (view rows ks) (unseen rows ks (key_of n) is) ∙ rest (λ m so. there m (passed_below n rows is ∙ so)) ∙ sym (passed_below n rows is)

has-beside : (found : Option ℕ) (m : ℕ) → found ≡ Some m → has (beside found) (key_of m) ≡ true
has-beside found m so = ap (λ o. has (beside o) (key_of m)) so ∙ ap (λ b. b || (same_key (key_of m) (key_of (m + 1)) || false)) (same_key-self (key_of m))

beside_bounded : (found : Option ℕ) → IsBounded 2 0 (beside found)
beside_bounded None = record { number = lit≤ tt; tables = (lit≤ tt, tt) }
beside_bounded (Some m) = record { number = lit≤ tt; tables = (lit≤ tt, (lit≤ tt, tt)) }

pub slide_lawful : IsLawful slide (λ _. true) 2 0
slide_lawful = record {
  writes_within_the_sets = λ a v k h. h;
  sets_follow_from_their_reads = λ a rows. ap (λ o. record { reads = beside o; writes = [] }) (stays 31 rows (beside (greatest 31 rows)) (λ m so. has-beside (greatest 31 rows) m so));
  independent_sets_are_fixed = λ a v w h. absurd (false≢true (sym h));
  bounded_reads = λ a v. beside_bounded (greatest 31 v);
  bounded_writes = λ a v. record { number = lit≤ tt; tables = tt };
  at_most_sixteen = lit≤ tt;
}
