-- Keys that are asked for one after another.
use Rattle.std.proofs.Common.{◌≡◌, ℕ, zero, suc, ◌+◌, ◌≤◌, Bool, true, false, not, ◌&&◌, ◌||◌, List, [], ◌∷◌, Option, None, Some, slice_get, take, length, refl, sym, ap, subst, ◌∙◌}
use Rattle.std.proofs.lemmas.Bool.{false≢true, and_parts}
use Rattle.std.proofs.lemmas.List.{take_all}
use Rattle.std.proofs.lemmas.Option.{none-some, same_Some}
use Rattle.std.specs.declared.cmp.Ordering.{Ordering}
use Rattle.std.specs.declared.cmp.Ordering.TheVariants.{Less, Equal, Greater}
use Rattle.std.specs.Ordering.{is_lt, is_eq}
use Rattle.std.specs.Cmp.{Equal-is}
use Rattle.calvin_types.specs.declared.key.Key.{Key}
use Rattle.calvin_types.specs.Keys.{key_cmp, has, rises, below_all, same_key}
use Rattle.calvin_types.specs.KeyOrder.{key_cmp_exact, has-push, same_key-self}
use Rattle.calvin_types.specs.SameKeys.{equal_keys}
use Rattle.calvin_types.specs.SameKeysLaws.{equal_keys_exact, equal_keys_self}
use Rattle.calvin_types.proofs.Fews.{take_at}
use Rattle.calvin_lock.specs.Queues.{asked}

-- a key that rising keys have later isn't among those before it
below_at : (q : Key) (keys : List Key) (i : ℕ) (k : Key) → below_all q keys ≡ true → slice_get keys i ≡ Some k → is_lt (key_cmp q k) ≡ true
below_at q [] i k below at = absurd (none-some k at)
below_at q (x ∷ keys) zero k below at = subst (λ y. is_lt (key_cmp q y) ≡ true) (same_Some x k at) (and_parts (is_lt (key_cmp q x)) (below_all q keys) below).0
below_at q (x ∷ keys) (suc i) k below at = below_at q keys i k (and_parts (is_lt (key_cmp q x)) (below_all q keys) below).1 at

not_same : (q k : Key) → is_lt (key_cmp q k) ≡ true → same_key k q ≡ false
not_same q k less = go (same_key k q) refl
  where
    go : (b : Bool) → same_key k q ≡ b → same_key k q ≡ false
    go true is = absurd (false≢true (sym (still k) ∙ subst (λ y. is_lt (key_cmp y k) ≡ true) (sym (key_cmp_exact k q ((Equal-is (key_cmp k q)).0 is))) less))
      where
        not_less : (o : Ordering) → is_eq o ≡ true → is_lt o ≡ false
        not_less Less is = absurd (false≢true is)
        not_less Equal is = refl
        not_less Greater is = absurd (false≢true is)

        still : (y : Key) → is_lt (key_cmp y y) ≡ false
        still y = not_less (key_cmp y y) (same_key-self y)
    go false is = is

pub not_earlier : (keys : List Key) (i : ℕ) (k : Key) → rises keys ≡ true → slice_get keys i ≡ Some k → has (take i keys) k ≡ false
not_earlier [] i k rising at = absurd (none-some k at)
not_earlier (x ∷ keys) zero k rising at = refl
not_earlier (x ∷ keys) (suc i) k rising at =
    let parts = and_parts (below_all x keys) (rises keys) rising in
    ap (λ b. b || has (take i keys) k) (not_same x k (below_at x keys i k parts.0 at)) ∙ not_earlier keys i k parts.1 at

-- one key more
module _ (keys except : List Key) (i : ℕ) (key : Key) (at : slice_get keys i ≡ Some key) where
  step : (k : Key) → asked (take (i + 1) keys) except k ≡ ((has (take i keys) k || same_key k key) && not (has except k))
  step k = ap (λ b. b && not (has except k)) (ap (λ l. has l k) (take_at keys i key at) ∙ has-push (take i keys) key k)

  pub asked_before : rises keys ≡ true → asked (take i keys) except key ≡ false
  asked_before rising = ap (λ b. b && not (has except key)) (not_earlier keys i key rising at)

  pub asked_now : has except key ≡ false → asked (take (i + 1) keys) except key ≡ true
  asked_now free = step key ∙ (λ j. (has (take i keys) key || same_key-self key j) && not (free j)) ∙ either (has (take i keys) key)
    where
      either : (b : Bool) → ((b || true) && true) ≡ true
      either true = refl
      either false = refl

  pub asked_other : (k : Key) → equal_keys key k ≡ false → asked (take (i + 1) keys) except k ≡ asked (take i keys) except k
  asked_other k other = step k ∙ ap (λ b. (has (take i keys) k || b) && not (has except k)) (apart (same_key k key) refl) ∙ ap (λ b. b && not (has except k)) (or_none (has (take i keys) k))
    where
      or_none : (b : Bool) → (b || false) ≡ b
      or_none true = refl
      or_none false = refl

      apart : (b : Bool) → same_key k key ≡ b → same_key k key ≡ false
      apart true is = absurd (false≢true (sym other ∙ ap (equal_keys key) (key_cmp_exact k key ((Equal-is (key_cmp k key)).0 is)) ∙ equal_keys_self key))
      apart false is = is

  pub asked_apart : has except key ≡ false → (k : Key) → asked (take (i + 1) keys) except k ≡ false → equal_keys key k ≡ false
  asked_apart free k unasked = go (equal_keys key k) refl
    where
      go : (b : Bool) → equal_keys key k ≡ b → equal_keys key k ≡ false
      go true same = absurd (false≢true (sym unasked ∙ ap (asked (take (i + 1) keys) except) (sym (equal_keys_exact key k same)) ∙ asked_now free))
      go false apart = apart

  pub asked_passed : has except key ≡ true → (k : Key) → asked (take (i + 1) keys) except k ≡ asked (take i keys) except k
  asked_passed there k = go (equal_keys key k) refl
    where
      none : (l : List Key) → asked l except key ≡ false
      none l = ap (λ b. has l key && not b) there ∙ both (has l key)
        where
          both : (b : Bool) → (b && false) ≡ false
          both true = refl
          both false = refl

      go : (b : Bool) → equal_keys key k ≡ b → asked (take (i + 1) keys) except k ≡ asked (take i keys) except k
      go true same = subst (λ y. asked (take (i + 1) keys) except y ≡ asked (take i keys) except y) (equal_keys_exact key k same) (none (take (i + 1) keys) ∙ sym (none (take i keys)))
      go false other = asked_other k other

pub asked_all : (keys except : List Key) (i : ℕ) → length keys ≤ i → (k : Key) → asked (take i keys) except k ≡ asked keys except k
asked_all keys except i past k = ap (λ l. asked l except k) (take_all i keys past)

-- a key that stands among these is asked for, unless it is one of the others
pub asked_whole : (keys except : List Key) (i : ℕ) (key : Key) → slice_get keys i ≡ Some key → has except key ≡ false → asked keys except key ≡ true
asked_whole keys except i key at free = (λ j. has keys key && not (free j)) ∙ ap (λ b. b && true) (stands keys i at)
  where
    stands : (ks : List Key) (n : ℕ) → slice_get ks n ≡ Some key → has ks key ≡ true
    stands [] n at = absurd (none-some key at)
    stands (x ∷ ks) zero at = ap (λ b. b || has ks key) (subst (λ y. same_key key y ≡ true) (sym (same_Some x key at)) (same_key-self key))
    stands (x ∷ ks) (suc n) at = ap (λ b. same_key key x || b) (stands ks n at) ∙ either (same_key key x)
      where
        either : (b : Bool) → (b || true) ≡ true
        either true = refl
        either false = refl

-- so a key that isn't asked for is another one
pub unasked_apart : (keys except : List Key) (i : ℕ) (key : Key) → slice_get keys i ≡ Some key → has except key ≡ false → (k : Key) → asked keys except k ≡ false → equal_keys key k ≡ false
unasked_apart keys except i key at free k unasked = go (equal_keys key k) refl
  where
    go : (b : Bool) → equal_keys key k ≡ b → equal_keys key k ≡ false
    go true same = absurd (false≢true (sym unasked ∙ ap (asked keys except) (sym (equal_keys_exact key k same)) ∙ asked_whole keys except i key at free))
    go false apart = apart

-- of what was made for some keys nothing is left where first those that are written are gone, and then those that are read
pub gone_again : {X : Type 0} (key : Key) (writes reads : List Key) (made between now : Option X) → (asked writes [] key ≡ false → asked reads writes key ≡ false → made ≡ None)
    → (made ≡ None → between ≡ None) → (between ≡ None → now ≡ None) → (has writes key ≡ true → between ≡ None) → (has reads key ≡ true → now ≡ None) → now ≡ None
gone_again key writes reads made between now others first second written read = go (has writes key) refl (has reads key) refl
  where
    go : (w : Bool) → has writes key ≡ w → (r : Bool) → has reads key ≡ r → now ≡ None
    go true is r either = second (written is)
    go false unwritten true is = read is
    go false unwritten false unread = second (first (others (ap (λ b. b && true) unwritten) (ap (λ b. b && not (has writes key)) unread)))
