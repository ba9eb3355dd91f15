-- Writes of distinct keys: within a set they are no more than its keys, and each has another key than those before it.
use Rattle.std.proofs.Common.{◌≡◌, ℕ, ◌+◌, ◌≤◌, ◌||◌, Bool, true, false, List, [], ◌∷◌, ◌++◌, length, take, drop, slice_get, Some, length-append, take-append-drop, refl, sym, ap, ◌∙◌, arith}
use Rattle.std.specs.Prelude.{if◌then◌else◌}
use Rattle.std.specs.Cmp.{Equal-is}
use Rattle.std.proofs.Math.Bool.{or-false, or-true}
use Rattle.std.proofs.lemmas.Bool.{false≢true, eqb-true}
use Rattle.calvin_types.specs.declared.key.Key.{Key}
use Rattle.calvin_types.specs.Keys.{key_cmp, has, same_key, below_all, rises, insert_key, insert_all, are_distinct}
use Rattle.calvin_types.specs.KeyOrder.{key_cmp_exact, same_key-self, has-push}
use Rattle.calvin_types.specs.Exact.{first, second}
use Rattle.calvin_types.proofs.KeySets.{has-insert_all, distinct-push}
use Rattle.calvin_types.proofs.Fews.{drop_at, take_at}
use Rattle.calvin_types.proofs.Risings.{has-below, rises-insert_key}
use Rattle.calvin_app.specs.Writing.{keys_of}

one_key : (a b : Key) → same_key a b ≡ true → a ≡ b
one_key a b h = key_cmp_exact a b ((Equal-is (key_cmp a b)).0 h)

-- a list without a key
remove : Key → List Key → List Key
remove x [] = []
remove x (k ∷ ks) = if same_key x k then ks else k ∷ remove x ks

length-remove : (x : Key) (ks : List Key) → has ks x ≡ true → length ks ≡ length (remove x ks) + 1
unfolding remove
length-remove x [] h = absurd (false≢true h)
length-remove x (k ∷ ks) h = elim (same_key x k) as (λ b. (b || has ks x) ≡ true → length (k ∷ ks) ≡ length (if b then ks else k ∷ remove x ks) + 1) [
  | true ↦ λ _. omega arith
  | false ↦ λ h. omega (arith, length-remove x ks h)
] h

has-remove : (q x : Key) (ks : List Key) → same_key q x ≡ false → has ks q ≡ true → has (remove x ks) q ≡ true
unfolding remove
has-remove q x [] other h = h
has-remove q x (k ∷ ks) other h = elim (same_key x k) as (λ b. same_key x k ≡ b → has (if b then ks else k ∷ remove x ks) q ≡ true) [
  | true ↦ λ is. sym (ap (λ b. b || has ks q) (sym (ap (same_key q) (one_key x k is)) ∙ other)) ∙ h
  | false ↦ λ is. elim (same_key q k) as (λ c. (c || has ks q) ≡ true → (c || has (remove x ks) q) ≡ true) [ true ↦ λ _. refl | false ↦ λ h. has-remove q x ks other h ] h
] refl

apart : (q x : Key) (xs : List Key) → below_all x xs ≡ true → has xs q ≡ true → (b : Bool) → same_key q x ≡ b → b ≡ false
apart q x xs below there false is = refl
apart q x xs below there true is = absurd (false≢true (sym (ap (has xs) (one_key q x is) ∙ has-below x xs below) ∙ there))

shorter : (xs ks : List Key) → rises xs ≡ true → ((q : Key) → has xs q ≡ true → has ks q ≡ true) → length xs ≤ length ks
shorter [] ks h sub = omega arith
shorter (x ∷ xs) ks h sub =
    let there = sub x (ap (λ b. b || has xs x) (same_key-self x)) in
    let rest = shorter xs (remove x ks) (second _ _ h) (λ q in_xs. has-remove q x ks (apart q x xs (first _ _ h) in_xs _ refl) (sub q (ap (λ b. same_key q x || b) in_xs ∙ or-true (same_key q x)))) in
    omega (arith, rest, length-remove x ks there)

rises-insert_all : (qs ks : List Key) → rises ks ≡ true → rises (insert_all qs ks) ≡ true
rises-insert_all [] ks h = h
rises-insert_all (q ∷ qs) ks h = rises-insert_all qs (insert_key q ks) (rises-insert_key q ks h)

length-keys : {Row : Type 0} (ws : List (Key × Row)) → length (keys_of ws) ≡ length ws
length-keys [] = refl
length-keys (w ∷ ws) = omega (arith, length-keys ws)

-- distinct writes whose keys are all among some are no more than these
pub few_writes : {Row : Type 0} (ws : List (Key × Row)) (ks : List Key) → are_distinct (keys_of ws) ≡ true → ((q : Key) → has (keys_of ws) q ≡ true → has ks q ≡ true) → length ws ≤ length ks
few_writes ws ks once sub =
    let short = shorter (insert_all (keys_of ws) []) ks (rises-insert_all (keys_of ws) [] refl) (λ q there. sub q (sym (has-insert_all q (keys_of ws) [] ∙ or-false _) ∙ there)) in
    omega (arith, short, eqb-true _ _ once, length-keys ws)

-- ---- a write's key isn't among those before it

has-append : (xs ys : List Key) (x : Key) → has (xs ++ ys) x ≡ (has xs x || has ys x)
has-append [] ys x = refl
has-append (k ∷ xs) ys x = elim (same_key x k) as (λ b. (b || has (xs ++ ys) x) ≡ ((b || has xs x) || has ys x)) [ true ↦ refl | false ↦ has-append xs ys x ]

spare : (xs ys : List Key) (q x : Key) → has xs q ≡ true → has (xs ++ q ∷ ys) x ≡ true → has (xs ++ ys) x ≡ true
spare xs ys q x there h = has-append xs ys x ∙ go (same_key x q) refl (sym (has-append xs (q ∷ ys) x) ∙ h) where
  drop_one : (a c : Bool) → (a || (false || c)) ≡ true → (a || c) ≡ true
  drop_one a c h = h

  go : (b : Bool) → same_key x q ≡ b → (has xs x || (b || has ys x)) ≡ true → (has xs x || has ys x) ≡ true
  go true is h = ap (λ b. b || has ys x) (ap (has xs) (one_key x q is) ∙ there)
  go false is h = drop_one (has xs x) (has ys x) h

keys-append : {Row : Type 0} (xs ys : List (Key × Row)) → keys_of (xs ++ ys) ≡ keys_of xs ++ keys_of ys
keys-append [] ys = refl
keys-append (x ∷ xs) ys = ap (λ ks. x.0 ∷ ks) (keys-append xs ys)

pub apart_at : {Row : Type 0} (ws : List (Key × Row)) (i : ℕ) (w : Key × Row) → are_distinct (keys_of ws) ≡ true → slice_get ws i ≡ Some w → has (keys_of (take i ws)) w.0 ≡ false
apart_at ws i w once here = go (has (keys_of (take i ws)) w.0) refl where
  go : (b : Bool) → has (keys_of (take i ws)) w.0 ≡ b → b ≡ false
  go false is = refl
  go true is =
      let xs = keys_of (take i ws) in
      let ys = keys_of (drop (i + 1) ws) in
      let whole : keys_of ws ≡ xs ++ w.0 ∷ ys = ap keys_of (sym (take-append-drop i ws) ∙ ap (λ zs. take i ws ++ zs) (drop_at ws i w here)) ∙ keys-append (take i ws) (w ∷ drop (i + 1) ws) in
      let short = shorter (insert_all (keys_of ws) []) (xs ++ ys) (rises-insert_all (keys_of ws) [] refl) (λ q there. spare xs ys w.0 q is (ap (λ ks. has ks q) (sym whole) ∙ (sym (has-insert_all q (keys_of ws) [] ∙ or-false _) ∙ there))) in
      absurd (omega (arith, short, eqb-true _ _ once, ap length whole, length-append xs ys, length-append xs (w.0 ∷ ys)))

-- so where it is among them, keys aren't distinct
pub repeated_at : {Row : Type 0} (ws : List (Key × Row)) (i : ℕ) (w : Key × Row) → slice_get ws i ≡ Some w → has (keys_of (take i ws)) w.0 ≡ true → are_distinct (keys_of ws) ≡ false
repeated_at ws i w here there = go (are_distinct (keys_of ws)) refl where
  go : (b : Bool) → are_distinct (keys_of ws) ≡ b → b ≡ false
  go false is = refl
  go true is = absurd (false≢true (sym (apart_at ws i w is here) ∙ there))

-- and else keys up to it are, if those before it are
pub distinct_at : {Row : Type 0} (ws : List (Key × Row)) (i : ℕ) (w : Key × Row) → slice_get ws i ≡ Some w → has (keys_of (take i ws)) w.0 ≡ false → are_distinct (keys_of (take i ws)) ≡ true → are_distinct (keys_of (take (i + 1) ws)) ≡ true
distinct_at ws i w here new so = ap (λ xs. are_distinct (keys_of xs)) (take_at ws i w here) ∙ ap are_distinct (keys-append (take i ws) (w ∷ [])) ∙ distinct-push (keys_of (take i ws)) w.0 so new

-- which keys are written, with one more
pub has-next : {Row : Type 0} (ws : List (Key × Row)) (i : ℕ) (w : Key × Row) (q : Key) → slice_get ws i ≡ Some w → has (keys_of (take (i + 1) ws)) q ≡ (has (keys_of (take i ws)) q || same_key q w.0)
has-next ws i w q here = ap (λ xs. has (keys_of xs) q) (take_at ws i w here) ∙ ap (λ ks. has ks q) (keys-append (take i ws) (w ∷ [])) ∙ has-push (keys_of (take i ws)) w.0 q
