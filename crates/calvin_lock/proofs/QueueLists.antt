-- The queue of one key: who holds it, and who waits.
use Rattle.std.proofs.Common.{◌≡◌, ℕ, ◌+◌, ◌≤◌, true, false, ◌==◌, ◌⊎◌, inl, inr, List, [], ◌∷◌, ◌++◌, length, refl, sym, ap, subst, ◌∙◌, arith, eqb-true, append_assoc, length-append}
use Rattle.std.proofs.lemmas.Bool.{false≢true}
use Rattle.calvin_types.specs.declared.place.Place.{Place}
use Rattle.calvin_lock.specs.declared.queue.Kind.{Kind}
use Rattle.calvin_lock.specs.declared.queue.Kind.TheVariants as kind
use Rattle.calvin_lock.specs.declared.queue.Holders.{Holders}
use Rattle.calvin_lock.specs.declared.queue.Holders.TheVariants.{Shared, Exclusive}
use Rattle.calvin_lock.specs.declared.queue.Ask.{Ask}
use Rattle.calvin_lock.specs.Queues.{is_shared, admits, with_holder, without_holder, holder_count, AllShared, AreHolders, IsQueueOf, IsSettled, IsFirst, is_of, waits_in}

abbrev tail_of : List Ask → List Ask
tail_of [] = []
tail_of (x ∷ xs) = xs

abbrev head_of : Ask → List Ask → Ask
head_of d [] = d
head_of d (x ∷ xs) = x

pub no_asks : (xs : List Ask) → length xs ≡ 0 → xs ≡ []
no_asks [] none = refl
no_asks (x ∷ xs) none = absurd (omega (arith, none))

pub append_none : (xs : List Ask) → xs ++ [] ≡ xs
append_none [] = refl
append_none (x ∷ xs) = ap (λ l. x ∷ l) (append_none xs)

-- ---- who shares a key

shared_append : (xs ys : List Ask) → AllShared xs → AllShared ys → AllShared (xs ++ ys)
shared_append [] ys all more = more
shared_append (x ∷ xs) ys all more = (all.0, shared_append xs ys all.1 more)

pub shared_front : (xs ys : List Ask) → AllShared (xs ++ ys) → AllShared xs
shared_front [] ys all = tt
shared_front (x ∷ xs) ys all = (all.0, shared_front xs ys all.1)

pub shared_back : (xs ys : List Ask) → AllShared (xs ++ ys) → AllShared ys
shared_back [] ys all = all
shared_back (x ∷ xs) ys all = shared_back xs ys all.1

-- ---- one more holds the key, or one less

pub count_with : (h : Holders) (k : Kind) → holder_count (with_holder h k) ≤ holder_count h + 1
count_with (Shared n) kind.Shared = omega arith
count_with (Shared n) kind.Exclusive = omega arith
count_with Exclusive k = omega arith

pub count_without : (h : Holders) → holder_count (without_holder h) ≤ holder_count h
count_without (Shared n) = omega arith
count_without Exclusive = omega arith

pub zero_count : (n : ℕ) → (n == 0) ≡ true → n ≡ 0
zero_count n is = eqb-true n 0 is

pub holders_push : (h : Holders) (held : List Ask) (a : Ask) → AreHolders h held → admits h a.kind ≡ true → AreHolders (with_holder h a.kind) (held ++ a ∷ [])
holders_push (Shared n) held a (len, all) admitted = go a.kind refl admitted
  where
    go : (k : Kind) → a.kind ≡ k → admits (Shared n) k ≡ true → AreHolders (with_holder (Shared n) k) (held ++ a ∷ [])
    go kind.Shared is ok = (length-append held (a ∷ []) ∙ ap (λ m. m + 1) len, shared_append held (a ∷ []) all (ap is_shared is, tt))
    go kind.Exclusive is ok = (a, ap (λ l. l ++ a ∷ []) (no_asks held (len ∙ zero_count n ok)), ap is_shared is)
holders_push Exclusive held a holders admitted = absurd (false≢true admitted)

-- the first who waits comes to hold the key
pub granted : (asks : List Ask) (h : Holders) (a : Ask) (waiting : List Ask) → IsQueueOf asks h (a ∷ waiting) → admits h a.kind ≡ true → IsQueueOf asks (with_holder h a.kind) waiting
granted asks h a waiting q admitted = record {
  held = q.held ++ a ∷ [];
  split = q.split ∙ sym (append_assoc q.held (a ∷ []) waiting);
  holders = holders_push h q.held a q.holders admitted;
}

-- where none waits, one more holds the key at once
pub joined : (asks : List Ask) (h : Holders) (a : Ask) → IsQueueOf asks h [] → admits h a.kind ≡ true → IsQueueOf (asks ++ a ∷ []) (with_holder h a.kind) []
joined asks h a q admitted = record {
  held = q.held ++ a ∷ [];
  split = ap (λ l. l ++ a ∷ []) (q.split ∙ append_none q.held) ∙ sym (append_none (q.held ++ a ∷ []));
  holders = holders_push h q.held a q.holders admitted;
}

-- or waits behind all
pub queued : (asks : List Ask) (h : Holders) (waiting : List Ask) (a : Ask) → IsQueueOf asks h waiting → IsQueueOf (asks ++ a ∷ []) h (waiting ++ a ∷ [])
queued asks h waiting a q = record {
  held = q.held;
  split = ap (λ l. l ++ a ∷ []) q.split ∙ append_assoc q.held waiting (a ∷ []);
  holders = q.holders;
}

pub settled_push : (h : Holders) (waiting : List Ask) (a : Ask) → IsSettled h waiting → (waiting ≡ [] → admits h a.kind ≡ false) → IsSettled h (waiting ++ a ∷ [])
settled_push h [] a settled behind = behind refl
settled_push h (x ∷ waiting) a settled behind = settled

pub waits_append : (q : Place) (xs ys : List Ask) → waits_in q (xs ++ ys) ≡ waits_in q xs + waits_in q ys
waits_append q [] ys = omega arith
waits_append q (x ∷ xs) ys = let rest = waits_append q xs ys in omega (arith, rest)

-- ---- one who holds the key leaves

-- of two places at which a list is cut, one is before the other
cut : (xs : List Ask) (a : Ask) (ys held waiting : List Ask) → xs ++ a ∷ ys ≡ held ++ waiting
    → ((zs : List Ask) × (held ≡ xs ++ a ∷ zs) × (ys ≡ zs ++ waiting)) ⊎ ((zs : List Ask) × (xs ≡ held ++ zs) × (waiting ≡ zs ++ a ∷ ys))
cut xs a ys [] waiting e = inr (xs, refl, sym e)
cut [] a ys (x ∷ held) waiting e = inl (held, (λ i. sym (ap (head_of a) e) i ∷ held), ap tail_of e)
cut (y ∷ xs) a ys (x ∷ held) waiting e = go (cut xs a ys held waiting (ap tail_of e))
  where
    same : x ≡ y
    same = sym (ap (head_of a) e)

    go : ((zs : List Ask) × (held ≡ xs ++ a ∷ zs) × (ys ≡ zs ++ waiting)) ⊎ ((zs : List Ask) × (xs ≡ held ++ zs) × (waiting ≡ zs ++ a ∷ ys))
        → ((zs : List Ask) × (x ∷ held ≡ y ∷ xs ++ a ∷ zs) × (ys ≡ zs ++ waiting)) ⊎ ((zs : List Ask) × (y ∷ xs ≡ x ∷ held ++ zs) × (waiting ≡ zs ++ a ∷ ys))
    go (inl (zs, first, rest)) = inl (zs, (λ i. same i ∷ first i), rest)
    go (inr (zs, first, rest)) = inr (zs, (λ i. sym same i ∷ first i), rest)

holders_less : (h : Holders) (xs : List Ask) (a : Ask) (zs : List Ask) → AreHolders h (xs ++ a ∷ zs) → AreHolders (without_holder h) (xs ++ zs)
holders_less (Shared n) xs a zs (len, all) =
    let long = length-append xs (a ∷ zs) in
    let short = length-append xs zs in
    (omega (arith, len, long, short), shared_append xs zs (shared_front xs (a ∷ zs) all) (shared_back xs (a ∷ zs) all).1)
holders_less Exclusive xs a zs (x, only, alone) =
    let long = length-append xs (a ∷ zs) in
    let one = ap length only in
    let short = length-append xs zs in
    let none : length (xs ++ zs) ≡ 0 = omega (arith, long, one, short) in
    (none, subst AllShared (sym (no_asks (xs ++ zs) none)) tt)

-- who is first with those before it doesn't wait behind them
admitted_first : (h : Holders) (k : Kind) (held : List Ask) → AreHolders h held → held ≡ [] → admits h k ≡ true
admitted_first (Shared n) kind.Shared held holders none = refl
admitted_first (Shared n) kind.Exclusive held holders none = ap (λ m. m == 0) (sym holders.0 ∙ ap length none)
admitted_first Exclusive k held (x, only, alone) none = absurd (let one = ap length only in let zero = ap length none in omega (arith, one, zero))

shares : (h : Holders) (k : Kind) (held : List Ask) → AreHolders h held → AllShared held → is_shared k ≡ true → admits h k ≡ true
shares (Shared n) kind.Shared held holders all shared = refl
shares (Shared n) kind.Exclusive held holders all shared = absurd (false≢true shared)
shares Exclusive k held (x, only, alone) all shared = absurd (false≢true (sym alone ∙ (subst AllShared only all).0))

not_behind : (h : Holders) (held zs : List Ask) (a : Ask) (ys : List Ask) → AreHolders h held → IsSettled h (zs ++ a ∷ ys) → IsFirst (held ++ zs) a → ⊥
not_behind h held [] a ys holders settled (inl none) = false≢true (sym settled ∙ admitted_first h a.kind held holders (sym (append_none held) ∙ none))
not_behind h held (z ∷ zs) a ys holders settled (inl none) = absurd (let long = length-append held (z ∷ zs) in let zero = ap length none in omega (arith, long, zero))
not_behind h held [] a ys holders settled (inr (all, shared)) = false≢true (sym settled ∙ shares h a.kind held holders (shared_front held [] all) shared)
not_behind h held (z ∷ zs) a ys holders settled (inr (all, shared)) =
    false≢true (sym settled ∙ shares h z.kind held holders (shared_front held (z ∷ zs) all) (shared_back held (z ∷ zs) all).0)

module _ (xs : List Ask) (a : Ask) (ys : List Ask) (h : Holders) (waiting : List Ask) (q : IsQueueOf (xs ++ a ∷ ys) h waiting) where
  -- so it leaves those who hold the key
  pub left : IsSettled h waiting → IsFirst xs a → IsQueueOf (xs ++ ys) (without_holder h) waiting
  left settled first = elim (cut xs a ys q.held waiting q.split) [
    | inl (zs, front, rest) ↦ record {
      held = xs ++ zs;
      split = ap (λ l. xs ++ l) rest ∙ sym (append_assoc xs zs waiting);
      holders = holders_less h xs a zs (subst (AreHolders h) front q.holders);
    }
    | inr (zs, front, rest) ↦ absurd (not_behind h q.held zs a ys q.holders (subst (IsSettled h) rest settled) (subst (λ l. IsFirst l a) front first))
  ]

  -- and doesn't wait
  pub first_free : IsSettled h waiting → IsFirst xs a → (p : Place) → waits_in p ys ≡ 0 → waits_in p waiting ≡ 0
  first_free settled first p none = elim (cut xs a ys q.held waiting q.split) [
    | inl (zs, front, rest) ↦ let parts = ap (waits_in p) rest ∙ waits_append p zs waiting in omega (arith, none, parts)
    | inr (zs, front, rest) ↦ absurd (not_behind h q.held zs a ys q.holders (subst (IsSettled h) rest settled) (subst (λ l. IsFirst l a) front first))
  ]

  -- and who doesn't wait is first with those before it
  pub free_first : is_of a.place a ≡ 1 → waits_in a.place waiting ≡ 0 → IsFirst xs a
  free_first itself none = elim (cut xs a ys q.held waiting q.split) [
    | inl (zs, front, rest) ↦ go h zs (subst (AreHolders h) front q.holders)
    | inr (zs, front, rest) ↦ absurd (let parts = ap (waits_in a.place) rest ∙ waits_append a.place zs (a ∷ ys) in omega (arith, none, parts, itself))
  ]
    where
      go : (g : Holders) (zs : List Ask) → AreHolders g (xs ++ a ∷ zs) → IsFirst xs a
      go (Shared n) zs (len, all) = inr (shared_front xs (a ∷ zs) all, (shared_back xs (a ∷ zs) all).0)
      go Exclusive zs (x, only, alone) =
          let long = length-append xs (a ∷ zs) in
          let one = ap length only in
          inl (no_asks xs (omega (arith, long, one)))

-- who asks for nothing doesn't wait
pub unasked_free : (asks : List Ask) (h : Holders) (waiting : List Ask) → IsQueueOf asks h waiting → (p : Place) → waits_in p asks ≡ 0 → waits_in p waiting ≡ 0
unasked_free asks h waiting q p none = let parts = ap (waits_in p) q.split ∙ waits_append p q.held waiting in omega (arith, none, parts)
