-- The order of ballots.
use Rattle.std.proofs.Common.{◌≡◌, ◌≢◌, subst, ℕ, ◌<◌, ◌≤◌, Bool, true, false, true≢false, ◌⊎◌, inl, inr, ⊎_elim, refl, sym, arith, Ordering, Less, Equal, Greater}
use Rattle.std.proofs.lemmas.Bool.{cases_lt}
use Rattle.std.proofs.lemmas.Cmp.{ranked}
use Rattle.std.specs.Ordering.{is_lt, is_eq, eq_by_cmp, nat_cmp, ordering_then}
use Rattle.calvin_types.specs.declared.place.Ballot.{Ballot}
use Rattle.calvin_types.specs.Places.{ballot_cmp}
use Rattle.calvin_synod.proofs.Ballots.{Below, AtMost}

pub below_itself : {a : Ballot} → Below a a → ⊥
below_itself {a} h = omega (arith, h.replicas refl)

pub at_most_itself : (a : Ballot) → AtMost a a
at_most_itself a = record { rounds = omega arith; replicas = omega arith }

pub at_most_of_below : {a b : Ballot} → Below a b → AtMost a b
at_most_of_below {a} {b} h = record { rounds = omega arith; replicas = grind arith }

pub at_most_trans : {a b c : Ballot} → AtMost a b → AtMost b c → AtMost a c
at_most_trans {a} {b} {c} h k = record { rounds = omega arith; replicas = grind arith }

pub below_at_most : {a b c : Ballot} → Below a b → AtMost b c → Below a c
below_at_most {a} {b} {c} h k = record { rounds = omega arith; replicas = grind arith }

pub at_most_below : {a b c : Ballot} → AtMost a b → Below b c → Below a c
at_most_below {a} {b} {c} h k = record { rounds = omega arith; replicas = grind arith }

same_ballot : (a b : Ballot) → a.round ≡ b.round → a.replica ≡ b.replica → a ≡ b
same_ballot a b e f = λ i. record { round = e i; replica = f i }

by_lt : (m n : ℕ) → (m < n) ⊎ ((m ≡ n) ⊎ (n < m))
by_lt m n = ⊎_elim (λ (h : m < n). inl h) (λ (h : n ≤ m). ⊎_elim (λ (k : n < m). inr (inr k)) (λ (k : m ≤ n). inr (inl (omega arith))) (cases_lt n m)) (cases_lt m n)

lower_round : (a b : Ballot) → a.round < b.round → Below a b
lower_round a b h = record { rounds = omega arith; replicas = omega arith }

same_round : (a b : Ballot) → a.round ≡ b.round → a.replica < b.replica → Below a b
same_round a b e h = record { rounds = omega arith; replicas = omega arith }

pub compare_ballots : (a b : Ballot) → (Below a b) ⊎ ((a ≡ b) ⊎ (Below b a))
compare_ballots a b =
    ⊎_elim
    (λ (h : a.round < b.round). inl (lower_round a b h))
    (⊎_elim
    (λ (e : a.round ≡ b.round). ⊎_elim (λ (k : a.replica < b.replica). inl (same_round a b e k)) (⊎_elim (λ (f : a.replica ≡ b.replica). inr (inl (same_ballot a b e f))) (λ (k : b.replica < a.replica). inr (inr (same_round b a (sym e) k)))) (by_lt a.replica b.replica))
    (λ (h : b.round < a.round). inr (inr (lower_round b a h))))
    (by_lt a.round b.round)

-- what the comparison of two ballots says
abbrev Says : Ballot → Ballot → Bool → Type 0
Says a b true = Below a b
Says a b false = AtMost b a

said : (a b : Ballot) (o p : Ordering) → o ≡ nat_cmp a.round b.round → p ≡ nat_cmp a.replica b.replica → Says a b (is_lt (ordering_then o p))
said a b Less p e f = lower_round a b (ranked a.round b.round Less e)
said a b Greater p e f = at_most_of_below (lower_round b a (ranked a.round b.round Greater e))
said a b Equal Less e f = same_round a b (ranked a.round b.round Equal e) (ranked a.replica b.replica Less f)
said a b Equal Greater e f = at_most_of_below (same_round b a (sym (ranked a.round b.round Equal e)) (ranked a.replica b.replica Greater f))
said a b Equal Equal e f =
    let k : a.round ≡ b.round = ranked a.round b.round Equal e in
    let m : a.replica ≡ b.replica = ranked a.replica b.replica Equal f in
    record { rounds = omega arith; replicas = omega arith }

pub ballot_test : (a b : Ballot) → Says a b (is_lt (ballot_cmp a b))
ballot_test a b = said a b _ _ refl refl

pub below_from_test : {a b : Ballot} → is_lt (ballot_cmp a b) ≡ true → Below a b
below_from_test {a} {b} h = rw h at (ballot_test a b)

pub at_most_from_test : {a b : Ballot} → is_lt (ballot_cmp a b) ≡ false → AtMost b a
at_most_from_test {a} {b} h = rw h at (ballot_test a b)

-- numbers, or ballots, that compare as equal
pub same_from_test : (a b : Ballot) → eq_by_cmp ballot_cmp a b ≡ true → a ≡ b
same_from_test a b h = by_answers _ _ refl refl h
  where
    by_answers : (o p : Ordering) → o ≡ nat_cmp a.round b.round → p ≡ nat_cmp a.replica b.replica → is_eq (ordering_then o p) ≡ true → a ≡ b
    by_answers Less p e f k = absurd (true≢false (sym k))
    by_answers Greater p e f k = absurd (true≢false (sym k))
    by_answers Equal Less e f k = absurd (true≢false (sym k))
    by_answers Equal Greater e f k = absurd (true≢false (sym k))
    by_answers Equal Equal e f k = same_ballot a b (ranked a.round b.round Equal e) (ranked a.replica b.replica Equal f)

pub same_ballot_or_not : (a b : Ballot) → (a ≡ b) ⊎ (a ≢ b)
same_ballot_or_not a b =
    ⊎_elim
    (λ (h : Below a b). inr (λ e. below_itself (subst (Below a) (sym e) h)))
    (⊎_elim
    (λ (e : a ≡ b). inl e)
    (λ (h : Below b a). inr (λ e. below_itself (subst (Below b) e h))))
    (compare_ballots a b)
