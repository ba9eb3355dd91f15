-- The order of places: by epoch first, then by number.
use Rattle.std.proofs.Common.{◌≡◌, ℕ, false, ◌<◌, ◌≤◌, ◌⊎◌, inl, inr, refl, sym, ap, subst, ◌∙◌, arith}
use Rattle.std.specs.declared.cmp.Ordering.{Ordering}
use Rattle.std.specs.declared.cmp.Ordering.TheVariants.{Less, Equal, Greater}
use Rattle.std.specs.Ordering.{nat_cmp, ordering_then, is_lt}
use Rattle.std.specs.Cmp.{nat_cmp_is}
use Rattle.std.proofs.lemmas.Bool.{cases_lt}
use Rattle.calvin_types.specs.declared.place.Place.{Place}
use Rattle.calvin_types.specs.Places.{IsBefore}
use Rattle.calvin_types.proofs.PlaceOrder.{not_before_itself, not_both}
use Rattle.calvin_order.specs.Merged.{end_of}

pub before_by_epoch : (a b : Place) → a.epoch < b.epoch → IsBefore a b
before_by_epoch a b h = ap (λ r. ordering_then r (nat_cmp a.n b.n)) (sym (nat_cmp_is a.epoch b.epoch Less h))

pub before_by_number : (a b : Place) → a.epoch ≡ b.epoch → a.n < b.n → IsBefore a b
before_by_number a b e h = ap (λ r. ordering_then r (nat_cmp a.n b.n)) (sym (nat_cmp_is a.epoch b.epoch Equal e)) ∙ sym (nat_cmp_is a.n b.n Less h)

pub before_epoch : (a b : Place) → IsBefore a b → a.epoch ≤ b.epoch
before_epoch a b h = go (cases_lt b.epoch a.epoch)
  where
    go : (b.epoch < a.epoch) ⊎ (a.epoch ≤ b.epoch) → a.epoch ≤ b.epoch
    go (inl g) = absurd (not_both a b h (before_by_epoch b a g))
    go (inr g) = g

-- the first n epochs end where epoch n begins
pub before_end : (q : Place) (n : ℕ) → IsBefore q (end_of n) → q.epoch < n
before_end q n h = go (cases_lt q.epoch n) (cases_lt 0 q.n)
  where
    go : (q.epoch < n) ⊎ (n ≤ q.epoch) → (0 < q.n) ⊎ (q.n ≤ 0) → q.epoch < n
    go (inl g) d = g
    go (inr g) (inl d) = let same : n ≡ q.epoch = (let up = before_epoch q (end_of n) h in omega (arith, up, g)) in absurd (not_both q (end_of n) h (before_by_number (end_of n) q same d))
    go (inr g) (inr d) =
        let same : q.epoch ≡ n = (let up = before_epoch q (end_of n) h in omega (arith, up, g)) in
        let none : q.n ≡ 0 = omega (arith, d) in
        let is : q ≡ end_of n = (λ i. record { epoch = same i; n = none i }) in
        absurd (not_before_itself (end_of n) (subst (λ x. IsBefore x (end_of n)) is h))

pub is_lt_false : (r : Ordering) → (r ≡ Less → ⊥) → is_lt r ≡ false
is_lt_false Less h = absurd (h refl)
is_lt_false Equal h = refl
is_lt_false Greater h = refl
