-- The order of places is total, and places that tie are one.
use Rattle.std.proofs.Common.{◌≡◌, true, sym, subst}
use Rattle.std.specs.Ordering.{eq_by_cmp}
use Rattle.std.specs.Cmp.{IsTotalOrder, nat_cmp_total, tied_itself, Equal-is}
use Rattle.std.proofs.lemmas.Cmp.{on_total, then_total}
use Rattle.calvin_types.specs.declared.place.Place.{Place}
use Rattle.calvin_types.specs.Places.{place_cmp, IsBefore}
pub use Rattle.calvin_types.specs.PlaceLaws.{place_exact}

pub place_total : IsTotalOrder place_cmp
place_total = then_total (on_total (λ (q : Place). q.epoch) nat_cmp_total) (on_total (λ (q : Place). q.n) nat_cmp_total)

pub not_before_itself : (a : Place) → IsBefore a a → ⊥
not_before_itself a h = let t = tied_itself place_total a in absurd (cc)

pub not_both : (a b : Place) → IsBefore a b → IsBefore b a → ⊥
not_both a b h g = not_before_itself a (place_total.trans a b a h g)

-- places that a test finds alike are one
pub one_place : (a b : Place) → eq_by_cmp place_cmp a b ≡ true → a ≡ b
one_place a b h = place_exact a b ((Equal-is (place_cmp a b)).0 h)

pub same_itself : (a : Place) → eq_by_cmp place_cmp a a ≡ true
same_itself a = (Equal-is (place_cmp a a)).1 (tied_itself place_total a)

-- a place isn't one that it comes before
pub not_same : (a b : Place) → IsBefore a b → eq_by_cmp place_cmp a b ≡ true → ⊥
not_same a b before same = not_before_itself a (subst (λ q. IsBefore a q) (sym (one_place a b same)) before)
