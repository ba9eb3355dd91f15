-- Levels, counted down.
use Rattle.std.proofs.Common.{◌≡◌, ◌≤◌, ◌<◌, ◌-◌, ℕ, zero, suc, max, Bool, true, false, ◌&&◌, nat_le, nat_lt, inl, inr, refl, sym, ap, ◌∙◌, arith}
use Rattle.std.proofs.lemmas.Bool.{true≢false, leb-true, cases_Bool}

pub both_fit : (a b n : ℕ) → nat_le (max a b) n ≡ (nat_le a n && nat_le b n)
both_fit a b n = grind arith

pub one_level : (d n : ℕ) → nat_le (suc d) n ≡ (nat_lt 0 n && nat_le d (n - 1))
one_level d n = grind arith

pub too_deep : (a b n : ℕ) → nat_le a n ≡ false → nat_le (max a b) n ≡ false
too_deep a b n deep = both_fit a b n ∙ ap (λ x. x && nat_le b n) deep
