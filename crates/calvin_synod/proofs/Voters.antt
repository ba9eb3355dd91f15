-- Whether a replica is among those from a place on.
use Rattle.std.proofs.Common.{◌≡◌, ◌≢◌, ℕ, ◌+◌, true, ◌||◌, List, Some, drop, sym, ap, ◌∙◌}
use Rattle.std.specs.Prelude.{nat_eq, slice_get}
use Rattle.std.specs.List.{list_any}
use Rattle.std.proofs.lemmas.Bool.{eq-eqb, ne_eqb}
use Rattle.calvin_types.proofs.Fews.{drop_at}

-- it is, where it stands at that place
pub any_found : (from : ℕ) (voters : List ℕ) (i v : ℕ) → slice_get voters i ≡ Some v → from ≡ v → list_any (nat_eq from) (drop i voters) ≡ true
any_found from voters i v at same = ap (list_any (nat_eq from)) (drop_at voters i v at) ∙ ap (λ b. b || list_any (nat_eq from) (drop (i + 1) voters)) (eq-eqb from v same)

-- else it is where it is among those after it
pub any_passed : (from : ℕ) (voters : List ℕ) (i v : ℕ) → slice_get voters i ≡ Some v → from ≢ v → list_any (nat_eq from) (drop (i + 1) voters) ≡ list_any (nat_eq from) (drop i voters)
any_passed from voters i v at apart = sym (ap (list_any (nat_eq from)) (drop_at voters i v at) ∙ ap (λ b. b || list_any (nat_eq from) (drop (i + 1) voters)) (ne_eqb from v apart))
