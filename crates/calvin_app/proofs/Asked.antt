-- Where all keys are of table 0, a get asks for all of them; the last one tells.
use Rattle.std.proofs.Common.{◌≡◌, ◌≤◌, ℕ, zero, suc, ◌<◌, Bool, true, false, ◌&&◌, List, [], ◌∷◌, length, Some, slice_get, refl, sym, ap, ◌∙◌, cond, take, rules, arith}
use Rattle.std.specs.Cmp.Rules.{comparing}
use Rattle.std.specs.declared.cmp.Ordering.TheVariants.{Less}
use Rattle.std.proofs.Math.Bool.{and-true}
use Rattle.std.proofs.lemmas.Bool.{false≢true}
use Rattle.std.specs.Prelude.{◌==◌}
use Rattle.std.specs.List.{filter, list_all}
use Rattle.std.proofs.lemmas.List.{take_all}
use Rattle.calvin_types.specs.declared.key.Key.{Key}
use Rattle.calvin_types.specs.Exact.{first, second}
use Rattle.calvin_types.specs.Keys.{key_cmp, below_all, rises}
use Rattle.calvin_types.proofs.Risings.{less}
use Rattle.calvin_app.specs.Kv.{asked}

all_of_table : (ks : List Key) → list_all (λ k. k.table == 0) ks ≡ true → filter (λ k. k.table == 0) ks ≡ ks
all_of_table [] h = refl
all_of_table (k ∷ ks) h = ap (λ b. cond b (k ∷ filter (λ j. j.table == 0) ks) (filter (λ j. j.table == 0) ks)) (first (k.table == 0) _ h) ∙ ap (λ js. k ∷ js) (all_of_table ks (second (k.table == 0) _ h))

pub all_asked : (ks : List Key) → length ks ≤ 16 → list_all (λ k. k.table == 0) ks ≡ true → asked ks ≡ ks
all_asked ks few h = ap (take 16) (all_of_table ks h) ∙ take_all 16 ks few

below_at : (x : Key) (ks : List Key) (i : ℕ) (k : Key) → below_all x ks ≡ true → slice_get ks i ≡ Some k → key_cmp x k ≡ Less
below_at x [] i k h here = absurd (cc)
below_at x (y ∷ ks) zero k h here = let first_is : y ≡ k = cc in ap (key_cmp x) (sym first_is) ∙ less _ (first _ _ h)
below_at x (y ∷ ks) (suc i) k h here = below_at x ks i k (second _ _ h) here

below_zero : (a b : Key) → key_cmp a b ≡ Less → (b.table == 0) ≡ true → (a.table == 0) ≡ true
below_zero a b low zeroed = search (comparing, rules)

last_of_two : (a b c : Bool) → (a ≡ true → b ≡ true) → a ≡ c → a ≡ (b && c)
last_of_two true true c h is = is
last_of_two true false c h is = absurd (false≢true (h refl))
last_of_two false true c h is = is
last_of_two false false c h is = refl

-- the last of rising keys tells whether all are of table 0
pub all_by_last : (ks : List Key) (i : ℕ) (k : Key) → rises ks ≡ true → slice_get ks i ≡ Some k → suc i ≡ length ks → (k.table == 0) ≡ list_all (λ k. k.table == 0) ks
all_by_last [] i k h here end = absurd (cc)
all_by_last (x ∷ []) zero k h here end = let first_is : k ≡ x = cc in ap (λ (q : Key). q.table == 0) first_is ∙ sym (and-true (x.table == 0))
all_by_last (x ∷ y ∷ ks) zero k h here end = absurd (omega (arith, end))
all_by_last (x ∷ ks) (suc i) k h here end =
    last_of_two (k.table == 0) (x.table == 0) (list_all (λ k. k.table == 0) ks) (below_zero x k (below_at x ks i k (first _ _ h) here)) (all_by_last ks i k (second _ _ h) here (omega (arith, end)))

-- of two rising keys the later one is above
pub rises_pair : (ks : List Key) (i j : ℕ) (k l : Key) → rises ks ≡ true → slice_get ks i ≡ Some k → slice_get ks j ≡ Some l → i < j → key_cmp k l ≡ Less
rises_pair [] i j k l h here there lt = absurd (cc)
rises_pair (x ∷ ks) zero zero k l h here there lt = absurd (omega (arith, lt))
rises_pair (x ∷ ks) zero (suc j) k l h here there lt = let first_is : k ≡ x = cc in ap (λ (q : Key). key_cmp q l) first_is ∙ below_at x ks j l (first _ _ h) there
rises_pair (x ∷ ks) (suc i) zero k l h here there lt = absurd (omega (arith, lt))
rises_pair (x ∷ ks) (suc i) (suc j) k l h here there lt = let less_is : i < j = omega (arith, lt) in rises_pair ks i j k l (second _ _ h) here there less_is
