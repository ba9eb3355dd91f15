-- How many keys a place waits for, as those who wait are let go ahead.
use Rattle.std.proofs.Common.{◌≡◌, ℕ, ◌+◌, ◌≤◌, Bool, true, false, cond, if◌then◌else◌, List, Option, Some, None, refl, sym, ap, ◌∙◌, arith}
use Rattle.std.proofs.lemmas.Bool.{false≢true}
use Rattle.std.proofs.lemmas.Option.{none-some, same_Some}
use Rattle.std.specs.Option.{option_map}
use Rattle.calvin_types.specs.declared.place.Place.{Place}
use Rattle.calvin_lock.specs.declared.queue.Ask.{Ask}
use Rattle.calvin_lock.specs.declared.unreleased.Pending.{Pending}
use Rattle.calvin_lock.specs.Queues.{equal_places, place_is, waits_in}
use Rattle.calvin_lock.specs.Unreleased.{pending_at, with_fewer, WaitsFor}
use Rattle.calvin_lock.proofs.PlaceTests.{places_exact, places_self}

pub is_one : (q p : Place) → equal_places p q ≡ true → place_is q p ≡ 1
is_one q p same = ap (λ b. cond b 1 0) (ap (λ x. equal_places q x) (places_exact p q same) ∙ places_self q)

pub is_none : (q p : Place) → equal_places p q ≡ false → place_is q p ≡ 0
is_none q p other = go (equal_places q p) refl
  where
    go : (b : Bool) → equal_places q p ≡ b → place_is q p ≡ 0
    go true same = absurd (false≢true (sym other ∙ ap (λ x. equal_places x q) (sym (places_exact q p same)) ∙ places_self q))
    go false is = ap (λ b. cond b 1 0) is

some_fewer : (o : Option Pending) (p : Pending) → option_map with_fewer o ≡ Some p → (r : Pending) × (o ≡ Some r) × (with_fewer r ≡ p)
some_fewer None p is = absurd (none-some p is)
some_fewer (Some r) p is = (r, refl, same_Some (with_fewer r) p is)

same_sets_kept : (o : Option Pending) → option_map (λ (p : Pending). p.sets) (option_map with_fewer o) ≡ option_map (λ (p : Pending). p.sets) o
same_sets_kept None = refl
same_sets_kept (Some p) = refl

module _ (es now : List (Place × Pending)) (place : Place) (updated : (q : Place) → pending_at now q ≡ cond (equal_places place q) (option_map with_fewer (pending_at es q)) (pending_at es q)) where
  is_now : (q : Place) (b : Bool) → equal_places place q ≡ b → pending_at now q ≡ cond b (option_map with_fewer (pending_at es q)) (pending_at es q)
  is_now q b is = updated q ∙ ap (λ c. cond c (option_map with_fewer (pending_at es q)) (pending_at es q)) is

  -- the place at the front waits for one key less, and no other does
  pub fewer_waits : (more : Place → ℕ) (before after : List Ask) → ((q : Place) → waits_in q before ≡ place_is q place + waits_in q after)
      → WaitsFor (λ q. more q + waits_in q before) es → WaitsFor (λ q. more q + waits_in q after) now
  fewer_waits more before after parts waits q p found = go (equal_places place q) refl
    where
      go : (b : Bool) → equal_places place q ≡ b → p.waits ≡ more q + waits_in q after
      go true same =
          let old = some_fewer (pending_at es q) p (sym (is_now q true same) ∙ found) in
          let was = waits q old.0 old.1 in
          let now_is = ap (λ (r : Pending). r.waits) old.2 in
          let one = is_one q place same in
          let part = parts q in
          omega (arith, was, now_is, one, part)
      go false other =
          let was = waits q p (sym (is_now q false other) ∙ found) in
          let none = is_none q place other in
          let part = parts q in
          omega (arith, was, none, part)

  -- and each keeps its keys
  pub sets_kept : (q : Place) → option_map (λ (p : Pending). p.sets) (pending_at now q) ≡ option_map (λ (p : Pending). p.sets) (pending_at es q)
  sets_kept q = go (equal_places place q) refl
    where
      go : (b : Bool) → equal_places place q ≡ b → option_map (λ (p : Pending). p.sets) (pending_at now q) ≡ option_map (λ (p : Pending). p.sets) (pending_at es q)
      go true same = ap (option_map (λ (p : Pending). p.sets)) (is_now q true same) ∙ same_sets_kept (pending_at es q)
      go false other = ap (option_map (λ (p : Pending). p.sets)) (is_now q false other)

-- one key more that a place waits for, or none
pub more_waits : (b held : Bool) (before now : ℕ) → now ≡ before + cond held 0 1 → (if b then before else 0) + (if held then 0 else cond b 1 0) ≡ (if b then now else 0)
more_waits true true before now is = omega (arith, is)
more_waits true false before now is = omega (arith, is)
more_waits false true before now is = omega arith
more_waits false false before now is = omega arith

pub at_most_one : (held : Bool) → cond held 0 1 ≤ 1
at_most_one true = omega arith
at_most_one false = omega arith

pub waits_alike : (count other : Place → ℕ) (es : List (Place × Pending)) → ((q : Place) → count q ≡ other q) → WaitsFor count es → WaitsFor other es
waits_alike count other es same waits q p found = waits q p found ∙ same q

pub both_waits : (b : Bool) (one other : ℕ) → (if b then one else 0) + (if b then other else 0) ≡ (if b then one + other else 0)
both_waits true one other = omega arith
both_waits false one other = omega arith
