-- Slots in their order, maps of slots, and a hash map of slots beside the finite map that its entries are.
use Rattle.std.proofs.Common.{◌≡◌, ◌≢◌, Bool, true, cond, ◌&&◌, ◌⊎◌, List, Some, None, nat_eq, refl, eqb-true, eq-eqb}
use Rattle.std.specs.Cmp.{IsTotalOrder, nat_cmp_total}
use Rattle.std.specs.Map.{lookup}
use Rattle.std.specs.FinMap.{FinMap, get, insert, remove, from_entries}
use Rattle.std.proofs.lemmas.Bool.{and_parts}
use Rattle.std.proofs.lemmas.Cmp.{on_total, then_total}
use Rattle.calvin_types.specs.declared.place.Slot.{Slot}
use Rattle.calvin_types.specs.Places.{slot_cmp}
pub use Rattle.calvin_types.specs.PlaceLaws.{slot_exact}
use Rattle.calvin_types.proofs.ExactMaps.{same_or_not, insert_here, insert_other, remove_here, remove_other}
use Rattle.calvin_types.proofs.HashMaps as maps

pub slot_total : IsTotalOrder slot_cmp
slot_total = then_total (on_total (λ (s : Slot). s.epoch) nat_cmp_total) (on_total (λ (s : Slot). s.group) nat_cmp_total)

pub same_slot_or_not : (s t : Slot) → (s ≡ t) ⊎ (s ≢ t)
same_slot_or_not s t = same_or_not slot_cmp slot_total slot_exact s t

-- ---- what a map has at a slot, after one slot's value changed

module _ {X : Type 0} (m : FinMap slot_cmp X) (k : Slot) where
  pub get_here : (v : X) → get (insert m k v) k ≡ Some v
  get_here v = insert_here slot_cmp slot_total slot_exact m k v

  pub get_other : (v : X) (q : Slot) → q ≢ k → get (insert m k v) q ≡ get m q
  get_other v q far = insert_other slot_cmp slot_total slot_exact m k v q far

  pub gone_here : get (remove m k) k ≡ None
  gone_here = remove_here slot_cmp slot_total slot_exact m k

  pub gone_other : (q : Slot) → q ≢ k → get (remove m k) q ≡ get m q
  gone_other q far = remove_other slot_cmp slot_total slot_exact m k q far

-- ---- a hash map

-- what `==` answers of two slots
abbrev pub slot_eq : Slot → Slot → Bool
slot_eq a b = nat_eq a.epoch b.epoch && nat_eq a.group b.group

pub slot_eq_exact : (a b : Slot) → slot_eq a b ≡ true → a ≡ b
slot_eq_exact a b h =
    let parts = and_parts (nat_eq a.epoch b.epoch) (nat_eq a.group b.group) h in
    let epoch = eqb-true a.epoch b.epoch parts.0 in
    let group = eqb-true a.group b.group parts.1 in
    λ i. record { epoch = epoch i; group = group i }

pub slot_eq_self : (a : Slot) → slot_eq a a ≡ true
slot_eq_self a = λ i. eq-eqb a.epoch a.epoch refl i && eq-eqb a.group a.group refl i

module _ {X : Type 0} where
  -- what the finite map has at a slot
  pub got : (es : List (Slot × X)) (slot : Slot) → get (from_entries {R = slot_cmp} es) slot ≡ lookup (slot_eq slot) es
  got es slot = maps.get-entries slot_eq slot_cmp slot_total slot_exact slot_eq_exact slot_eq_self es slot

  -- entries in which each slot finds the same make the same map
  pub same : (es fs : List (Slot × X)) → ((q : Slot) → lookup (slot_eq q) fs ≡ lookup (slot_eq q) es) → from_entries {R = slot_cmp} fs ≡ from_entries es
  same es fs h = maps.same_entries slot_eq slot_cmp slot_total slot_exact slot_eq_exact slot_eq_self es fs h

  -- entries that differ at one slot make maps that differ there
  pub put : (es fs : List (Slot × X)) (slot : Slot) (v : X) → ((q : Slot) → lookup (slot_eq q) fs ≡ cond (slot_eq slot q) (Some v) (lookup (slot_eq q) es)) → from_entries {R = slot_cmp} fs ≡ insert (from_entries es) slot v
  put es fs slot v h = maps.one_put slot_eq slot_cmp slot_total slot_exact slot_eq_exact slot_eq_self es fs slot v h

  -- entries of which one slot has gone make a map without it
  pub removed : (es fs : List (Slot × X)) (slot : Slot) → ((q : Slot) → lookup (slot_eq q) fs ≡ cond (slot_eq slot q) None (lookup (slot_eq q) es)) → from_entries {R = slot_cmp} fs ≡ remove (from_entries es) slot
  removed es fs slot h = maps.one_removed slot_eq slot_cmp slot_total slot_exact slot_eq_exact slot_eq_self es fs slot h
