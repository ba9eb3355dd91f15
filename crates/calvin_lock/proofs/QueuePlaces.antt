-- The queue of a key, changed or let go where it stands in the map.
use Rattle.std.proofs.Common.{◌≡◌, ℕ, ◌+◌, ◌-◌, arith, cond, List, Option, Some, None, slice_get, position, sym, ap, subst, ◌∙◌}
use Rattle.std.proofs.lemmas.Map.Made.{lookup_key_passes}
use Rattle.std.proofs.lemmas.Option.{slice_get-map}
use Rattle.std.specs.List.{sum_by, swap_remove, IsDistinct}
use Rattle.std.specs.Option.{option_map, IfSome}
use Rattle.std.specs.Map.{keys_of, values_of}
use Rattle.indexmap.specs.IndexMap.{IndexMap, set_value_at, with_value_at, Updates}
use Rattle.indexmap.proofs.CallerLemmas.{keys-with_value_at, updates-with_value_at}
use Rattle.indexmap.proofs.MapLemmas.{Found-position}
use Rattle.calvin_types.specs.declared.key.Key.{Key}
use Rattle.calvin_types.specs.SameKeys.{equal_keys}
use Rattle.calvin_types.specs.SameKeysLaws.{equal_keys_exact, equal_keys_equiv}
use Rattle.calvin_lock.specs.declared.queue.Queue.{Queue}
use Rattle.calvin_types.specs.declared.place.Place.{Place}
use Rattle.calvin_lock.specs.declared.queue.Ask.{Ask}
use Rattle.calvin_lock.specs.declared.unreleased.Pending.{Pending}
use Rattle.calvin_lock.specs.Queues.{IsQueueAt, IsQueueOf, Leaves, queue_at, waits_in, waits_of, without_holder}
use Rattle.calvin_lock.specs.Unreleased.{WaitsFor}
use Rattle.calvin_lock.proofs.Entries.{of_some, set_stands, sum_taken, sum_set, sum_least}
use Rattle.calvin_lock.proofs.QueueMaps.{left_queue}
use Rattle.calvin_lock.proofs.Waits.{waits_alike}

module _ {S : Type 0} (m : IndexMap Key Queue S) (at : ℕ) (key k : Key) (v : Queue) (index : position (equal_keys key) (keys_of m.entries) ≡ Some at) (there : slice_get m.entries at ≡ Some (k, v)) where
  key_there : key ≡ k
  key_there = equal_keys_exact key k (lookup_key_passes (equal_keys key) m.entries k ((Found-position (equal_keys key) m.entries at index).key ∙ slice_get-map (λ (e : Key × Queue). e.0) m.entries at ∙ ap (option_map (λ (e : Key × Queue). e.0)) there))

  -- it is the key's
  pub found_there : queue_at m.entries key ≡ Some v
  found_there = (Found-position (equal_keys key) m.entries at index).value ∙ slice_get-map (λ (e : Key × Queue). e.1) m.entries at ∙ ap (option_map (λ (e : Key × Queue). e.1)) there

  -- so a change of it is the key's alone
  pub set_there : (w : Queue) → IsDistinct equal_keys (keys_of m.entries) → (q : Key) → queue_at (set_value_at m.entries at w) q ≡ cond (equal_keys key q) (Some w) (queue_at m.entries q)
  set_there w distinct q = (updates-with_value_at m at w equal_keys_equiv distinct k v there).0 q ∙ ap (λ x. cond (equal_keys x q) (Some w) (queue_at m.entries q)) (sym key_there)

  pub set_distinct : (w : Queue) → IsDistinct equal_keys (keys_of m.entries) → IsDistinct equal_keys (keys_of (set_value_at m.entries at w))
  set_distinct w distinct = subst (IsDistinct equal_keys) (sym (keys-with_value_at m at w)) distinct

  -- and so is that it goes once it was changed
  module _ (w : Queue) (taken : Option (Key × Queue)) (entry : taken ≡ slice_get (set_value_at m.entries at w) at) (n : IndexMap Key Queue S) where
    taken_is : taken ≡ Some (k, w)
    taken_is = entry ∙ set_stands at k v w m.entries there

    pub gone_there : IfSome taken (λ p. Updates equal_keys (with_value_at m at w) n p.0 None) → (q : Key) → queue_at n.entries q ≡ cond (equal_keys key q) None (queue_at (set_value_at m.entries at w) q)
    gone_there updates q = (of_some taken (k, w) (λ p. Updates equal_keys (with_value_at m at w) n p.0 None) taken_is updates).0 q ∙ ap (λ x. cond (equal_keys x q) None (queue_at (set_value_at m.entries at w) q)) (sym key_there)

    pub sum_gone_there : (f : Queue → ℕ) → IfSome taken (λ p. n.entries ≡ swap_remove (set_value_at m.entries at w) at p) → sum_by f (values_of n.entries) + f w ≡ sum_by f (values_of (set_value_at m.entries at w))
    sum_gone_there f entries = ap (λ l. sum_by f (values_of l) + f w) (of_some taken (k, w) (λ p. n.entries ≡ swap_remove (set_value_at m.entries at w) at p) taken_is entries) ∙ sum_taken f at (k, w) (set_value_at m.entries at w) (set_stands at k v w m.entries there)

-- one that is first leaves the queue
pub passed : (before after : List Ask) (v left : Queue) → left.holders ≡ without_holder v.holders → left.waiting ≡ v.waiting → Leaves before after → IsQueueAt before (Some v) → IsQueueOf after left.holders left.waiting.items
passed before after v left holders waiting leaves queue =
    subst (λ l. IsQueueOf after left.holders l) (sym (ap (λ d. d.items) waiting)) (subst (λ h. IsQueueOf after h v.waiting.items) (sym holders) (left_queue before after v leaves queue))

-- and each place waits for as many keys as before, but for those of the queue
pub passed_waits : (es : List (Key × Queue)) (at : ℕ) (key k : Key) (v w : Queue) → slice_get es at ≡ Some (k, v) → queue_at es key ≡ Some v → (left : Queue) → left.waiting ≡ v.waiting → (places now : List (Place × Pending))
    → ((more : Place → ℕ) → WaitsFor (λ q. more q + waits_in q left.waiting.items) places → WaitsFor (λ q. more q + waits_in q w.waiting.items) now)
    → WaitsFor (λ q. waits_of q es) places → WaitsFor (λ q. waits_of q (set_value_at es at w)) now
passed_waits es at key k v w there found left waiting places now passes waits =
    waits_alike (λ q. more q + waits_in q w.waiting.items) (λ q. waits_of q (set_value_at es at w)) now (λ q.
    let least = sum_least (λ (x : Queue). waits_in q x.waiting.items) (equal_keys key) v es found in
    let sum = sum_set (λ (x : Queue). waits_in q x.waiting.items) at k v w es there in
    omega (arith, least, sum))
    (passes more (waits_alike (λ q. waits_of q es) (λ q. more q + waits_in q left.waiting.items) places (λ q.
    let least = sum_least (λ (x : Queue). waits_in q x.waiting.items) (equal_keys key) v es found in
    let same = ap (λ d. waits_in q d.items) waiting in
    omega (arith, least, same)) waits))
  where
    more : Place → ℕ
    more q = waits_of q es - waits_in q v.waiting.items
