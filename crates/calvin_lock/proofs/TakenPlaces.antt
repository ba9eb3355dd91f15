-- A place that is taken out where it stands in the map.
use Rattle.std.proofs.Common.{◌≡◌, ℕ, cond, Option, Some, None, slice_get, sym, ap, ◌∙◌}
use Rattle.std.proofs.lemmas.Map.Made.{lookup_key_passes}
use Rattle.std.specs.Option.{IfSome}
use Rattle.std.specs.Map.{lookup_key}
use Rattle.indexmap.specs.IndexMap.{IndexMap, Updates}
use Rattle.calvin_types.specs.declared.place.Place.{Place}
use Rattle.calvin_lock.specs.declared.unreleased.Pending.{Pending}
use Rattle.calvin_lock.specs.Queues.{equal_places}
use Rattle.calvin_lock.specs.Unreleased.{pending_at}
use Rattle.calvin_lock.proofs.Entries.{of_some}
use Rattle.calvin_lock.proofs.PlaceTests.{places_exact}

pub gone_at : {S : Type 0} (m : IndexMap Place Pending S) (place k : Place) (p : Pending) (at : ℕ) → Some k ≡ lookup_key (equal_places place) m.entries → slice_get m.entries at ≡ Some (k, p)
    → (taken : Option (Place × Pending)) → taken ≡ slice_get m.entries at → (n : IndexMap Place Pending S) → IfSome taken (λ e. Updates equal_places m n e.0 None) → (q : Place) → pending_at n.entries q ≡ cond (equal_places place q) None (pending_at m.entries q)
gone_at m place k p at key there taken entry n updates q =
    let same = places_exact place k (lookup_key_passes (equal_places place) m.entries k (sym key)) in
    (of_some taken (k, p) (λ e. Updates equal_places m n e.0 None) (entry ∙ there) updates).0 q ∙ ap (λ x. cond (equal_places x q) None (pending_at m.entries q)) (sym same)
