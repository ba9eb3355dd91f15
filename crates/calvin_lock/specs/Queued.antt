-- What lock queues keep of the unreleased requests. The notion is of this project.
--     requests_of pending      the unreleased requests, in any order
--     IsQueued queues u last      the queues and the waiting places are those of the unreleased requests, in their order, and no
--         queue is of nobody
use Rattle.std.specs.Prelude.{◌≡◌, List, Option, map}
use Rattle.std.specs.Option.{option_map}
use Rattle.std.specs.FinMap.{find}
use Rattle.calvin_types.specs.declared.key.Key.{Key}
use Rattle.calvin_types.specs.declared.key_set.Sets.{Sets}
use Rattle.calvin_types.specs.declared.place.Place.{Place}
use Rattle.calvin_types.specs.Places.{place_cmp}
use Rattle.calvin_lock.specs.ListOrder.{IsInOrder}
use Rattle.calvin_lock.specs.Queues.{asks_of, waits_of, AreQueues}
use Rattle.calvin_lock.specs.Unreleased.{pending_at, WaitsFor, IsUnreleased, IsUpTo}
use Rattle.calvin_lock.specs.declared.queue.Queue.{Queue}
use Rattle.calvin_lock.specs.declared.unreleased.Pending.{Pending}
use Rattle.calvin_lock.specs.declared.unreleased.Unreleased.{Unreleased}

abbrev pub requests_of : List (Place × Pending) → List (Place × Sets)
requests_of pending = map (λ (e : Place × Pending). (e.0, e.1.sets)) pending

pub record IsQueued (queues : List (Key × Queue)) (u : Unreleased) (last : Option Place) : Type 0 where
  pub requests : List (Place × Sets)
  pub order : IsInOrder requests last
  pub same : (q : Place) → find place_cmp q requests ≡ option_map (λ (p : Pending). p.sets) (pending_at u.places.entries q)
  pub asked : AreQueues (λ k. asks_of k requests) queues
  pub waits : WaitsFor (λ q. waits_of q queues) u.places.entries
  pub unreleased : IsUnreleased u
  pub up_to : IsUpTo u last
