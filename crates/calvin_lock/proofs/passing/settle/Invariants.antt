use Rattle.std.proofs.Common.{◌≡◌, ℕ, ◌+◌, List}
use Rattle.std.specs.Option.{option_map}
use Rattle.std.specs.VecDeque.{deque_len}
use Rattle.calvin_types.specs.declared.place.Place.{Place}
use Rattle.calvin_lock.specs.declared.queue.Ask.{Ask}
use Rattle.calvin_lock.specs.declared.unreleased.Pending.{Pending}
use Rattle.calvin_lock.specs.Queues.{Fits, IsQueueOf, waits_in}
use Rattle.calvin_lock.specs.Unreleased.{IsUnreleased, WaitsFor, pending_at}
use Rattle.calvin_lock.proofs.passing.settle.Given as goal

abbrev pub invariant-loop-place : goal.invariant-loop-place
invariant-loop-place l = record {
  kept : IsUnreleased l.unreleased;
  fits : Fits l.queue;
  queue : (asks : List Ask) → IsQueueOf asks l.fn.queue.holders l.fn.queue.waiting.items → IsQueueOf asks l.queue.holders l.queue.waiting.items;
  sets : (q : Place) → option_map (λ (p : Pending). p.sets) (pending_at l.unreleased.places.entries q) ≡ option_map (λ (p : Pending). p.sets) (pending_at l.fn.unreleased.places.entries q);
  order : l.unreleased.order.items ≡ l.fn.unreleased.order.items;
  waits : (more : Place → ℕ) → WaitsFor (λ q. more q + waits_in q l.fn.queue.waiting.items) l.fn.unreleased.places.entries → WaitsFor (λ q. more q + waits_in q l.queue.waiting.items) l.unreleased.places.entries;
}

abbrev pub decreases-loop-place : goal.decreases-loop-place
decreases-loop-place l = deque_len l.queue.waiting
