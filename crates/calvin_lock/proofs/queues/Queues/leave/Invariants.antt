use Rattle.std.proofs.Common.{◌≡◌, List, true, take, cond}
use Rattle.std.specs.Option.{option_map}
use Rattle.calvin_types.specs.declared.key.Key.{Key}
use Rattle.calvin_types.specs.declared.place.Place.{Place}
use Rattle.calvin_lock.specs.declared.queue.Ask.{Ask}
use Rattle.calvin_lock.specs.declared.unreleased.Pending.{Pending}
use Rattle.calvin_lock.specs.Queues.{waits_of, asked, AreQueuesOrEmpty, AreQueues, NoneIsEmpty, AllFit, Leaves}
use Rattle.calvin_lock.specs.Unreleased.{IsUnreleased, WaitsFor, pending_at}
use Rattle.calvin_lock.proofs.queues.Queues.leave.Given as goal

abbrev pub invariant-loop-i : goal.invariant-loop-i
invariant-loop-i l = record {
  kept : IsUnreleased l.unreleased;
  fits : AllFit l.self.queues.entries;
  sets : (q : Place) → option_map (λ (p : Pending). p.sets) (pending_at l.unreleased.places.entries q) ≡ option_map (λ (p : Pending). p.sets) (pending_at l.fn.unreleased.places.entries q);
  order : l.unreleased.order.items ≡ l.fn.unreleased.order.items;
  queues : (before after : Key → List Ask) → AreQueuesOrEmpty before l.fn.self.queues.entries → ((k : Key) → asked l.keys l.except k ≡ true → Leaves (before k) (after k)) → AreQueuesOrEmpty (λ k. cond (asked (take l.i l.keys) l.except k) (after k) (before k)) l.self.queues.entries;
  nobody : (before after : Key → List Ask) → AreQueues before l.fn.self.queues.entries → ((k : Key) → asked l.keys l.except k ≡ true → Leaves (before k) (after k)) → NoneIsEmpty (λ k. cond (asked (take l.i l.keys) l.except k) (after k) (before k)) l.self.queues.entries;
  waits : (before after : Key → List Ask) → AreQueuesOrEmpty before l.fn.self.queues.entries → ((k : Key) → asked l.keys l.except k ≡ true → Leaves (before k) (after k)) → WaitsFor (λ q. waits_of q l.fn.self.queues.entries) l.fn.unreleased.places.entries → WaitsFor (λ q. waits_of q l.self.queues.entries) l.unreleased.places.entries;
}
