use Rattle.std.proofs.Common.{◌≡◌, ◌+◌, ◌≤◌, ◌++◌, List, false, take, if◌then◌else◌}
use Rattle.calvin_types.specs.declared.key.Key.{Key}
use Rattle.calvin_types.specs.declared.place.Place.{Place}
use Rattle.calvin_lock.specs.declared.queue.Kind.{Kind}
use Rattle.calvin_lock.specs.declared.queue.Ask.{Ask}
use Rattle.calvin_lock.specs.Queues.{equal_places, waits_of, ask_if, asked, AreQueuesOrEmpty, NoneIsNew, HasRoomAt}
use Rattle.calvin_lock.proofs.queues.Queues.join.Given as goal

abbrev pub invariant-loop-i : goal.invariant-loop-i
invariant-loop-i l = record {
  kept : (asks : Key → List Ask) → AreQueuesOrEmpty asks l.fn.self.queues.entries → AreQueuesOrEmpty (λ k. asks k ++ ask_if l.place l.kind (asked (take l.i l.keys) l.except k)) l.self.queues.entries;
  waits : (q : Place) → waits_of q l.self.queues.entries ≡ waits_of q l.fn.self.queues.entries + (if equal_places q l.place then l.waits else 0);
  room : (k : Key) (other : Kind) → asked (take l.i l.keys) l.except k ≡ false → HasRoomAt l.fn.self.queues.entries k other → HasRoomAt l.self.queues.entries k other;
  none_new : NoneIsNew l.fn.self.queues.entries l.self.queues.entries;
  few : l.waits ≤ l.i;
}
