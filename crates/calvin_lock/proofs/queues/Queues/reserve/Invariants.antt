use Rattle.std.proofs.Common.{◌≡◌, List, true, false, None, take}
use Rattle.calvin_types.specs.declared.key.Key.{Key}
use Rattle.calvin_types.specs.declared.place.Place.{Place}
use Rattle.calvin_lock.specs.declared.queue.Kind.{Kind}
use Rattle.calvin_lock.specs.declared.queue.Ask.{Ask}
use Rattle.calvin_lock.specs.Queues.{waits_of, asked, queue_at, AreQueuesOrEmpty, HasRoomAt}
use Rattle.calvin_lock.proofs.queues.Queues.reserve.Given as goal

abbrev pub invariant-loop-i : goal.invariant-loop-i
invariant-loop-i l = record {
  kept : (asks : Key → List Ask) → AreQueuesOrEmpty asks l.fn.self.queues.entries → AreQueuesOrEmpty asks l.self.queues.entries;
  waits : (q : Place) → waits_of q l.self.queues.entries ≡ waits_of q l.fn.self.queues.entries;
  room : (k : Key) (other : Kind) → HasRoomAt l.fn.self.queues.entries k other → HasRoomAt l.self.queues.entries k other;
  others : (k : Key) → asked l.keys l.except k ≡ false → queue_at l.fn.self.queues.entries k ≡ None → queue_at l.self.queues.entries k ≡ None;
  ok : (k : Key) → asked (take l.i l.keys) l.except k ≡ true → HasRoomAt l.self.queues.entries k l.kind;
}
