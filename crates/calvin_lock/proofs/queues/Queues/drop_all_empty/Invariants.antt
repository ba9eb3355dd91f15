use Rattle.std.proofs.Common.{◌≡◌, List, [], true, None, take}
use Rattle.calvin_types.specs.declared.key.Key.{Key}
use Rattle.calvin_types.specs.declared.place.Place.{Place}
use Rattle.calvin_lock.specs.declared.queue.Ask.{Ask}
use Rattle.calvin_lock.specs.Queues.{asked, waits_of, queue_at, AreQueuesOrEmpty, NoneIsNew}
use Rattle.calvin_lock.proofs.queues.Queues.drop_all_empty.Given as goal

abbrev pub invariant-loop-i : goal.invariant-loop-i
invariant-loop-i l = record {
  kept : (asks : Key → List Ask) → AreQueuesOrEmpty asks l.fn.self.queues.entries → AreQueuesOrEmpty asks l.self.queues.entries;
  waits : (asks : Key → List Ask) → AreQueuesOrEmpty asks l.fn.self.queues.entries → (q : Place) → waits_of q l.self.queues.entries ≡ waits_of q l.fn.self.queues.entries;
  gone : (asks : Key → List Ask) → AreQueuesOrEmpty asks l.fn.self.queues.entries → (k : Key) → asked (take l.i l.keys) [] k ≡ true → asks k ≡ [] → queue_at l.self.queues.entries k ≡ None;
  none_new : NoneIsNew l.fn.self.queues.entries l.self.queues.entries;
}
