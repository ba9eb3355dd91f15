use Rattle.std.proofs.Common.{◌≡◌, [], cond, Some, None, refl, subst, sym, ap, rules, arith}
use Rattle.std.specs.List.{IsDistinct}
use Rattle.std.specs.Map.{keys_of}
use Rattle.indexmap.specs.IndexMap.{insert_entry}
use Rattle.calvin_types.specs.declared.key.Key.{Key}
use Rattle.calvin_types.specs.SameKeys.{equal_keys}
use Rattle.calvin_lock.specs.declared.queue.Queue.{Queue}
use Rattle.calvin_lock.specs.Queues.{IsQueueAt, HasRoom, queue_at, waits_in, waits_of}
use Rattle.calvin_lock.proofs.Entries.{sum_new, sum_put}
use Rattle.calvin_lock.proofs.QueueMaps.{changed, queue_found, same_queue, room_here, room_kept, room_new}
use Rattle.calvin_lock.proofs.queues.Queues.reserve_key.Goals as goal

pub returns-in-Occupied-clause-kept : goal.returns-in-Occupied-clause-kept
returns-in-Occupied-clause-kept c = λ asks queues.
    let es = c.args.self.now.queues.entries in
    let now = c.self-in-Occupied-2-1.given.0 in
    let v = c.into_mut.result.now in
    let w = c.reserve.new.self in
    let updated : (k : Key) → queue_at now.entries k ≡ cond (equal_keys c.args.key k) (Some w) (queue_at es k) = search rules in
    let unique : IsDistinct equal_keys (keys_of now.entries) = search rules in
    let found : queue_at es c.args.key ≡ Some v = search rules in
    let at = same_queue (asks c.args.key) v w c.reserve.ensures.holders c.reserve.ensures.waiting c.reserve.ensures.len (queue_found asks es c.args.key (Some v) queues found) in
    changed asks asks es now.entries c.args.key (Some w) queues unique updated at (λ k apart. refl)

pub returns-in-Occupied-clause-waits : goal.returns-in-Occupied-clause-waits
returns-in-Occupied-clause-waits c = λ q.
    let es = c.args.self.now.queues.entries in
    let now = c.self-in-Occupied-2-1.given.0 in
    let v = c.into_mut.result.now in
    let w = c.reserve.new.self in
    let entries : now.entries ≡ insert_entry equal_keys es c.args.key w = search rules in
    let found : queue_at es c.args.key ≡ Some v = search rules in
    let sum = sum_put (λ (x : Queue). waits_in q x.waiting.items) equal_keys c.args.key v w es found in
    let same = ap (waits_of q) entries in
    let one = ap (waits_in q) c.reserve.ensures.waiting in
    omega (arith, sum, same, one)

pub returns-in-Occupied-clause-room : goal.returns-in-Occupied-clause-room
returns-in-Occupied-clause-room c =
    let es = c.args.self.now.queues.entries in
    let now = c.self-in-Occupied-2-1.given.0 in
    let v = c.into_mut.result.now in
    let w = c.reserve.new.self in
    let updated : (k : Key) → queue_at now.entries k ≡ cond (equal_keys c.args.key k) (Some w) (queue_at es k) = search rules in
    let found : queue_at es c.args.key ≡ Some v = search rules in
    room_kept es now.entries c.args.key w updated v found c.reserve.ensures.room

pub returns-in_ok-reserve-in-Vacant-clause-kept : goal.returns-in_ok-reserve-in-Vacant-clause-kept
returns-in_ok-reserve-in-Vacant-clause-kept c = λ asks queues.
    let es = c.args.self.now.queues.entries in
    let now = c.self-in-Vacant-2-1.given.0 in
    let w = c.reserve-in-Vacant.new.self in
    let updated : (k : Key) → queue_at now.entries k ≡ cond (equal_keys c.args.key k) (Some w) (queue_at es k) = search rules in
    let unique : IsDistinct equal_keys (keys_of now.entries) = search rules in
    let none : queue_at es c.args.key ≡ None = search rules in
    let at = same_queue [] c.new-queue.result w c.reserve-in-Vacant.ensures.holders c.reserve-in-Vacant.ensures.waiting c.reserve-in-Vacant.ensures.len c.new-queue.ensures.queue in
    let here = subst (λ l. IsQueueAt l (Some w)) (sym (queue_found asks es c.args.key None queues none)) at in
    changed asks asks es now.entries c.args.key (Some w) queues unique updated here (λ k apart. refl)

pub returns-in_ok-reserve-in-Vacant-clause-waits : goal.returns-in_ok-reserve-in-Vacant-clause-waits
returns-in_ok-reserve-in-Vacant-clause-waits c = λ q.
    let es = c.args.self.now.queues.entries in
    let now = c.self-in-Vacant-2-1.given.0 in
    let w = c.reserve-in-Vacant.new.self in
    let entries : now.entries ≡ insert_entry equal_keys es c.args.key w = search rules in
    let none : queue_at es c.args.key ≡ None = search rules in
    let sum = sum_new (λ (x : Queue). waits_in q x.waiting.items) equal_keys c.args.key w es none in
    let same = ap (waits_of q) entries in
    let kept = ap (waits_in q) c.reserve-in-Vacant.ensures.waiting in
    let zero = ap (waits_in q) c.new-queue.ensures.waiting in
    omega (arith, sum, same, kept, zero)

pub returns-in_ok-reserve-in-Vacant-clause-room : goal.returns-in_ok-reserve-in-Vacant-clause-room
returns-in_ok-reserve-in-Vacant-clause-room c =
    let es = c.args.self.now.queues.entries in
    let now = c.self-in-Vacant-2-1.given.0 in
    let w = c.reserve-in-Vacant.new.self in
    let updated : (k : Key) → queue_at now.entries k ≡ cond (equal_keys c.args.key k) (Some w) (queue_at es k) = search rules in
    let none : queue_at es c.args.key ≡ None = search rules in
    room_new es now.entries c.args.key w updated none

pub returns-in_ok-reserve-in-Vacant-clause-ok : goal.returns-in_ok-reserve-in-Vacant-clause-ok
returns-in_ok-reserve-in-Vacant-clause-ok c =
    let es = c.args.self.now.queues.entries in
    let now = c.self-in-Vacant-2-1.given.0 in
    let w = c.reserve-in-Vacant.new.self in
    let updated : (k : Key) → queue_at now.entries k ≡ cond (equal_keys c.args.key k) (Some w) (queue_at es k) = search rules in
    let room : HasRoom w c.args.kind = search rules in
    room_here es now.entries c.args.key w updated c.args.kind room
