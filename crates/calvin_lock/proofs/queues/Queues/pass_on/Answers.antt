use Rattle.std.proofs.Common.{◌≡◌, true, false, deque_len, Some, None, refl, sym, ap, ◌∙◌, arith}
use Rattle.std.proofs.lemmas.Bool.{false≢true}
use Rattle.calvin_types.specs.SameKeys.{equal_keys}
use Rattle.calvin_lock.specs.declared.queue.Kind.TheVariants as kind
use Rattle.calvin_lock.specs.declared.queue.Queue.{Queue}
use Rattle.indexmap.specs.IndexMap.{set_value_at}
use Rattle.indexmap.proofs.MapLemmas.{Missing-position}
use Rattle.calvin_lock.specs.Queues.{admits, IsQueueAt, waits_in, waits_of, holder_count}
use Rattle.calvin_lock.proofs.QueueLists.{count_without}
use Rattle.calvin_lock.proofs.QueueMaps.{changed, queue_found, fits_set, fits_gone, queue_now, free_empty, empty_free, free_none, nobody_leaves, none_here, none_is_new}
use Rattle.calvin_lock.proofs.QueuePlaces.{found_there, passed, passed_waits, set_there, set_distinct, gone_there, sum_gone_there}
use Rattle.calvin_lock.proofs.Waits.{waits_alike}
use Rattle.calvin_lock.proofs.queues.Queues.pass_on.Goals as goal

pub returns-in_default-clause-queues : goal.returns-in_default-clause-queues
returns-in_default-clause-queues c = λ before after queues leaves.
    let es = c.args.self.now.queues.entries in
    absurd (nobody_leaves (before c.args.key) (after c.args.key) leaves.0 (queue_found before es c.args.key None queues (Missing-position (equal_keys c.args.key) es (sym c.in_default.ensures.index)).value))

pub settle-requires-clause-fits : goal.settle-requires-clause-fits
settle-requires-clause-fits c =
    let m = c.args.self.now.queues in
    let at = c.in-Some.at in
    let key = c.args.key in
    let k = c.pair_mut-queue.result.0.now in
    let v = c.pair_mut-queue.result.1.now in
    let index = sym c.in-Some.ensures.index in
    let there = c.pair_mut-queue.ensures.value in
    let count = count_without v.holders in
    let holders = ap holder_count c.leave.ensures.holders in
    let waiting = ap deque_len c.leave.ensures.waiting in
    let fits = c.requires.fits key v (found_there m at key k v index there) in
    omega (arith, count, holders, waiting, fits)

pub returns-else-is_free-clause-fits : goal.returns-else-is_free-clause-fits
returns-else-is_free-clause-fits c =
    let m = c.args.self.now.queues in
    let at = c.in-Some.at in
    let key = c.args.key in
    let k = c.pair_mut-queue.result.0.now in
    let v = c.pair_mut-queue.result.1.now in
    let index = sym c.in-Some.ensures.index in
    let there = c.pair_mut-queue.ensures.value in
    let w = c.settle.new.queue in
    let mid = set_value_at m.entries at w in
    let updated = set_there m at key k v index there w c.pair_mut-queue.ensures.unique in
    fits_set m.entries mid key w updated c.settle.ensures.fits c.requires.fits

pub returns-else-is_free-clause-queues : goal.returns-else-is_free-clause-queues
returns-else-is_free-clause-queues c = λ before after queues leaves.
    let m = c.args.self.now.queues in
    let at = c.in-Some.at in
    let key = c.args.key in
    let k = c.pair_mut-queue.result.0.now in
    let v = c.pair_mut-queue.result.1.now in
    let index = sym c.in-Some.ensures.index in
    let there = c.pair_mut-queue.ensures.value in
    let w = c.settle.new.queue in
    let mid = set_value_at m.entries at w in
    let updated = set_there m at key k v index there w c.pair_mut-queue.ensures.unique in
    changed before after m.entries mid key (Some w) queues (set_distinct m at key k v index there w c.pair_mut-queue.ensures.unique) updated
    (c.settle.ensures.queue (after key) (passed (before key) (after key) v c.leave.new.self c.leave.ensures.holders c.leave.ensures.waiting leaves.0 (queue_found before m.entries key (Some v) queues (found_there m at key k v index there))), c.settle.ensures.settled, c.settle.ensures.fits) leaves.1

pub returns-else-is_free-clause-gone : goal.returns-else-is_free-clause-gone
returns-else-is_free-clause-gone c = λ before after queues leaves none.
    let m = c.args.self.now.queues in
    let at = c.in-Some.at in
    let key = c.args.key in
    let k = c.pair_mut-queue.result.0.now in
    let v = c.pair_mut-queue.result.1.now in
    let index = sym c.in-Some.ensures.index in
    let there = c.pair_mut-queue.ensures.value in
    let w = c.settle.new.queue in
    let mid = set_value_at m.entries at w in
    let updated = set_there m at key k v index there w c.pair_mut-queue.ensures.unique in
    let held : admits w.holders kind.Exclusive ≡ false = sym c.is_free.ensures ∙ c.if-is_free.false in
    let queue = c.settle.ensures.queue (after key) (passed (before key) (after key) v c.leave.new.self c.leave.ensures.holders c.leave.ensures.waiting leaves.0 (queue_found before m.entries key (Some v) queues (found_there m at key k v index there))) in
    absurd (false≢true (sym held ∙ empty_free (after key) w none (queue, c.settle.ensures.settled, c.settle.ensures.fits)))

pub returns-else-is_free-clause-none_new : goal.returns-else-is_free-clause-none_new
returns-else-is_free-clause-none_new c =
    let m = c.args.self.now.queues in
    let at = c.in-Some.at in
    let key = c.args.key in
    let k = c.pair_mut-queue.result.0.now in
    let v = c.pair_mut-queue.result.1.now in
    let index = sym c.in-Some.ensures.index in
    let there = c.pair_mut-queue.ensures.value in
    let w = c.settle.new.queue in
    let mid = set_value_at m.entries at w in
    let updated = set_there m at key k v index there w c.pair_mut-queue.ensures.unique in
    none_is_new m.entries mid key (Some w) updated v (found_there m at key k v index there)

pub returns-else-is_free-clause-waits : goal.returns-else-is_free-clause-waits
returns-else-is_free-clause-waits c = λ waits.
    let m = c.args.self.now.queues in
    let at = c.in-Some.at in
    let key = c.args.key in
    let k = c.pair_mut-queue.result.0.now in
    let v = c.pair_mut-queue.result.1.now in
    let index = sym c.in-Some.ensures.index in
    let there = c.pair_mut-queue.ensures.value in
    let w = c.settle.new.queue in
    passed_waits m.entries at key k v w there (found_there m at key k v index there) c.leave.new.self c.leave.ensures.waiting c.args.unreleased.now.places.entries c.settle.new.unreleased.places.entries c.settle.ensures.waits waits

pub returns-then-is_free-clause-fits : goal.returns-then-is_free-clause-fits
returns-then-is_free-clause-fits c =
    let m = c.args.self.now.queues in
    let at = c.in-Some.at in
    let key = c.args.key in
    let k = c.pair_mut-queue.result.0.now in
    let v = c.pair_mut-queue.result.1.now in
    let index = sym c.in-Some.ensures.index in
    let there = c.pair_mut-queue.ensures.value in
    let w = c.settle.new.queue in
    let mid = set_value_at m.entries at w in
    let updated = set_there m at key k v index there w c.pair_mut-queue.ensures.unique in
    let gone = gone_there m at key k v index there w c.swap_remove_index-queue.result c.swap_remove_index-queue.ensures.entry c.swap_remove_index-queue.new.self c.swap_remove_index-queue.ensures.updates in
    fits_gone mid c.swap_remove_index-queue.new.self.entries key gone (fits_set m.entries mid key w updated c.settle.ensures.fits c.requires.fits)

pub returns-then-is_free-clause-queues : goal.returns-then-is_free-clause-queues
returns-then-is_free-clause-queues c = λ before after queues leaves.
    let m = c.args.self.now.queues in
    let at = c.in-Some.at in
    let key = c.args.key in
    let k = c.pair_mut-queue.result.0.now in
    let v = c.pair_mut-queue.result.1.now in
    let index = sym c.in-Some.ensures.index in
    let there = c.pair_mut-queue.ensures.value in
    let w = c.settle.new.queue in
    let mid = set_value_at m.entries at w in
    let updated = set_there m at key k v index there w c.pair_mut-queue.ensures.unique in
    let gone = gone_there m at key k v index there w c.swap_remove_index-queue.result c.swap_remove_index-queue.ensures.entry c.swap_remove_index-queue.new.self c.swap_remove_index-queue.ensures.updates in
    let free : admits w.holders kind.Exclusive ≡ true = sym c.is_free.ensures ∙ c.if-is_free.true in
    let here : IsQueueAt (after key) (Some w) = (c.settle.ensures.queue (after key) (passed (before key) (after key) v c.leave.new.self c.leave.ensures.holders c.leave.ensures.waiting leaves.0 (queue_found before m.entries key (Some v) queues (found_there m at key k v index there))), c.settle.ensures.settled, c.settle.ensures.fits) in
    let half = changed before after m.entries mid key (Some w) queues (set_distinct m at key k v index there w c.pair_mut-queue.ensures.unique) updated here leaves.1 in
    changed after after mid c.swap_remove_index-queue.new.self.entries key None half c.swap_remove_index-queue.ensures.unique gone (free_empty (after key) w free here) (λ x apart. refl)

pub returns-then-is_free-clause-gone : goal.returns-then-is_free-clause-gone
returns-then-is_free-clause-gone c = λ before after queues leaves none.
    let m = c.args.self.now.queues in
    let at = c.in-Some.at in
    let key = c.args.key in
    let k = c.pair_mut-queue.result.0.now in
    let v = c.pair_mut-queue.result.1.now in
    let index = sym c.in-Some.ensures.index in
    let there = c.pair_mut-queue.ensures.value in
    let w = c.settle.new.queue in
    let mid = set_value_at m.entries at w in
    let updated = set_there m at key k v index there w c.pair_mut-queue.ensures.unique in
    let gone = gone_there m at key k v index there w c.swap_remove_index-queue.result c.swap_remove_index-queue.ensures.entry c.swap_remove_index-queue.new.self c.swap_remove_index-queue.ensures.updates in
    none_here mid c.swap_remove_index-queue.new.self.entries key None gone refl

pub returns-then-is_free-clause-none_new : goal.returns-then-is_free-clause-none_new
returns-then-is_free-clause-none_new c = λ q none.
    let m = c.args.self.now.queues in
    let at = c.in-Some.at in
    let key = c.args.key in
    let k = c.pair_mut-queue.result.0.now in
    let v = c.pair_mut-queue.result.1.now in
    let index = sym c.in-Some.ensures.index in
    let there = c.pair_mut-queue.ensures.value in
    let w = c.settle.new.queue in
    let mid = set_value_at m.entries at w in
    let updated = set_there m at key k v index there w c.pair_mut-queue.ensures.unique in
    let gone = gone_there m at key k v index there w c.swap_remove_index-queue.result c.swap_remove_index-queue.ensures.entry c.swap_remove_index-queue.new.self c.swap_remove_index-queue.ensures.updates in
    none_is_new mid c.swap_remove_index-queue.new.self.entries key None gone w (queue_now m.entries mid key (Some w) updated) q (none_is_new m.entries mid key (Some w) updated v (found_there m at key k v index there) q none)

pub returns-then-is_free-clause-waits : goal.returns-then-is_free-clause-waits
returns-then-is_free-clause-waits c = λ waits.
    let m = c.args.self.now.queues in
    let at = c.in-Some.at in
    let key = c.args.key in
    let k = c.pair_mut-queue.result.0.now in
    let v = c.pair_mut-queue.result.1.now in
    let index = sym c.in-Some.ensures.index in
    let there = c.pair_mut-queue.ensures.value in
    let w = c.settle.new.queue in
    let free : admits w.holders kind.Exclusive ≡ true = sym c.is_free.ensures ∙ c.if-is_free.true in
    waits_alike (λ q. waits_of q (set_value_at m.entries at w)) (λ q. waits_of q c.swap_remove_index-queue.new.self.entries) c.settle.new.unreleased.places.entries (λ q.
    let none = free_none w free c.settle.ensures.settled q in
    let sum = sum_gone_there m at key k v index there w c.swap_remove_index-queue.result c.swap_remove_index-queue.ensures.entry c.swap_remove_index-queue.new.self (λ (x : Queue). waits_in q x.waiting.items) c.swap_remove_index-queue.ensures.entries in
    omega (arith, none, sum))
    (passed_waits m.entries at key k v w there (found_there m at key k v index there) c.leave.new.self c.leave.ensures.waiting c.args.unreleased.now.places.entries c.settle.new.unreleased.places.entries c.settle.ensures.waits waits)
