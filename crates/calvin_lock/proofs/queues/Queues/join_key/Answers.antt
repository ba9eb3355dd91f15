use Rattle.std.proofs.Common.{◌++◌, [], ◌∷◌, cond, is_some, Some, subst, sym, ap, arith}
use Rattle.std.proofs.lemmas.Map.Entries.{sum_by-set_value}
use Rattle.calvin_types.specs.SameKeys.{equal_keys}
use Rattle.calvin_types.specs.SameKeysLaws.{equal_keys_self}
use Rattle.calvin_lock.specs.declared.queue.Queue.{Queue}
use Rattle.calvin_lock.specs.Queues.{IsQueueAt, waits_in, waits_of}
use Rattle.calvin_lock.proofs.QueueMaps.{changed, queue_found, none_is_new}
use Rattle.calvin_lock.proofs.queues.Queues.join_key.Goals as goal

pub returns-in-Some-clause-kept : goal.returns-in-Some-clause-kept
returns-in-Some-clause-kept c = λ asks queues.
    let es = c.args.self.now.queues.entries in
    let w = c.join.new.self in
    let writes = c.get_mut.follows.holds w in
    let found = sym c.in-Some.ensures.value in
    let at = c.join.ensures.queue (asks c.args.key) (queue_found asks es c.args.key (Some c.in-Some.queue.now) queues found) in
    changed asks (λ k. cond (equal_keys c.args.key k) (asks k ++ c.args.ask ∷ []) (asks k)) es (c.get_mut.follows.lender w).entries c.args.key (Some w) queues writes.4 (writes.3 (ap is_some found)).0
    (subst (λ b. IsQueueAt (cond b (asks c.args.key ++ c.args.ask ∷ []) (asks c.args.key)) (Some w)) (sym (equal_keys_self c.args.key)) at)
    (λ k apart. sym (ap (λ b. cond b (asks k ++ c.args.ask ∷ []) (asks k)) apart))

pub returns-in-Some-clause-waits : goal.returns-in-Some-clause-waits
returns-in-Some-clause-waits c = λ q.
    let es = c.args.self.now.queues.entries in
    let w = c.join.new.self in
    let writes = c.get_mut.follows.holds w in
    let found = sym c.in-Some.ensures.value in
    let sum = sum_by-set_value (λ (v : Queue). waits_in q v.waiting.items) (equal_keys c.args.key) es c.in-Some.queue.now w found in
    let now = ap (waits_of q) writes.0 in
    let one = c.join.ensures.waiting q in
    omega (arith, sum, now, one)

pub returns-in-Some-clause-none_new : goal.returns-in-Some-clause-none_new
returns-in-Some-clause-none_new c =
    let w = c.join.new.self in
    let writes = c.get_mut.follows.holds w in
    let found = sym c.in-Some.ensures.value in
    none_is_new c.args.self.now.queues.entries (c.get_mut.follows.lender w).entries c.args.key (Some w) (writes.3 (ap is_some found)).0 c.in-Some.queue.now found
