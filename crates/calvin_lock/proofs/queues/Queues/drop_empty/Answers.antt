use Rattle.std.proofs.Common.{◌≡◌, true, false, Some, None, refl, sym, ap, ◌∙◌, rules, arith}
use Rattle.std.proofs.lemmas.Bool.{false≢true}
use Rattle.calvin_lock.specs.declared.queue.Kind.TheVariants as kind
use Rattle.calvin_lock.specs.declared.queue.Queue.{Queue}
use Rattle.calvin_types.specs.SameKeys.{equal_keys}
use Rattle.calvin_lock.specs.Queues.{queue_at, waits_in, waits_of, admits}
use Rattle.calvin_lock.proofs.Entries.{sum_gone}
use Rattle.calvin_lock.proofs.QueueMaps.{changed, queue_found, free_empty, empty_free, free_none, fits_gone, none_here, none_is_new}
use Rattle.calvin_lock.proofs.queues.Queues.drop_empty.Goals as goal

pub returns-then-is_free-clause-kept : goal.returns-then-is_free-clause-kept
returns-then-is_free-clause-kept c = λ asks queues.
    let es = c.args.self.now.queues.entries in
    let found : queue_at es c.args.key ≡ Some c.in-Some.queue.now = search rules in
    let free : admits c.in-Some.queue.now.holders kind.Exclusive ≡ true = search rules in
    changed asks asks es c.swap_remove-queue.new.self.entries c.args.key None queues c.swap_remove-queue.ensures.unique c.swap_remove-queue.ensures.updates.0 (free_empty (asks c.args.key) c.in-Some.queue.now free (queue_found asks es c.args.key (Some c.in-Some.queue.now) queues found)) (λ k apart. refl)

pub returns-then-is_free-clause-waits : goal.returns-then-is_free-clause-waits
returns-then-is_free-clause-waits c = λ asks queues q.
    let es = c.args.self.now.queues.entries in
    let found : queue_at es c.args.key ≡ Some c.in-Some.queue.now = search rules in
    let free : admits c.in-Some.queue.now.holders kind.Exclusive ≡ true = search rules in
    let none = free_none c.in-Some.queue.now free (queue_found asks es c.args.key (Some c.in-Some.queue.now) queues found).1 q in
    let sum = sum_gone (λ (v : Queue). waits_in q v.waiting.items) (equal_keys c.args.key) c.in-Some.queue.now es found in
    let now = ap (waits_of q) c.swap_remove-queue.ensures.entries in
    omega (arith, none, sum, now)

pub returns-then-is_free-clause-fits : goal.returns-then-is_free-clause-fits
returns-then-is_free-clause-fits c = λ fits k v found. fits_gone c.args.self.now.queues.entries c.swap_remove-queue.new.self.entries c.args.key c.swap_remove-queue.ensures.updates.0 fits k v found

pub returns-then-is_free-clause-gone : goal.returns-then-is_free-clause-gone
returns-then-is_free-clause-gone c = λ asks queues none.
    none_here c.args.self.now.queues.entries c.swap_remove-queue.new.self.entries c.args.key None c.swap_remove-queue.ensures.updates.0 refl

pub returns-then-is_free-clause-none_new : goal.returns-then-is_free-clause-none_new
returns-then-is_free-clause-none_new c =
    let found : queue_at c.args.self.now.queues.entries c.args.key ≡ Some c.in-Some.queue.now = search rules in
    none_is_new c.args.self.now.queues.entries c.swap_remove-queue.new.self.entries c.args.key None c.swap_remove-queue.ensures.updates.0 c.in-Some.queue.now found

pub returns-else-is_free-clause-gone : goal.returns-else-is_free-clause-gone
returns-else-is_free-clause-gone c = λ asks queues none.
    let found : queue_at c.args.self.now.queues.entries c.args.key ≡ Some c.in-Some.queue.now = search rules in
    let held : admits c.in-Some.queue.now.holders kind.Exclusive ≡ false = search rules in
    absurd (false≢true (sym held ∙ empty_free (asks c.args.key) c.in-Some.queue.now none (queue_found asks c.args.self.now.queues.entries c.args.key (Some c.in-Some.queue.now) queues found)))

pub returns-in_default-clause-gone : goal.returns-in_default-clause-gone
returns-in_default-clause-gone c = λ asks queues none. search rules
