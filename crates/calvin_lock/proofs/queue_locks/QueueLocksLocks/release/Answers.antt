use Rattle.std.proofs.Common.{◌≡◌, Some, refl, subst, sym, ap, ◌∙◌}
use Rattle.std.proofs.lemmas.Bool.{false≢true}
use Rattle.std.specs.FinMap as map
use Rattle.calvin_types.specs.declared.key_set.Sets.{Sets}
use Rattle.calvin_lock.specs.Ready.{IsReady}
use Rattle.calvin_lock.specs.Queues.{AreQueues}
use Rattle.calvin_lock.specs.Unreleased.{pending_at}
use Rattle.calvin_lock.proofs.QueuedSteps.{ready_iff, before_release, after_release, mid_release, leaves_written, leaves_read, taken_waits, released, released_map}
use Rattle.calvin_lock.proofs.queue_locks.QueueLocksLocks.release.Goals as goal

pub invariant_of-self : goal.invariant_of-self
invariant_of-self c =
    let qs = c.self.inside.queues.queues.entries in
    let u = c.self.inside.unreleased in
    let last = c.self.inside.last in
    let k = c.self.invariant in
    let h : Sets = record { reads = c.reads-reads.result.now; writes = c.writes-writes.result.now } in
    let n = c.in-Some.ensures.taken.0.0 in
    let ready = subst (λ (sets : Sets). pending_at u.places.entries c.args.place ≡ Some (record { sets = sets; waits = 0; near = n })) (λ i. record { reads = sym c.reads-reads.ensures.keys i; writes = sym c.writes-writes.ensures.keys i }) c.in-Some.ensures.taken.0.1 in
    let gone = c.in-Some.ensures.taken.1 in
    let before = before_release qs u last k c.args.place h n ready in
    let after = after_release qs u last k c.args.place h n ready in
    let mid = mid_release qs u last k c.args.place h n ready in
    let written = leaves_written qs u last k c.args.place h n ready in
    let read = leaves_read qs u last k c.args.place h n ready in
    let half = c.leave.ensures.queues before after k.asked.served written in
    let tidy : AreQueues mid c.leave.new.self.queues.entries = record { served = half; nobody = c.leave.ensures.nobody before after k.asked written } in
    let waits = c.leave-in-Some.ensures.waits mid after half read (c.leave.ensures.waits before after k.asked.served written (taken_waits qs u last k c.args.place h n ready c.take.new.self.places.entries gone)) in
    released qs u last k c.args.place h n ready c.take.new.self.places.entries gone c.leave-in-Some.new.unreleased
    (λ q. c.leave-in-Some.ensures.sets q ∙ c.leave.ensures.sets q) (c.leave-in-Some.ensures.order ∙ c.leave.ensures.order ∙ c.take.ensures.order) c.leave-in-Some.new.self.queues.entries c.leave-in-Some.ensures.kept (record { served = c.leave-in-Some.ensures.queues mid after half read; nobody = c.leave-in-Some.ensures.nobody mid after tidy read }) waits

pub returns-in-Some-clause-ok : goal.returns-in-Some-clause-ok
returns-in-Some-clause-ok c =
    let qs = c.self.inside.queues.queues.entries in
    let u = c.self.inside.unreleased in
    let last = c.self.inside.last in
    let k = c.self.invariant in
    let h : Sets = record { reads = c.reads-reads.result.now; writes = c.writes-writes.result.now } in
    let n = c.in-Some.ensures.taken.0.0 in
    let ready = subst (λ (sets : Sets). pending_at u.places.entries c.args.place ≡ Some (record { sets = sets; waits = 0; near = n })) (λ i. record { reads = sym c.reads-reads.ensures.keys i; writes = sym c.writes-writes.ensures.keys i }) c.in-Some.ensures.taken.0.1 in
    let gone = c.in-Some.ensures.taken.1 in
    let requested = released_map qs u last k c.args.place h n ready c.take.new.self.places.entries gone c.leave-in-Some.new.unreleased
    (λ q. c.leave-in-Some.ensures.sets q ∙ c.leave.ensures.sets q)
    ∙ ap (λ l. map.remove l.requested c.args.place) c.self.view_is in
    λ i. record { requested = requested i; last = (c.self.view_is i).last }

pub returns-in-Some-clause-held : goal.returns-in-Some-clause-held
returns-in-Some-clause-held c =
    let iff = ready_iff c.self.inside.queues.queues.entries c.self.inside.unreleased c.self.inside.last c.self.invariant c.args.place in
    (λ _. subst (λ l. IsReady l.requested c.args.place) c.self.view_is (iff.0 (_, c.in-Some.ensures.taken.0.1, refl)), λ _. refl)

pub returns-in-None-clause-held : goal.returns-in-None-clause-held
returns-in-None-clause-held c =
    let iff = ready_iff c.self.inside.queues.queues.entries c.self.inside.unreleased c.self.inside.last c.self.invariant c.args.place in
    (λ no. absurd (false≢true no), λ ready. absurd (c.in-None.ensures.taken.0 (iff.1 (subst (λ l. IsReady l.requested c.args.place) (sym c.self.view_is) ready))))
