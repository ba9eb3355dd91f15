use Rattle.std.proofs.Common.{◌≡◌, ◌+◌, ◌++◌, cond, if◌then◌else◌, vec_len, Some, List, [], sym, ap, ◌∙◌, arith, append_assoc, false, None}
use Rattle.std.specs.FinMap as map
use Rattle.calvin_types.specs.declared.key.Key.{Key}
use Rattle.calvin_types.specs.declared.key_set.Sets.{Sets}
use Rattle.calvin_types.specs.declared.place.Place.{Place}
use Rattle.calvin_lock.specs.declared.queue.Ask.{Ask}
use Rattle.calvin_lock.specs.declared.queue.Kind.TheVariants as kind
use Rattle.calvin_lock.specs.declared.unreleased.Pending.{Pending}
use Rattle.calvin_lock.specs.Queues.{equal_places, ask_if, asked, ask_of, asks_of, waits_of, queue_at}
use Rattle.calvin_lock.specs.Unreleased.{pending_at}
use Rattle.calvin_lock.proofs.AskedKeys.{gone_again}
use Rattle.calvin_lock.proofs.QueueMaps.{same_asks}
use Rattle.calvin_lock.proofs.Waits.{both_waits}
use Rattle.calvin_lock.proofs.QueuedSteps.{sets_of, new_place, last_place, requested, requested_map}
use Rattle.calvin_lock.proofs.queue_locks.QueueLocksLocks.request.Goals as goal

pub invariant_of-self : goal.invariant_of-self
invariant_of-self c =
    let k = c.self.invariant in
    let asks : Key → List Ask = λ key. asks_of key k.requests in
    let queues = c.reserve.ensures.queues asks k.asked.served in
    let fewer = c.drop_all_empty.ensures.kept asks queues in
    record {
      requests = k.requests;
      order = k.order;
      same = λ q. k.same q ∙ ap (λ es. sets_of (pending_at es q)) (sym c.reserve.ensures.places);
      asked = record {
        served = c.drop_all_empty-in-Err.ensures.kept asks fewer;
        nobody = λ key none. gone_again key c.args.writes.now c.args.reads.now (queue_at c.reserve.new.queues.queues.entries key) (queue_at c.drop_all_empty.new.self.queues.entries key) (queue_at c.drop_all_empty-in-Err.new.self.queues.entries key)
            (λ unwritten unread. c.reserve.ensures.others key unwritten unread (k.asked.nobody key none))
            (c.drop_all_empty.ensures.none_new key) (c.drop_all_empty-in-Err.ensures.none_new key)
            (λ written. c.drop_all_empty.ensures.gone asks queues key written none) (λ read. c.drop_all_empty-in-Err.ensures.gone asks fewer key read none);
      };
      waits = λ q p found. k.waits q p (sym (ap (λ es. pending_at es q) c.reserve.ensures.places) ∙ found) ∙ sym (c.drop_all_empty-in-Err.ensures.waits asks fewer q ∙ c.drop_all_empty.ensures.waits asks queues q ∙ c.reserve.ensures.waits q);
      unreleased = c.reserve.ensures.kept;
      up_to = λ q there. k.up_to q (c.reserve.ensures.order q there);
    }

pub add-requires-clause-new : goal.add-requires-clause-new
add-requires-clause-new c =
    ap (λ es. pending_at es c.args.place) c.reserve.ensures.places
    ∙ new_place c.self.inside.queues.queues.entries c.self.inside.unreleased c.self.inside.last c.self.invariant c.args.place (c.is_past.ensures.0 c.if-not-is_past.false)

pub add-requires-clause-last : goal.add-requires-clause-last
add-requires-clause-last c = λ q there.
    last_place c.self.inside.queues.queues.entries c.self.inside.unreleased c.self.inside.last c.self.invariant c.args.place (c.is_past.ensures.0 c.if-not-is_past.false) q
    (c.reserve.ensures.order q there)

pub invariant_of-self-2 : goal.invariant_of-self-2
invariant_of-self-2 c =
    let k = c.self.invariant in
    let p : Pending = record { sets = record { reads = c.args.reads.now; writes = c.args.writes.now }; waits = c.join-exclusive.result + c.join-shared.result; near = vec_len c.reserve.new.unreleased.order } in
    let asks : Key → List Ask = λ key. asks_of key k.requests in
    let kept : Sets → Pending = λ sets. record { sets = sets; waits = p.waits; near = p.near } in
    let updated = λ (q : Place). c.add.ensures.places q ∙ ap (λ sets. cond (equal_places c.args.place q) (Some (kept sets)) (pending_at c.reserve.new.unreleased.places.entries q)) c.in_ok-sets.ensures.ok
    ∙ ap (λ es. cond (equal_places c.args.place q) (Some p) (pending_at es q)) c.reserve.ensures.places in
    let exclusive = c.join-exclusive.ensures.kept asks (c.reserve.ensures.queues asks k.asked.served) in
    let shared = c.join-shared.ensures.kept (λ key. asks key ++ ask_if c.args.place kind.Exclusive (asked c.args.writes.now c.new-2.result key)) exclusive in
    let joined = same_asks _ (λ key. asks key ++ ask_of key (c.args.place, p.sets)) c.join-shared.new.self.queues.entries (λ key.
    ap (λ l. (asks key ++ ask_if c.args.place kind.Exclusive (asked c.args.writes.now l key)) ++ ask_if c.args.place kind.Shared (asked c.args.reads.now c.args.writes.now key)) c.new-2.ensures
    ∙ append_assoc (asks key) (ask_if c.args.place kind.Exclusive (asked c.args.writes.now [] key)) (ask_if c.args.place kind.Shared (asked c.args.reads.now c.args.writes.now key))) shared in
    let others : (key : Key) → asked c.args.writes.now [] key ≡ false → asked c.args.reads.now c.args.writes.now key ≡ false → queue_at c.self.inside.queues.queues.entries key ≡ None → queue_at c.join-shared.new.self.queues.entries key ≡ None = λ key unwritten unread none. c.join-shared.ensures.none_new key (c.join-exclusive.ensures.none_new key (c.reserve.ensures.others key unwritten unread none)) in
    let counted : (q : Place) → waits_of q c.join-shared.new.self.queues.entries ≡ waits_of q c.self.inside.queues.queues.entries + (if equal_places q c.args.place then p.waits else 0) = λ q.
    let last = c.join-shared.ensures.waits q in
    let before = c.join-exclusive.ensures.waits q in
    let first = c.reserve.ensures.waits q in
    let both = both_waits (equal_places q c.args.place) c.join-exclusive.result c.join-shared.result in
    omega (arith, last, before, first, both) in
    requested c.self.inside.queues.queues.entries c.self.inside.unreleased c.self.inside.last k c.args.place (c.is_past.ensures.0 c.if-not-is_past.false) c.add.new.self p updated c.join-shared.new.self.queues.entries c.add.ensures.kept c.add.ensures.order joined others counted

pub returns-clause-ok : goal.returns-clause-ok
returns-clause-ok c =
    let k = c.self.invariant in
    let p : Pending = record { sets = record { reads = c.args.reads.now; writes = c.args.writes.now }; waits = c.join-exclusive.result + c.join-shared.result; near = vec_len c.reserve.new.unreleased.order } in
    let kept : Sets → Pending = λ sets. record { sets = sets; waits = p.waits; near = p.near } in
    let updated = λ (q : Place). c.add.ensures.places q ∙ ap (λ sets. cond (equal_places c.args.place q) (Some (kept sets)) (pending_at c.reserve.new.unreleased.places.entries q)) c.in_ok-sets.ensures.ok
    ∙ ap (λ es. cond (equal_places c.args.place q) (Some p) (pending_at es q)) c.reserve.ensures.places in
    let is = requested_map c.self.inside.queues.queues.entries c.self.inside.unreleased c.self.inside.last k c.args.place (c.is_past.ensures.0 c.if-not-is_past.false) c.add.new.self p updated
    ∙ ap (λ l. map.insert l.requested c.args.place p.sets) c.self.view_is in
    λ i. record { requested = is i; last = Some c.args.place }
