use Rattle.std.proofs.Common.{Ok, not, ◌<◌, sym, ap, subst, refl, ◌∙◌, arith}
use Rattle.calvin_types.specs.declared.limits.TheConstants.{MOST_UNDECIDED}
use Rattle.calvin_types.specs.Deeds.{Did}
use Rattle.calvin_order.specs.Keeping.{InTurn, sequencing_of, can_submit_cold}
use Rattle.calvin_order.specs.Sequencing.{load, ripened, delayed}
use Rattle.calvin_order.proofs.HoldingBack.{turn_more}
use Rattle.calvin_order.proofs.Sequencers.{Joined, cold_is, cold_sequenced}
use Rattle.calvin_order.proofs.KeptRoom.{kept_all, kept_cold, where_refused}
use Rattle.calvin_order.proofs.sequencer.Sequencer.submit_cold.Goals as goal

pub join_ripe-requires-clause-in_turn : goal.join_ripe-requires-clause-in_turn
join_ripe-requires-clause-in_turn g c =
    let i = c.self.inside in
    let since = c.closings-since.ensures in
    subst (InTurn 0 c.closings-since.result) (sym c.push_back_reserved.ensures.items)
    (turn_more 0 c.closings-since.result i.held_back.items (record { txn = c.args.txn; since = c.closings-since.result }) refl (subst (λ n. InTurn 0 n i.held_back.items) (sym since) c.self.invariant.0.in_turn))

pub invariant_of-self : goal.invariant_of-self
invariant_of-self g c =
    let i = c.self.inside in
    let old = ap (λ v. v.sequencing) c.self.view_is ∙ ap (λ v. v.sequencing) c.reserve_submit_cold.ensures.same in
    let room = c.self.invariant.1 in
    let made = ap (λ v. v.queue_room) c.self.view_is in
    let some = c.in_ok-reserve_submit_cold.ensures.ok in
    let joined = subst (λ n. Joined i.delay n i.queue.items c.join_ripe.new.queue.items c.push_back_reserved.new.self.items c.join_ripe.new.held.items) c.closings-since.ensures
    (record { queue = c.join_ripe.ensures.queue; held = c.join_ripe.ensures.held; in_turn = c.join_ripe.ensures.in_turn }) in (
      cold_sequenced i.history.state i.queue.items c.join_ripe.new.queue.items i.held_back.items c.push_back_reserved.new.self.items c.join_ripe.new.held.items (record { txn = c.args.txn; since = c.closings-since.result }) i.delay
          c.closings-since.ensures c.push_back_reserved.ensures.items joined (subst (λ s. load s < MOST_UNDECIDED) (sym old) c.in_ok-check_submit.ensures.few),
      grind (arith, room, made, some, c.push_back_reserved.ensures.len, c.join_ripe.ensures.len, c.join_ripe.ensures.capacity),
    )

pub returns-clause-did : goal.returns-clause-did
returns-clause-did g c =
    let i = c.self.inside in
    let all = c.self.view_is ∙ c.reserve_submit_cold.ensures.same in
    let old = ap (λ v. v.sequencing) all in
    let delay = ap (λ v. v.delay) all in
    let joined = subst (λ n. Joined i.delay n i.queue.items c.join_ripe.new.queue.items c.push_back_reserved.new.self.items c.join_ripe.new.held.items) c.closings-since.ensures
    (record { queue = c.join_ripe.ensures.queue; held = c.join_ripe.ensures.held; in_turn = c.join_ripe.ensures.in_turn }) in
    let made = cold_is i.history.state i.queue.items c.join_ripe.new.queue.items i.held_back.items c.push_back_reserved.new.self.items c.join_ripe.new.held.items (record { txn = c.args.txn; since = c.closings-since.result }) i.delay
    c.closings-since.ensures c.push_back_reserved.ensures.items joined in
    let next = made ∙ ap (λ d. ripened d (delayed c.args.txn (sequencing_of i.history.state i.queue.items i.held_back.items))) delay ∙ ap (λ s. ripened c.args.self.now.delay (delayed c.args.txn s)) old in
    subst (λ d. Did (not (can_submit_cold c.args.self.now)) (Ok tt) d c.args.self.now.sequencing (sequencing_of i.history.state c.join_ripe.new.queue.items c.join_ripe.new.held.items))
    (sym (c.in_ok-check_submit.ensures.deed (ripened c.args.self.now.delay (delayed c.args.txn c.args.self.now.sequencing)))) (refl, next)

pub returns-in_err-check_submit-clause-room : goal.returns-in_err-check_submit-clause-room
returns-in_err-check_submit-clause-room g c = where_refused c.from_residual.result _ (kept_all c.args.self.now)

pub returns-in_err-reserve_submit_cold-clause-room : goal.returns-in_err-reserve_submit_cold-clause-room
returns-in_err-reserve_submit_cold-clause-room g c = where_refused c.from_residual-in_err-reserve_submit_cold.result _ (kept_cold c.args.self.now c.reserve_submit_cold.new.self c.in_err-reserve_submit_cold.ensures.same c.in_err-reserve_submit_cold.ensures.queue c.in_err-reserve_submit_cold.ensures.held)
