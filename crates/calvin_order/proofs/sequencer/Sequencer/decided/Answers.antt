use Rattle.std.proofs.Common.{[], ◌++◌, length, sym, ap, subst, ◌∙◌, arith}
use Rattle.std.specs.Option.{unwrap_or}
use Rattle.calvin_order.specs.Keeping.{closed_len}
use Rattle.calvin_order.specs.Sequencing.{is_decided, left_over}
use Rattle.calvin_order.proofs.Sequencers.{Settles, decided_sequenced, decided_room}
use Rattle.calvin_order.proofs.KeptRoom.{kept_decided, where_refused}
use Rattle.calvin_order.proofs.sequencer.Sequencer.decided.Goals as goal

pub invariant_of-self : goal.invariant_of-self
invariant_of-self g c =
    let i = c.self-2.inside in
    let same = ap (λ v. v.sequencing) c.self.view_is ∙ sym (ap (λ v. v.sequencing) c.reserve_decided.ensures.same) ∙ sym (ap (λ v. v.sequencing) c.self-2.view_is) in
    let room = c.self-2.invariant.1 in
    let new = ap (λ v. is_decided v.sequencing c.args.epoch) c.reserve_decided.ensures.same ∙ sym (ap (λ v. is_decided v.sequencing c.args.epoch) c.self.view_is) ∙ sym c.is_decided.ensures.decided ∙ c.if-is_decided.false in
    let some = decided_room c.reserve_decided.new.self c.args.epoch new c.in_ok-reserve_decided.ensures.ok in
    let closed = ap (λ v. closed_len v.sequencing.closed c.args.epoch) c.self-2.view_is in
    let spare = ap (λ v. v.queue_room) c.self-2.view_is in
    let made = ap (λ o. length (unwrap_or o [])) c.closed.ensures in (
      decided_sequenced i.history.state c.decide.new.self.state i.queue.items c.put_back.new.queue.items i.held_back.items c.args.epoch c.args.batch.now
          (subst (λ s. Settles s c.args.epoch) same (c.is_decided.ensures.settles c.if-is_decided.false)) c.decide.ensures.state
          (c.put_back.ensures.items ∙ ap (λ o. left_over o c.args.batch.now ++ i.queue.items) c.closed.ensures) c.self-2.invariant.0.few c.self-2.invariant.0.in_turn,
      omega (arith, room, some, closed, spare, made, c.put_back.ensures.len, c.put_back.ensures.capacity),
    )

pub returns-in_err-reserve_decided-clause-room : goal.returns-in_err-reserve_decided-clause-room
returns-in_err-reserve_decided-clause-room g c = where_refused c.from_residual.result _ (kept_decided c.args.self.now c.reserve_decided.new.self c.in_err-reserve_decided.ensures.same c.in_err-reserve_decided.ensures.queue c.in_err-reserve_decided.ensures.decided)
