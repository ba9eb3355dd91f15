use Rattle.std.proofs.Common.{◌∷◌, ◌++◌, [], Ok, not, length, sym, ap, subst, ◌∙◌, arith}
use Rattle.calvin_types.specs.Deeds.{Did}
use Rattle.calvin_order.specs.Keeping.{InTurn, sequencing_of, can_close, IsSequenced}
use Rattle.calvin_order.specs.Sequencing.{next_epoch, close}
use Rattle.calvin_order.proofs.Sequencers.{Joined, Closes, rest_is, turn_closed, closed_sequenced, closed_did}
use Rattle.calvin_order.proofs.KeptRoom.{kept_all, kept_closing, where_refused}
use Rattle.calvin_order.proofs.sequencer.Sequencer.close.Goals as goal

pub join_ripe-requires-clause-in_turn : goal.join_ripe-requires-clause-in_turn
join_ripe-requires-clause-in_turn g c =
    let i = c.self.inside in
    subst (λ n. InTurn 0 n i.held_back.items) (sym c.closings-closings.ensures)
    (turn_closed i.history.state c.close.new.self.state c.in_ok-epoch.epoch c.in-Some.batch i.held_back.items c.close.ensures.state c.self.invariant.0.in_turn)

pub invariant_of-self-2 : goal.invariant_of-self-2
invariant_of-self-2 g c =
    let i = c.self.inside in
    let old = ap (λ v. v.sequencing) c.self.view_is ∙ ap (λ v. v.sequencing) c.reserve_close.ensures.same in
    let made = c.self.invariant.0.made c.in-Some.batch (sym c.take.ensures.value ∙ c.in-Some.is) in
    let room = c.self.invariant.1 in
    let closes : Closes i.delay c.in_ok-epoch.epoch i.history.state c.close.new.self.state i.queue.items c.drop_first.new.queue.items c.join_ripe.new.queue.items i.held_back.items c.join_ripe.new.held.items = record {
      at = c.in_ok-epoch.ensures.ok.0 ∙ sym (ap next_epoch old);
      history = c.close.ensures.state ∙ ap (λ b. record i.history.state { closed = i.history.state.closed ++ (c.in_ok-epoch.epoch, b) ∷ [] }) made;
      taken = c.drop_first.ensures.items ∙ rest_is i.queue.items c.len.result (c.len.ensures.len ∙ ap length made);
      joined = subst (λ n. Joined i.delay n c.drop_first.new.queue.items c.join_ripe.new.queue.items i.held_back.items c.join_ripe.new.held.items) c.closings-closings.ensures
          (record { queue = c.join_ripe.ensures.queue; held = c.join_ripe.ensures.held; in_turn = c.join_ripe.ensures.in_turn });
    } in (
      subst (IsSequenced c.close.new.self.state c.join_ripe.new.queue.items c.join_ripe.new.held.items) (sym c.take.ensures.after)
          (closed_sequenced i.history.state c.close.new.self.state i.queue.items c.drop_first.new.queue.items c.join_ripe.new.queue.items i.held_back.items c.join_ripe.new.held.items i.delay c.in_ok-epoch.epoch closes c.self.invariant.0.in_turn c.self.invariant.0.few),
      omega (arith, room, c.drop_first.ensures.len, c.drop_first.ensures.capacity, c.join_ripe.ensures.len, c.join_ripe.ensures.capacity),
    )

pub returns-clause-did : goal.returns-clause-did
returns-clause-did g c =
    let i = c.self.inside in
    let all = c.self.view_is ∙ c.reserve_close.ensures.same in
    let old = ap (λ v. v.sequencing) all in
    let delay = ap (λ v. v.delay) all in
    let made = c.self.invariant.0.made c.in-Some.batch (sym c.take.ensures.value ∙ c.in-Some.is) in
    let closes : Closes i.delay c.in_ok-epoch.epoch i.history.state c.close.new.self.state i.queue.items c.drop_first.new.queue.items c.join_ripe.new.queue.items i.held_back.items c.join_ripe.new.held.items = record {
      at = c.in_ok-epoch.ensures.ok.0 ∙ sym (ap next_epoch old);
      history = c.close.ensures.state ∙ ap (λ b. record i.history.state { closed = i.history.state.closed ++ (c.in_ok-epoch.epoch, b) ∷ [] }) made;
      taken = c.drop_first.ensures.items ∙ rest_is i.queue.items c.len.result (c.len.ensures.len ∙ ap length made);
      joined = subst (λ n. Joined i.delay n c.drop_first.new.queue.items c.join_ripe.new.queue.items i.held_back.items c.join_ripe.new.held.items) c.closings-closings.ensures
          (record { queue = c.join_ripe.ensures.queue; held = c.join_ripe.ensures.held; in_turn = c.join_ripe.ensures.in_turn });
    } in
    subst (λ d. Did (not (can_close c.args.self.now)) (Ok c.in_ok-epoch.epoch) (close d c.args.self.now.sequencing) c.args.self.now.sequencing (sequencing_of c.close.new.self.state c.join_ripe.new.queue.items c.join_ripe.new.held.items)) delay
    (subst (λ s. Did (not (can_close c.args.self.now)) (Ok c.in_ok-epoch.epoch) (close i.delay s) s (sequencing_of c.close.new.self.state c.join_ripe.new.queue.items c.join_ripe.new.held.items)) old
    (closed_did (not (can_close c.args.self.now)) i.history.state c.close.new.self.state i.queue.items c.drop_first.new.queue.items c.join_ripe.new.queue.items i.held_back.items c.join_ripe.new.held.items i.delay c.in_ok-epoch.epoch closes c.self.invariant.0.in_turn c.in_ok-epoch.ensures.ok.1))

pub returns-in_err-epoch-clause-room : goal.returns-in_err-epoch-clause-room
returns-in_err-epoch-clause-room g c = where_refused c.from_residual.result _ (kept_all c.args.self.now)

pub returns-in_err-reserve_close-clause-room : goal.returns-in_err-reserve_close-clause-room
returns-in_err-reserve_close-clause-room g c = where_refused c.from_residual-in_err-reserve_close.result _ (kept_closing c.args.self.now c.reserve_close.new.self c.in_err-reserve_close.ensures.same c.in_err-reserve_close.ensures.closed c.in_err-reserve_close.ensures.ready)
