use Rattle.std.proofs.Common.{◌≡◌, ◌++◌, cond, ◌+◌, take, sym, ap, ◌∙◌, arith}
use Rattle.calvin_lock.specs.Queues.{equal_places, ask_if, asked}
use Rattle.calvin_lock.proofs.AskedKeys.{asked_apart, asked_before, asked_other, asked_passed, asked_all, asked_whole}
use Rattle.calvin_lock.proofs.QueueMaps.{same_asks, next_asks}
use Rattle.calvin_lock.proofs.Waits.{more_waits, at_most_one}
use Rattle.calvin_lock.proofs.queues.Queues.join.Goals as goal
use Rattle.calvin_lock.proofs.queues.Queues.join.Goals.{then-not-join_key, else-not-join_key}

pub loop-i-preserved-then-has : goal.loop-i-preserved-then-has
loop-i-preserved-then-has c =
    let same = asked_passed c.args.keys.now c.args.except.now c.loop-i.i c.at-key.result c.at-key.ensures (sym c.has.ensures ∙ c.if-has.true) in
    record {
      kept = λ asks queues. same_asks _ _ c.loop-i.self.queues.entries (λ k. ap (λ b. asks k ++ ask_if c.args.place c.args.kind b) (sym (same k))) (c.loop-i.invariant.kept asks queues);
      waits = c.loop-i.invariant.waits;
      room = λ k other free. c.loop-i.invariant.room k other (sym (same k) ∙ free);
      none_new = c.loop-i.invariant.none_new;
      few = (let few = c.loop-i.invariant.few in omega (arith, few));
    }

pub join_key-requires : goal.join_key-requires
join_key-requires c =
    let free = sym c.has.ensures ∙ c.if-has.false in
    c.loop-i.invariant.room c.at-key.result c.args.kind (asked_before c.args.keys.now c.args.except.now c.loop-i.i c.at-key.result c.at-key.ensures c.len-i-end.ensures.rising)
    (c.requires c.at-key.result (asked_whole c.args.keys.now c.args.except.now c.loop-i.i c.at-key.result c.at-key.ensures free))

pub loop-i-preserved : goal.loop-i-preserved
loop-i-preserved c =
    let free = sym c.has.ensures ∙ c.if-has.false in
    let counted : c.if-not-join_key.waits ≡ c.loop-i.waits + cond c.join_key.result 0 1 = elim c.if-not-join_key.branch [
      | then-not-join_key w ↦ (let one = ap (λ b. c.loop-i.waits + cond b 0 1) w.if-not-join_key.true in omega (arith, w.waits-is, one))
      | else-not-join_key w ↦ (let none = ap (λ b. c.loop-i.waits + cond b 0 1) w.if-not-join_key.false in omega (arith, w.waits-is, none))
    ] in
    record {
      kept = λ asks queues. same_asks _ _ c.join_key.new.self.queues.entries (next_asks asks c.args.keys.now c.args.except.now c.loop-i.i c.at-key.result c.at-key.ensures c.len-i-end.ensures.rising c.args.place c.args.kind free)
          (c.join_key.ensures.kept (λ k. asks k ++ ask_if c.args.place c.args.kind (asked (take c.loop-i.i c.args.keys.now) c.args.except.now k)) (c.loop-i.invariant.kept asks queues));
      waits = λ q.
          let now = c.join_key.ensures.waits q in
          let before = c.loop-i.invariant.waits q in
          let more = more_waits (equal_places q c.args.place) c.join_key.result c.loop-i.waits c.if-not-join_key.waits counted in
          omega (arith, now, before, more);
      room = λ k other unasked room.
          let apart = asked_apart c.args.keys.now c.args.except.now c.loop-i.i c.at-key.result c.at-key.ensures free k unasked in
          c.join_key.ensures.room k other apart (c.loop-i.invariant.room k other (sym (asked_other c.args.keys.now c.args.except.now c.loop-i.i c.at-key.result c.at-key.ensures k apart) ∙ unasked) room);
      none_new = λ k none. c.join_key.ensures.none_new k (c.loop-i.invariant.none_new k none);
      few = (let few = c.loop-i.invariant.few in let one = at_most_one c.join_key.result in omega (arith, few, one, counted));
    }

pub returns-clause-kept : goal.returns-clause-kept
returns-clause-kept c = λ asks queues. same_asks _ _ c.loop-i.self.queues.entries (λ k. ap (λ b. asks k ++ ask_if c.args.place c.args.kind b) (asked_all c.args.keys.now c.args.except.now c.loop-i.i (omega (arith, c.loop-i-test.false, c.len-i-end.ensures.len)) k)) (c.loop-i.invariant.kept asks queues)
