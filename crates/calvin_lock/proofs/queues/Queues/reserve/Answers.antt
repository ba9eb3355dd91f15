use Rattle.std.proofs.Common.{◌≡◌, true, false, ◌+◌, take, Bool, refl, subst, sym, ◌∙◌}
use Rattle.calvin_types.specs.declared.key.Key.{Key}
use Rattle.calvin_types.specs.SameKeys.{equal_keys}
use Rattle.calvin_types.specs.SameKeysLaws.{equal_keys_exact}
use Rattle.calvin_lock.specs.Queues.{asked, HasRoomAt}
use Rattle.calvin_lock.proofs.AskedKeys.{asked_other, asked_passed, unasked_apart}
use Rattle.calvin_lock.proofs.queues.Queues.reserve.Goals as goal

pub returns-in_err-reserve_key-clause-kept : goal.returns-in_err-reserve_key-clause-kept
returns-in_err-reserve_key-clause-kept c = λ asks queues. c.in_err-reserve_key.ensures.kept asks (c.loop-i.invariant.kept asks queues)

pub returns-in_err-reserve_key-clause-others : goal.returns-in_err-reserve_key-clause-others
returns-in_err-reserve_key-clause-others c = λ k unasked none.
    c.in_err-reserve_key.ensures.others k (unasked_apart c.args.keys.now c.args.except.now c.loop-i.i c.at-key.result c.at-key.ensures (sym c.has.ensures ∙ c.if-has.false) k unasked) (c.loop-i.invariant.others k unasked none)

pub loop-i-preserved-then-has : goal.loop-i-preserved-then-has
loop-i-preserved-then-has c = record {
  kept = c.loop-i.invariant.kept;
  waits = c.loop-i.invariant.waits;
  room = c.loop-i.invariant.room;
  others = c.loop-i.invariant.others;
  ok = λ k now. c.loop-i.invariant.ok k (sym (asked_passed c.args.keys.now c.args.except.now c.loop-i.i c.at-key.result c.at-key.ensures (sym c.has.ensures ∙ c.if-has.true) k) ∙ now);
}

pub loop-i-preserved : goal.loop-i-preserved
loop-i-preserved c = record {
  kept = λ asks queues. c.in_ok-reserve_key.ensures.kept asks (c.loop-i.invariant.kept asks queues);
  waits = λ q. c.in_ok-reserve_key.ensures.waits q ∙ c.loop-i.invariant.waits q;
  room = λ k other room. c.in_ok-reserve_key.ensures.room k other (c.loop-i.invariant.room k other room);
  others = λ k unasked none. c.in_ok-reserve_key.ensures.others k (unasked_apart c.args.keys.now c.args.except.now c.loop-i.i c.at-key.result c.at-key.ensures (sym c.has.ensures ∙ c.if-has.false) k unasked) (c.loop-i.invariant.others k unasked none);
  ok = λ k now. at k now (equal_keys c.at-key.result k) refl;
}
  where
    at : (k : Key) → asked (take (c.loop-i.i + 1) c.args.keys.now) c.args.except.now k ≡ true → (b : Bool) → equal_keys c.at-key.result k ≡ b → HasRoomAt c.reserve_key.new.self.queues.entries k c.args.kind
    at k now true same = subst (λ x. HasRoomAt c.reserve_key.new.self.queues.entries x c.args.kind) (equal_keys_exact c.at-key.result k same) c.in_ok-reserve_key.ensures.ok
    at k now false apart = c.in_ok-reserve_key.ensures.room k c.args.kind (c.loop-i.invariant.ok k (sym (asked_other c.args.keys.now c.args.except.now c.loop-i.i c.at-key.result c.at-key.ensures k apart) ∙ now))
