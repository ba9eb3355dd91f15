use Rattle.std.proofs.Common.{Some, ◌+◌, take, cond, List, sym, ap, ◌∙◌, arith}
use Rattle.std.proofs.lemmas.Option.{slice_get-get_or}
use Rattle.calvin_types.specs.declared.key.Key.{Key}
use Rattle.calvin_lock.specs.declared.queue.Ask.{Ask}
use Rattle.calvin_lock.specs.Queues.{asked}
use Rattle.calvin_lock.proofs.AskedKeys.{asked_passed, asked_all, asked_whole}
use Rattle.calvin_lock.proofs.QueueMaps.{same_asks, next_leaves, next_nobody}
use Rattle.calvin_lock.proofs.queues.Queues.leave.Goals as goal

pub loop-i-preserved-then-has_key : goal.loop-i-preserved-then-has_key
loop-i-preserved-then-has_key c =
    let same = asked_passed c.args.keys.now c.args.except.now c.loop-i.i c.kept.inside.key (slice_get-get_or c.args.keys.now c.loop-i.i c.index-keys-i.result c.loop-i-test.true ∙ ap Some (sym c.index-keys-i.is ∙ sym c.kept.view_is)) (sym c.has_key.ensures ∙ c.if-has_key.true) in
    record {
      kept = c.loop-i.invariant.kept;
      fits = c.loop-i.invariant.fits;
      sets = c.loop-i.invariant.sets;
      order = c.loop-i.invariant.order;
      queues = λ before after queues leaves. same_asks _ _ c.loop-i.self.queues.entries (λ k. ap (λ b. cond b (after k) (before k)) (sym (same k))) (c.loop-i.invariant.queues before after queues leaves);
      nobody = λ before after queues leaves k none. c.loop-i.invariant.nobody before after queues leaves k (ap (λ b. cond b (after k) (before k)) (sym (same k)) ∙ none);
      waits = c.loop-i.invariant.waits;
    }

pub loop-i-preserved : goal.loop-i-preserved
loop-i-preserved c =
    let keys = c.args.keys.now in
    let except = c.args.except.now in
    let i = c.loop-i.i in
    let key = c.kept.inside.key in
    let here = slice_get-get_or keys i c.index-keys-i.result c.loop-i-test.true ∙ ap Some (sym c.index-keys-i.is ∙ sym c.kept.view_is) in
    let free = sym c.has_key.ensures ∙ c.if-has_key.false in
    let there = asked_whole keys except i key here free in
    let mid : (Key → List Ask) → (Key → List Ask) → Key → List Ask = λ before after k. cond (asked (take i keys) except k) (after k) (before k) in
    let leaves_next = next_leaves keys except i key here c.requires.rising free in
    let next : (Key → List Ask) → (Key → List Ask) → Key → List Ask = λ before after k. cond (asked (take (i + 1) keys) except k) (after k) (before k) in
    record {
      kept = c.pass_on.ensures.kept;
      fits = c.pass_on.ensures.fits;
      sets = λ q. c.pass_on.ensures.sets q ∙ c.loop-i.invariant.sets q;
      order = c.pass_on.ensures.order ∙ c.loop-i.invariant.order;
      queues = λ before after queues leaves. c.pass_on.ensures.queues (mid before after) (next before after) (c.loop-i.invariant.queues before after queues leaves) (leaves_next before after (leaves key there));
      nobody = λ before after queues leaves. next_nobody keys except i key here c.requires.rising free before after c.loop-i.self.queues.entries c.pass_on.new.self.queues.entries
          (c.loop-i.invariant.nobody before after queues leaves) c.pass_on.ensures.none_new
          (c.pass_on.ensures.gone (mid before after) (next before after) (c.loop-i.invariant.queues before after queues.served leaves) (leaves_next before after (leaves key there)));
      waits = λ before after queues leaves waits. c.pass_on.ensures.waits (c.loop-i.invariant.waits before after queues leaves waits);
    }

pub returns-clause-queues : goal.returns-clause-queues
returns-clause-queues c = λ before after queues leaves. same_asks _ _ c.loop-i.self.queues.entries (λ k. ap (λ b. cond b (after k) (before k)) (asked_all c.args.keys.now c.args.except.now c.loop-i.i (omega (arith, c.loop-i-test.false)) k)) (c.loop-i.invariant.queues before after queues leaves)

pub returns-clause-nobody : goal.returns-clause-nobody
returns-clause-nobody c = λ before after queues leaves k none. c.loop-i.invariant.nobody before after queues leaves k (ap (λ b. cond b (after k) (before k)) (asked_all c.args.keys.now c.args.except.now c.loop-i.i (omega (arith, c.loop-i-test.false)) k) ∙ none)
