use Rattle.std.proofs.Common.{◌≡◌, ◌++◌, [], ◌∷◌, true, sym, ap, subst, ◌∙◌, rules, arith}
use Rattle.calvin_lock.specs.Queues.{admits, IsQueueOf, IsSettled, holder_count, waits_in}
use Rattle.calvin_lock.proofs.QueueLists.{joined, count_with, waits_append, no_asks}
use Rattle.calvin_lock.proofs.queue.Queue.join.Goals as goal

pub returns-then-admits-clause-queue : goal.returns-then-admits-clause-queue
returns-then-admits-clause-queue c = λ asks at.
    let none : c.args.self.now.waiting.items ≡ [] = no_asks c.args.self.now.waiting.items (omega (arith, c.if-waiting-eq0.true, c.len-waiting.ensures, c.args.self.now.waiting.ok.0)) in
    let admitted : admits c.args.self.now.holders c.args.ask.kind ≡ true = search rules in
    let is = joined asks c.args.self.now.holders c.args.ask (subst (IsQueueOf asks c.args.self.now.holders) none at.0) admitted in (
      subst (λ h. IsQueueOf (asks ++ c.args.ask ∷ []) h c.args.self.now.waiting.items) (sym c.with-self.ensures) (subst (IsQueueOf (asks ++ c.args.ask ∷ []) _) (sym none) is),
      subst (IsSettled c.with-self.result) (sym none) tt,
      (let count = count_with c.args.self.now.holders c.args.ask.kind in let now = ap holder_count c.with-self.ensures in omega (arith, count, now, c.requires.0)),
    )

pub returns-clause-waiting : goal.returns-clause-waiting
returns-clause-waiting c = λ q. ap (waits_in q) c.push_back_reserved.ensures.items ∙ waits_append q c.args.self.now.waiting.items (c.args.ask ∷ []) ∙ omega arith
