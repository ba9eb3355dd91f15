use Rattle.std.proofs.Common.{◌≡◌, ◌∷◌, true, sym, subst, rules}
use Rattle.calvin_lock.specs.Queues.{admits, IsQueueOf}
use Rattle.calvin_lock.proofs.QueueLists.{granted}
use Rattle.calvin_lock.proofs.queue.Queue.grant_next.Goals as goal

pub returns-clause-queue : goal.returns-clause-queue
returns-clause-queue c = λ asks q.
    let first : c.args.self.now.waiting.items ≡ c.in_ok-first.field-0.now ∷ c.pop_front-first.new.self.items = search rules in
    let admitted : admits c.args.self.now.holders c.in_ok-first.field-0.now.kind ≡ true = search rules in
    subst (λ h. IsQueueOf asks h c.pop_front-first.new.self.items) (sym c.with-self.ensures)
    (granted asks c.args.self.now.holders c.in_ok-first.field-0.now c.pop_front-first.new.self.items (subst (IsQueueOf asks c.args.self.now.holders) first q) admitted)
