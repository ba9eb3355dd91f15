use Rattle.std.proofs.Common.{[], subst, sym, ap, ◌∙◌}
use Rattle.std.proofs.lemmas.Option.{none-some}
use Rattle.calvin_lock.specs.Unreleased.{Among, pending_at}
use Rattle.calvin_lock.proofs.QueuedSteps.{sets_of}
use Rattle.calvin_lock.proofs.queue_locks.QueueLocksLocks.empty.Goals as goal

pub invariant_of-result : goal.invariant_of-result
invariant_of-result c = record {
  requests = [];
  order = record { rising = tt; up_to = tt };
  same = λ q. sym (ap (λ es. sets_of (pending_at es q)) c.new-2.ensures.places);
  asked = c.new.ensures;
  waits = λ q p found. absurd (none-some p (sym (ap (λ es. pending_at es q) c.new-2.ensures.places) ∙ found));
  unreleased = c.new-2.ensures.kept;
  up_to = λ q there. absurd (subst (λ l. Among l q) c.new-2.ensures.order there);
}
