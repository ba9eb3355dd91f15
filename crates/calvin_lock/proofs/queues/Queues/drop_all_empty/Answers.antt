use Rattle.std.proofs.Common.{◌≡◌, ◌&&◌, List, [], ◌+◌, Bool, true, false, None, take, refl, subst, sym, ap, ◌∙◌, arith}
use Rattle.calvin_types.specs.declared.key.Key.{Key}
use Rattle.calvin_types.specs.SameKeys.{equal_keys}
use Rattle.calvin_types.specs.SameKeysLaws.{equal_keys_exact}
use Rattle.calvin_lock.specs.declared.queue.Ask.{Ask}
use Rattle.calvin_lock.specs.Queues.{asked, queue_at, AreQueuesOrEmpty}
use Rattle.calvin_lock.proofs.AskedKeys.{asked_other, asked_all}
use Rattle.calvin_lock.proofs.queues.Queues.drop_all_empty.Goals as goal

pub loop-i-preserved : goal.loop-i-preserved
loop-i-preserved c = record {
  kept = λ asks queues. c.drop_empty.ensures.kept asks (c.loop-i.invariant.kept asks queues);
  waits = λ asks queues q. c.drop_empty.ensures.waits asks (c.loop-i.invariant.kept asks queues) q ∙ c.loop-i.invariant.waits asks queues q;
  gone = λ asks queues k now none. at asks queues k now none (equal_keys c.at.result k) refl;
  none_new = λ k none. c.drop_empty.ensures.none_new k (c.loop-i.invariant.none_new k none);
}
  where
    at : (asks : Key → List Ask) → AreQueuesOrEmpty asks c.args.self.now.queues.entries → (k : Key) → asked (take (c.loop-i.i + 1) c.args.keys.now) [] k ≡ true → asks k ≡ [] → (b : Bool) → equal_keys c.at.result k ≡ b → queue_at c.drop_empty.new.self.queues.entries k ≡ None
    at asks queues k now none true same = subst (λ x. queue_at c.drop_empty.new.self.queues.entries x ≡ None) (equal_keys_exact c.at.result k same)
        (c.drop_empty.ensures.gone asks (c.loop-i.invariant.kept asks queues) (subst (λ x. asks x ≡ []) (sym (equal_keys_exact c.at.result k same)) none))
    at asks queues k now none false apart = c.drop_empty.ensures.none_new k
        (c.loop-i.invariant.gone asks queues k (sym (asked_other c.args.keys.now [] c.loop-i.i c.at.result c.at.ensures k apart) ∙ now) none)

pub returns-clause-gone : goal.returns-clause-gone
returns-clause-gone c = λ asks queues k there none.
    c.loop-i.invariant.gone asks queues k (asked_all c.args.keys.now [] c.loop-i.i (omega (arith, c.loop-i-test.false, c.len-i-end.ensures.len)) k ∙ ap (λ b. b && true) there) none
