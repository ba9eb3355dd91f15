use Rattle.std.proofs.Common.{◌≡◌, ◌+◌, subst, sym, ◌∙◌, rules}
use Rattle.calvin_lock.specs.Queues.{waits_in}
use Rattle.calvin_lock.specs.Unreleased.{WaitsFor}
use Rattle.calvin_lock.proofs.Waits.{fewer_waits, sets_kept}
use Rattle.calvin_lock.proofs.passing.settle.Goals as goal

pub loop-place-preserved : goal.loop-place-preserved
loop-place-preserved c = record {
  kept = c.grant.ensures.kept;
  fits = c.in-Some.ensures.fits;
  queue = λ asks q. c.in-Some.ensures.queue asks (c.loop-place.invariant.queue asks q);
  sets = λ q. sets_kept c.loop-place.unreleased.places.entries c.grant.new.self.places.entries c.in-Some.place c.grant.ensures.places q ∙ c.loop-place.invariant.sets q;
  order = c.grant.ensures.order ∙ c.loop-place.invariant.order;
  waits = λ more waits. fewer_waits c.loop-place.unreleased.places.entries c.grant.new.self.places.entries c.in-Some.place c.grant.ensures.places more c.loop-place.queue.waiting.items c.grant_next.new.self.waiting.items c.in-Some.ensures.waiting (c.loop-place.invariant.waits more waits);
}

pub returns-clause-waits : goal.returns-clause-waits
returns-clause-waits c = λ more waits.
    let same : c.grant_next.new.self ≡ c.loop-place.queue = search rules in
    subst (λ v. WaitsFor (λ q. more q + waits_in q v.waiting.items) c.loop-place.unreleased.places.entries) (sym same) (c.loop-place.invariant.waits more waits)
