use Rattle.std.proofs.Common.{false, Ok, sym, ap, subst, ◌∙◌}
use Rattle.std.proofs.lemmas.Option.{none-some, same_Some}
use Rattle.calvin_types.specs.Deeds.{Did}
use Rattle.calvin_sched.specs.Steps as steps
use Rattle.calvin_sched.proofs.Begins.{has_begun}
use Rattle.calvin_sched.proofs.scheduler.Scheduler.begin.Goals as goal
use Rattle.calvin_sched.proofs.scheduler.Scheduler.begin.Goals.{in-Some, in-None}

pub returns-clause-did : goal.returns-clause-did
returns-clause-did g c =
    let x = c.args.self.now in
    let y = c.begin_in_place.new.self in
    let begun = has_begun x.here c.args.place x.scheduling y.scheduling c.in_ok-begin_in_place.ensures.did in
    elim c.match-turn.branch [
      | in-Some w ↦
          let is = same_Some _ _ (sym begun.1 ∙ w.in-Some.ensures) in
          let here = ap (λ v. v.here) c.self.view_is ∙ ap (λ v. v.here) c.in_ok-begin_in_place.ensures.rest in
          let out = w.serving.ensures ∙ (λ i. steps.serving (here i) (sym is i)) in
          subst (λ r. Did false r (steps.begin x.here c.args.place x.scheduling) x.scheduling y.scheduling) (sym w.result-is)
          (subst (λ o. Did false (Ok o) (steps.begin x.here c.args.place x.scheduling) x.scheduling y.scheduling) (sym out) begun.2)
      | in-None w ↦ absurd (none-some _ (sym w.in-None.ensures ∙ begun.1))
    ]
