use Rattle.std.proofs.Common.{sym, ap, ◌∙◌}
use Rattle.std.proofs.lemmas.Bool.{and_parts}
use Rattle.calvin_types.specs.Participants.{site}
use Rattle.calvin_sched.specs.Keeping.{scheduling_of, turns_of}
use Rattle.calvin_sched.specs.Scheduling.{is_past}
use Rattle.calvin_sched.proofs.Keepers.{keeps_passed}
use Rattle.calvin_sched.proofs.Progresses.{passes}
use Rattle.calvin_sched.proofs.scheduler.Scheduler.pass_over.Goals as goal

pub invariant_of-self : goal.invariant_of-self
invariant_of-self g c =
    let past = (ap (λ v. is_past v.scheduling.last c.args.place) c.self.view_is ∙ (and_parts _ _ (sym c.is_next.ensures ∙ c.if-not-is_next.false)).0) in (
      keeps_passed (site c.self.inside.config.partitions c.self.inside.partition) (scheduling_of c.self.inside.opened c.self.inside.last c.self.inside.turns.kept (g.S.Rows.store c.self.inside.rows)) c.self.inside.turns.kept (g.L.Locks.kept c.self.inside.locks) c.self.invariant.0
          c.args.place (c.self.invariant.0.asked c.args.place past),
      passes c.self.inside.opened c.self.inside.last (turns_of c.self.inside.turns.kept) c.self.inside.progress.merged c.self.inside.progress.done c.self.inside.progress.due.items c.self.invariant.1 c.args.place past,
      c.self.invariant.2,
    )
