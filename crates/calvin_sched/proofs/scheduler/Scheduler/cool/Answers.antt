use Rattle.std.proofs.Common.{subst}
use Rattle.calvin_types.specs.Deeds.{Did}
use Rattle.calvin_store.specs.Points.{cool_key}
use Rattle.calvin_sched.specs.Keeping.{scheduling_of}
use Rattle.calvin_sched.specs.Scheduling.{with_store}
use Rattle.calvin_sched.specs.Standing as standing
use Rattle.calvin_sched.proofs.Stores.{done_in_store}
use Rattle.calvin_sched.proofs.scheduler.Scheduler.cool.Goals as goal

pub returns-clause-did : goal.returns-clause-did
returns-clause-did g c =
    let p = c.self.inside in
    let s = scheduling_of p.opened p.last p.turns.kept (g.S.Rows.store p.rows) in
    subst (λ v. Did g.S.Rows.cold c.cool.result (standing.cool g.S.Rows.cold c.args.key.now v.scheduling) v.scheduling (with_store s (g.S.Rows.store c.cool.new.self))) c.self.view_is
    (done_in_store g.S.Rows.cold c.cool.result (cool_key g.S.Rows.cold c.args.key.now s.store) s (g.S.Rows.store c.cool.new.self) c.cool.ensures.did)
