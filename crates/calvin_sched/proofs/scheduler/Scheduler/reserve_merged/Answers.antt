use Rattle.std.proofs.Common.{length, ap, arith}
use Rattle.calvin_sched.specs.Standing.{local_places}
use Rattle.calvin_sched.proofs.Steps.{not_refused}
use Rattle.calvin_sched.proofs.scheduler.Scheduler.reserve_merged.Goals as goal

pub returns-clause-succeeds : goal.returns-clause-succeeds
returns-clause-succeeds g c = λ fits.
    let here = ap (λ v. length (local_places v.here c.args.entries.now)) c.self.view_is in
    let room = ap (λ v. v.due_room) c.self.view_is in
    not_refused c.reserve.result _ _ c.reserve.ensures.refused (omega (arith, fits, here, room))
