use Rattle.std.proofs.Common.{length, ap, arith}
use Rattle.std.proofs.lemmas.Bool.{false≢true}
use Rattle.calvin_sched.specs.Scheduling.{local_writes}
use Rattle.calvin_sched.proofs.scheduler.Scheduler.reserve_finish.Goals as goal

pub returns-clause-ok : goal.returns-clause-ok
returns-clause-ok g c = omega (arith, c.in_ok-reserve.ensures.ok, c.len.ensures.len, ap length c.local_part-written.ensures, ap (λ v. length (local_writes v.here c.args.computed.now.writes)) c.self.view_is)

pub returns-in_err-reserve-clause-succeeds : goal.returns-in_err-reserve-clause-succeeds
returns-in_err-reserve-clause-succeeds g c = λ fits.
    let wanted = ap length c.local_part-written.ensures in
    let here = ap (λ v. length (local_writes v.here c.args.computed.now.writes)) c.self.view_is in
    let room = ap (λ v. v.room) c.self.view_is in
    absurd (false≢true (c.in_err-reserve.ensures.succeeds (omega (arith, fits, c.len.ensures.len, wanted, here, room))))
