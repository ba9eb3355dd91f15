use Rattle.std.proofs.Common.{sym, ap}
use Rattle.std.proofs.lemmas.Result.{err_from_is_err_and}
use Rattle.calvin_bench.proofs.Seats.{tells, finished_err}
use Rattle.calvin_bench.proofs.partition.Partition.finish.Goals as goal

pub returns-in_err-answer-clause-did : goal.returns-in_err-answer-clause-did
returns-in_err-answer-clause-did g c =
    let p = err_from_is_err_and c.from_residual-in_err-answer.result c.from_residual-in_err-answer.ensures.1 in
    rw (p.1, p.2) (finished_err c.self.inside.scheduler c.finish.new.self c.self.inside.admitted _ c.self.view_is (ap (λ s. s.here) c.in_err-answer.ensures.rest) g.A.App.meaning c.args.place c.in_ok-job.job (sym c.in_ok-job.ensures) _ c.compute-computed.result.job c.compute-computed.ensures _ c.in_err-answer.ensures.did)

pub returns-in_err-answer-clause-told : goal.returns-in_err-answer-clause-told
returns-in_err-answer-clause-told g c = tells c.self.inside.scheduler c.finish.new.self c.self.inside.admitted c.self.inside.admitted _ c.self.view_is (ap (λ s. s.merged) c.in_err-answer.ensures.rest) c.in_err-answer.ensures.due

pub returns-clause-told : goal.returns-clause-told
returns-clause-told g c = tells c.self.inside.scheduler c.finish.new.self c.self.inside.admitted c.self.inside.admitted _ c.self.view_is (ap (λ s. s.merged) c.in_ok-answer.ensures.rest) c.in_ok-answer.ensures.due
