use denote.Memory.{lone}
use prog.Memory.{align, size}
use Rattle.std.proofs.Common.{ap, ◌∙◌}
use Rattle.calvin_sched.proofs.Sizes.{align_most, serving_fits}
use Rattle.calvin_bench.proofs.Seats.{tells, begun_ok}
use Rattle.calvin_bench.proofs.partition.Partition.begin.Goals as goal

pub begin-requires : goal.begin-requires
begin-requires g c =
    let args = lone g.row.A-Args.mir in
    let row = lone g.row.A-Row.mir in
    let reply = lone g.row.A-Reply.mir in
    serving_fits (align args) (size args) (align row) (size row) (align reply) (size reply) (align_most args) (align_most row) g.met.A.App.work_fits

pub returns-in_err-serving-clause-told : goal.returns-in_err-serving-clause-told
returns-in_err-serving-clause-told g c = tells c.self.inside.scheduler c.begin.new.self c.self.inside.admitted c.self.inside.admitted _ c.self.view_is (ap (λ s. s.merged) c.in_err-serving.ensures.rest) c.in_err-serving.ensures.due

pub returns-clause-did : goal.returns-clause-did
returns-clause-did g c = begun_ok c.self.inside.scheduler c.begin.new.self c.self.inside.admitted _ c.self.view_is (ap (λ s. s.here) c.in_ok-serving.ensures.rest) g.row.A-Reply.Denot c.args.place c.in_ok-serving.serving c.serving.inside.rows (ap (λ s. s.rows) (Rattle.std.proofs.Common.sym c.serving.view_is)) c.in_ok-serving.ensures.did

pub returns-clause-told : goal.returns-clause-told
returns-clause-told g c = tells c.self.inside.scheduler c.begin.new.self c.self.inside.admitted c.self.inside.admitted _ c.self.view_is (ap (λ s. s.merged) c.in_ok-serving.ensures.rest) c.in_ok-serving.ensures.due
