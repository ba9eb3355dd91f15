-- It is the deed of the partition there.
use Rattle.std.proofs.lemmas.Option.{slice_get-get_or}
use Rattle.calvin_sched.specs.Steps.{job}
use Rattle.calvin_bench.specs.Steps.{finish_at, writes_here}
use Rattle.calvin_bench.proofs.SteppedSeats.{stepped, told_one}
use Rattle.calvin_bench.proofs.stepping.finish.Goals as goal

pub returns-clause-did : goal.returns-clause-did
returns-clause-did g c order = stepped c.args.partitions.now c.args.p _ c.finish.new.self (slice_get-get_or c.args.partitions.now c.args.p c.index-partitions-at.result c.if-at-partitions.false)
    (λ x. writes_here g.A.App.meaning x (job x.here c.args.place x.scheduler)) (finish_at g.A.App.meaning c.args.place) c.finish.result c.finish.ensures.did

pub returns-clause-told : goal.returns-clause-told
returns-clause-told g c = told_one c.args.partitions.now c.args.p _ c.finish.new.self (slice_get-get_or c.args.partitions.now c.args.p c.index-partitions-at.result c.if-at-partitions.false) c.finish.ensures.told
