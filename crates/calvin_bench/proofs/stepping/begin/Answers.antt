-- It is the deed of the partition there.
use Rattle.std.proofs.lemmas.Option.{slice_get-get_or}
use Rattle.calvin_bench.specs.Steps.{begin_at}
use Rattle.calvin_bench.proofs.SteppedSeats.{stepped_quiet, told_one}
use Rattle.calvin_bench.proofs.stepping.begin.Goals as goal

pub returns-clause-did : goal.returns-clause-did
returns-clause-did g c order = stepped_quiet c.args.partitions.now c.args.p _ c.begin.new.self (slice_get-get_or c.args.partitions.now c.args.p c.index-partitions-at.result c.if-at-partitions.false)
    (begin_at {Reply = g.row.A-Reply.Denot} c.args.place) c.begin.result c.begin.ensures.did

pub returns-clause-told : goal.returns-clause-told
returns-clause-told g c = told_one c.args.partitions.now c.args.p _ c.begin.new.self (slice_get-get_or c.args.partitions.now c.args.p c.index-partitions-at.result c.if-at-partitions.false) c.begin.ensures.told
