-- It is the deed of the partition there.
use Rattle.std.specs.Prelude.{slice_get}
use Rattle.std.proofs.lemmas.Option.{slice_get-get_or}
use Rattle.calvin_bench.specs.Steps.{first_here, admit_next}
use Rattle.calvin_bench.proofs.SteppedSeats.{stepped, told_one}
use Rattle.calvin_bench.proofs.stepping.admit.Goals as goal

pub returns-clause-did : goal.returns-clause-did
returns-clause-did g c = stepped c.args.partitions.now c.args.p _ c.admit.new.self (slice_get-get_or c.args.partitions.now c.args.p c.index-partitions-at.result c.if-at-partitions.false)
    (λ x. first_here x (slice_get c.args.order.now x.admitted)) (λ x. admit_next {Reply = g.row.A-Reply.Denot} x (slice_get c.args.order.now x.admitted)) c.admit.result c.admit.ensures.did

pub returns-clause-told : goal.returns-clause-told
returns-clause-told g c = told_one c.args.partitions.now c.args.p _ c.admit.new.self (slice_get-get_or c.args.partitions.now c.args.p c.index-partitions-at.result c.if-at-partitions.false) c.admit.ensures.told
