use Rattle.std.proofs.Common.{◌∙◌}
use Rattle.std.proofs.lemmas.Option.{slice_get_read}
use Rattle.calvin_sched.proofs.Arrivals.{row_none, row_next}
use Rattle.calvin_sched.proofs.came.Came.row.Goals as goal

pub loop-i-init : goal.loop-i-init
loop-i-init g c = row_none c.args.partition c.args.key.now

pub loop-i-preserved : goal.loop-i-preserved
loop-i-preserved g c =
    row_next c.self.inside.arrivals.items c.loop-i.i c.args.partition c.args.key.now c.index.result.now c.loop-i.row c.row_after-row.result
    (slice_get_read c.self.inside.arrivals.items c.len-i-end.result c.loop-i.i _ (c.len-i-end.ensures ∙ c.self.inside.arrivals.ok.0) c.loop-i-test.true c.index.ensures) c.row_after-row.ensures c.loop-i.invariant
