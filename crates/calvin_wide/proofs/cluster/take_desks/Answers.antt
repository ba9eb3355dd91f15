-- An entry fits in memory.
use denote.Memory.{lone}
use Rattle.calvin_histories.proofs.EntrySizes.{an_entry}
use Rattle.calvin_wide.proofs.cluster.take_desks.Goals as goal

pub drop-push-requires-in-Some-24-room-T-Destruct : goal.drop-push-requires-in-Some-24-room-T-Destruct
drop-push-requires-in-Some-24-room-T-Destruct g c κs within = an_entry (lone g.row.A-Args.mir) (lone g.row.A-Row.mir) (lone g.row.A-Reply.mir) g.met.A.App.work_fits

pub drop-push-requires-in-Some-30-room-E-Destruct : goal.drop-push-requires-in-Some-30-room-E-Destruct
drop-push-requires-in-Some-30-room-E-Destruct g c κs within = an_entry (lone g.row.A-Args.mir) (lone g.row.A-Row.mir) (lone g.row.A-Reply.mir) g.met.A.App.work_fits

pub drop-push-requires-in-Some-31-room-E-Destruct : goal.drop-push-requires-in-Some-31-room-E-Destruct
drop-push-requires-in-Some-31-room-E-Destruct g c κs within = an_entry (lone g.row.A-Args.mir) (lone g.row.A-Row.mir) (lone g.row.A-Reply.mir) g.met.A.App.work_fits

pub drop-post-requires-then-is_err-3-room-T-Destruct : goal.drop-post-requires-then-is_err-3-room-T-Destruct
drop-post-requires-then-is_err-3-room-T-Destruct g c κs within = an_entry (lone g.row.A-Args.mir) (lone g.row.A-Row.mir) (lone g.row.A-Reply.mir) g.met.A.App.work_fits

pub drop-post-requires-in-loop-cell-4-room-T-Destruct : goal.drop-post-requires-in-loop-cell-4-room-T-Destruct
drop-post-requires-in-loop-cell-4-room-T-Destruct g c κs within = an_entry (lone g.row.A-Args.mir) (lone g.row.A-Row.mir) (lone g.row.A-Reply.mir) g.met.A.App.work_fits
