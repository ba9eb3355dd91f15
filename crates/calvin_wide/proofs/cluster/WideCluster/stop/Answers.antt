-- An entry fits in memory.
use denote.Memory.{lone}
use Rattle.calvin_histories.proofs.EntrySizes.{an_entry}
use Rattle.calvin_wide.proofs.cluster.WideCluster.stop.Goals as goal

pub drop-room-requires-in_err-taken-room-T-Destruct : goal.drop-room-requires-in_err-taken-room-T-Destruct
drop-room-requires-in_err-taken-room-T-Destruct g c κs within = an_entry (lone g.row.A-Args.mir) (lone g.row.A-Row.mir) (lone g.row.A-Reply.mir) g.met.A.App.work_fits

pub drop-start-requires-room-T-Destruct : goal.drop-start-requires-room-T-Destruct
drop-start-requires-room-T-Destruct g c κs within = an_entry (lone g.row.A-Args.mir) (lone g.row.A-Row.mir) (lone g.row.A-Reply.mir) g.met.A.App.work_fits

pub drop-start-requires-in_err-stopped-room-T-Destruct : goal.drop-start-requires-in_err-stopped-room-T-Destruct
drop-start-requires-in_err-stopped-room-T-Destruct g c κs within = an_entry (lone g.row.A-Args.mir) (lone g.row.A-Row.mir) (lone g.row.A-Reply.mir) g.met.A.App.work_fits

pub begins-requires-after_bounds : goal.begins-requires-after_bounds
begins-requires-after_bounds g c κs within = an_entry (lone g.row.A-Args.mir) (lone g.row.A-Row.mir) (lone g.row.A-Reply.mir) g.met.A.App.work_fits

pub drop-start-requires-2-room-T-Destruct : goal.drop-start-requires-2-room-T-Destruct
drop-start-requires-2-room-T-Destruct g c κs within = an_entry (lone g.row.A-Args.mir) (lone g.row.A-Row.mir) (lone g.row.A-Reply.mir) g.met.A.App.work_fits
