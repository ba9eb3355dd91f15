-- An entry fits in memory.
use denote.Memory.{lone}
use Rattle.calvin_histories.proofs.EntrySizes.{an_entry}
use Rattle.calvin_wide_stress.proofs.calvin_wide_desk++receipt++WideAnswer+Destruct.drop.Goals as goal

pub drop-requires-room-E-Destruct : goal.drop-requires-room-E-Destruct
drop-requires-room-E-Destruct g c κs within = an_entry (lone g.row.A-Args.mir) (lone g.row.A-Row.mir) (lone g.row.A-Reply.mir) g.met.A.App.work_fits
