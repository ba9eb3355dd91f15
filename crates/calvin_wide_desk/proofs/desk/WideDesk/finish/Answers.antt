-- An entry fits in memory.
use denote.Memory.{lone}
use Rattle.calvin_histories.proofs.EntrySizes.{an_entry}
use Rattle.calvin_wide_desk.proofs.desk.WideDesk.finish.Goals as goal

pub drop-self-inside-requires-room-E-Destruct : goal.drop-self-inside-requires-room-E-Destruct
drop-self-inside-requires-room-E-Destruct g c κs within = an_entry (lone g.row.A-Args.mir) (lone g.row.A-Row.mir) (lone g.row.A-Reply.mir) g.met.A.App.work_fits

pub drop-self-inside-requires-in-Err-room-E-Destruct :
    goal.drop-self-inside-requires-in-Err-room-E-Destruct
drop-self-inside-requires-in-Err-room-E-Destruct g c κs within = an_entry (lone g.row.A-Args.mir) (lone g.row.A-Row.mir) (lone g.row.A-Reply.mir) g.met.A.App.work_fits

pub drop-pen-inside-requires-room-E-Destruct : goal.drop-pen-inside-requires-room-E-Destruct
drop-pen-inside-requires-room-E-Destruct g c κs within = an_entry (lone g.row.A-Args.mir) (lone g.row.A-Row.mir) (lone g.row.A-Reply.mir) g.met.A.App.work_fits

pub drop-pen-inside-requires-then-not-write-room-E-Destruct :
    goal.drop-pen-inside-requires-then-not-write-room-E-Destruct
drop-pen-inside-requires-then-not-write-room-E-Destruct g c κs within = an_entry (lone g.row.A-Args.mir) (lone g.row.A-Row.mir) (lone g.row.A-Reply.mir) g.met.A.App.work_fits

pub drop-self-inside-requires-else-not-write-room-E-Destruct :
    goal.drop-self-inside-requires-else-not-write-room-E-Destruct
drop-self-inside-requires-else-not-write-room-E-Destruct g c κs within = an_entry (lone g.row.A-Args.mir) (lone g.row.A-Row.mir) (lone g.row.A-Reply.mir) g.met.A.App.work_fits

pub drop-self-inside-requires-else-not-write-2-room-E-Destruct :
    goal.drop-self-inside-requires-else-not-write-2-room-E-Destruct
drop-self-inside-requires-else-not-write-2-room-E-Destruct g c κs within = an_entry (lone g.row.A-Args.mir) (lone g.row.A-Row.mir) (lone g.row.A-Reply.mir) g.met.A.App.work_fits
