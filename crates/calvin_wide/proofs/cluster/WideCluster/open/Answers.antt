-- What a thread is handed may go to it; an entry fits in memory.
use denote.Memory.{lone}
use denote.Param.Send.{param_send, param_sync, copied_send, copied_sync}
use Rattle.calvin_histories.proofs.EntrySizes.{an_entry}
use Rattle.calvin_wide.proofs.cluster.WideCluster.open.Goals as goal

pub open_over-requires-send-A : goal.open_over-requires-send-A
open_over-requires-send-A g c κs within = copied_send 0 _ c.type_bounds.send-A

pub open_over-requires-sync-A : goal.open_over-requires-sync-A
open_over-requires-sync-A g c κs within = copied_sync 0 _ c.type_bounds.sync-A

pub open_over-requires-send-L : goal.open_over-requires-send-L
open_over-requires-send-L g c κs within = param_send 1 _ c.type_bounds.send-L

pub open_over-requires-send-S : goal.open_over-requires-send-S
open_over-requires-send-S g c κs within = param_send 2 _ c.type_bounds.send-S

pub open_over-requires-send-G : goal.open_over-requires-send-G
open_over-requires-send-G g c κs within = param_send 3 _ c.type_bounds.send-G

pub open_over-requires-sync-G : goal.open_over-requires-sync-G
open_over-requires-sync-G g c κs within = param_sync 3 _ c.type_bounds.sync-G

pub open_over-requires-send-J : goal.open_over-requires-send-J
open_over-requires-send-J g c κs within = param_send 4 _ c.type_bounds.send-J

pub open_over-requires-sync-J : goal.open_over-requires-sync-J
open_over-requires-sync-J g c κs within = param_sync 4 _ c.type_bounds.sync-J

pub open_over-requires-send-R : goal.open_over-requires-send-R
open_over-requires-send-R g c κs within = copied_send 5 _ c.type_bounds.send-R

pub open_over-requires-sync-R : goal.open_over-requires-sync-R
open_over-requires-sync-R g c κs within = copied_sync 5 _ c.type_bounds.sync-R

pub open_over-requires-send-A-Args : goal.open_over-requires-send-A-Args
open_over-requires-send-A-Args g c κs within = copied_send 6 _ c.type_bounds.send-A-Args

pub open_over-requires-sync-A-Args : goal.open_over-requires-sync-A-Args
open_over-requires-sync-A-Args g c κs within = copied_sync 6 _ c.type_bounds.sync-A-Args

pub open_over-requires-send-A-Row : goal.open_over-requires-send-A-Row
open_over-requires-send-A-Row g c κs within = copied_send 7 _ c.type_bounds.send-A-Row

pub open_over-requires-sync-A-Row : goal.open_over-requires-sync-A-Row
open_over-requires-sync-A-Row g c κs within = copied_sync 7 _ c.type_bounds.sync-A-Row

pub open_over-requires-send-A-Reply : goal.open_over-requires-send-A-Reply
open_over-requires-send-A-Reply g c κs within = copied_send 8 _ c.type_bounds.send-A-Reply

pub open_over-requires-sync-A-Reply : goal.open_over-requires-sync-A-Reply
open_over-requires-sync-A-Reply g c κs within = copied_sync 8 _ c.type_bounds.sync-A-Reply

pub open_over-requires-after_bounds : goal.open_over-requires-after_bounds
open_over-requires-after_bounds g c κs within = (an_entry (lone g.row.A-Args.mir) (lone g.row.A-Row.mir) (lone g.row.A-Reply.mir) (g.met.A.App g.world.𝓛 g.world.𝓜 g.world.𝓡 ((λ s x. x), (λ x. x), (λ x. x), λ x. x)).work_fits, (c.requires.opened, (c.requires.nodes, c.requires.config)))

pub drop-opened-inside-requires-room-E-Destruct : goal.drop-opened-inside-requires-room-E-Destruct
drop-opened-inside-requires-room-E-Destruct g c κs within = an_entry (lone g.row.A-Args.mir) (lone g.row.A-Row.mir) (lone g.row.A-Reply.mir) (g.met.A.App g.world.𝓛 g.world.𝓜 g.world.𝓡 ((λ s x. x), (λ x. x), (λ x. x), λ x. x)).work_fits

pub drop-opened-inside-requires-then-workers-gt-MOST_WORKERS-room-E-Destruct : goal.drop-opened-inside-requires-then-workers-gt-MOST_WORKERS-room-E-Destruct
drop-opened-inside-requires-then-workers-gt-MOST_WORKERS-room-E-Destruct g c κs within = an_entry (lone g.row.A-Args.mir) (lone g.row.A-Row.mir) (lone g.row.A-Reply.mir) (g.met.A.App g.world.𝓛 g.world.𝓜 g.world.𝓡 ((λ s x. x), (λ x. x), (λ x. x), λ x. x)).work_fits
