-- What is handed to the store may go to its threads; an entry fits in memory; how the list begins, and what is refused.
use denote.Memory.{lone}
use denote.Param.Send.{param_send, param_sync, copied_send, copied_sync}
use Rattle.std.proofs.Common.{◌*◌, sym, ap, subst, ◌∙◌}
use Rattle.calvin_order.specs.Configs.{Config}
use Rattle.calvin_world.proofs.SettledLaws.{config_in_code}
use Rattle.calvin_histories.proofs.EntrySizes.{an_entry}
use Rattle.calvin_wide_desk.specs.Stopping.{BeginWith}
use Rattle.calvin_wide_run.specs.Running.{IsWideFault}
use Rattle.calvin_wide_run.proofs.AtNodes.{begins_at_nodes, opened_only, unassembled_only}
use Rattle.calvin_wide_run.proofs.running.bring_on_wide.Goals as goal

pub open-requires-send-A : goal.open-requires-send-A
open-requires-send-A g c κs within = copied_send 0 _ c.type_bounds.send-A

pub open-requires-sync-A : goal.open-requires-sync-A
open-requires-sync-A g c κs within = copied_sync 0 _ c.type_bounds.sync-A

pub open-requires-send-L : goal.open-requires-send-L
open-requires-send-L g c κs within = param_send 1 _ c.type_bounds.send-L

pub open-requires-send-S : goal.open-requires-send-S
open-requires-send-S g c κs within = param_send 2 _ c.type_bounds.send-S

pub open-requires-send-G : goal.open-requires-send-G
open-requires-send-G g c κs within = param_send 3 _ c.type_bounds.send-G

pub open-requires-sync-G : goal.open-requires-sync-G
open-requires-sync-G g c κs within = param_sync 3 _ c.type_bounds.sync-G

pub open-requires-send-J : goal.open-requires-send-J
open-requires-send-J g c κs within = param_send 4 _ c.type_bounds.send-J

pub open-requires-sync-J : goal.open-requires-sync-J
open-requires-sync-J g c κs within = param_sync 4 _ c.type_bounds.sync-J

pub open-requires-send-R : goal.open-requires-send-R
open-requires-send-R g c κs within = copied_send 8 _ c.type_bounds.send-R

pub open-requires-sync-R : goal.open-requires-sync-R
open-requires-sync-R g c κs within = copied_sync 8 _ c.type_bounds.sync-R

pub open-requires-send-A-Args : goal.open-requires-send-A-Args
open-requires-send-A-Args g c κs within = copied_send 5 _ c.type_bounds.send-A-Args

pub open-requires-sync-A-Args : goal.open-requires-sync-A-Args
open-requires-sync-A-Args g c κs within = copied_sync 5 _ c.type_bounds.sync-A-Args

pub open-requires-send-A-Row : goal.open-requires-send-A-Row
open-requires-send-A-Row g c κs within = copied_send 6 _ c.type_bounds.send-A-Row

pub open-requires-sync-A-Row : goal.open-requires-sync-A-Row
open-requires-sync-A-Row g c κs within = copied_sync 6 _ c.type_bounds.sync-A-Row

pub open-requires-send-A-Reply : goal.open-requires-send-A-Reply
open-requires-send-A-Reply g c κs within = copied_send 7 _ c.type_bounds.send-A-Reply

pub open-requires-sync-A-Reply : goal.open-requires-sync-A-Reply
open-requires-sync-A-Reply g c κs within = copied_sync 7 _ c.type_bounds.sync-A-Reply

pub open-requires-after_bounds : goal.open-requires-after_bounds
open-requires-after_bounds g c κs within = (an_entry (lone g.row.A-Args.mir) (lone g.row.A-Row.mir) (lone g.row.A-Reply.mir) (g.met.A.App g.world.𝓛 g.world.𝓜 g.world.𝓡 ((λ s x. x), (λ x. x), (λ x. x), λ x. x)).work_fits, (c.requires.opened, (c.requires.nodes, c.requires.config)))

pub returns-in-Err-clause-only : goal.returns-in-Err-clause-only
returns-in-Err-clause-only g c = opened_only c.args.workers c.in-Err.fault c.requires.some_worker c.requires.workers_at_most c.in-Err.ensures.only

pub drop-stopped-inside-requires-in_err-waited-room-T-Destruct : goal.drop-stopped-inside-requires-in_err-waited-room-T-Destruct
drop-stopped-inside-requires-in_err-waited-room-T-Destruct g c κs within = an_entry (lone g.row.A-Args.mir) (lone g.row.A-Row.mir) (lone g.row.A-Reply.mir) (g.met.A.App g.world.𝓛 g.world.𝓜 g.world.𝓡 ((λ s x. x), (λ x. x), (λ x. x), λ x. x)).work_fits

pub drop-stopped-inside-requires-in-Ok-assemble-2-room-T-Destruct : goal.drop-stopped-inside-requires-in-Ok-assemble-2-room-T-Destruct
drop-stopped-inside-requires-in-Ok-assemble-2-room-T-Destruct g c κs within = an_entry (lone g.row.A-Args.mir) (lone g.row.A-Row.mir) (lone g.row.A-Reply.mir) (g.met.A.App g.world.𝓛 g.world.𝓜 g.world.𝓡 ((λ s x. x), (λ x. x), (λ x. x), λ x. x)).work_fits

pub drop-stopped-inside-requires-3-room-T-Destruct : goal.drop-stopped-inside-requires-3-room-T-Destruct
drop-stopped-inside-requires-3-room-T-Destruct g c κs within = an_entry (lone g.row.A-Args.mir) (lone g.row.A-Row.mir) (lone g.row.A-Reply.mir) (g.met.A.App g.world.𝓛 g.world.𝓜 g.world.𝓡 ((λ s x. x), (λ x. x), (λ x. x), λ x. x)).work_fits

pub returns-in-Ok-assemble-clause-config : goal.returns-in-Ok-assemble-clause-config
returns-in-Ok-assemble-clause-config g c =
    let log = c.args.book in
    let same = config_in_code g.A.App.meaning (g.met.A.App g.world.𝓛 g.world.𝓜 g.world.𝓡 ((λ s x. x), (λ x. x), (λ x. x), λ x. x)).lawful.writes_within_the_sets log.config log.events _ c.world.result.now c.world.ensures.run in
    c.in-Ok-assemble.ensures.config ∙ sym c.config.ensures.whole ∙ same

pub returns-in-Ok-assemble-clause-begins : goal.returns-in-Ok-assemble-clause-begins
returns-in-Ok-assemble-clause-begins g c =
    let log = c.args.book in
    let same = config_in_code g.A.App.meaning (g.met.A.App g.world.𝓛 g.world.𝓜 g.world.𝓡 ((λ s x. x), (λ x. x), (λ x. x), λ x. x)).lawful.writes_within_the_sets log.config log.events _ c.world.result.now c.world.ensures.run in
    let config = c.in-Ok-assemble.ensures.config ∙ sym c.config.ensures.whole ∙ same in
    let begin = subst (BeginWith c.in-Ok.cluster.start.items) (sym c.histories.ensures.these) c.in_ok-stopped.ensures.begins in
    begins_at_nodes g.A.App.meaning log _ c.in-Ok-assemble.book.events _ _ c.in-Ok.ensures.start begin config c.in-Ok-assemble.ensures.ok

pub returns-clause-only : goal.returns-clause-only
returns-clause-only g c =
    let x = c.before.before.before.in-Err-assemble in
    let log = c.args.book in
    let same = config_in_code g.A.App.meaning (g.met.A.App g.world.𝓛 g.world.𝓜 g.world.𝓡 ((λ s x. x), (λ x. x), (λ x. x), λ x. x)).lawful.writes_within_the_sets log.config log.events _ c.world.result.now c.world.ensures.run in
    let nodes = sym (λ i. (c.config.ensures.replicas ∙ ap (λ (d : Config). d.replicas) same) i * (c.config.ensures.partitions ∙ ap (λ (d : Config). d.partitions) same) i) in
    subst IsWideFault (sym c.fault.ensures) (unassembled_only g.A.App.meaning _ _ x.why (c.histories.ensures.number ∙ c.requires.nodes ∙ nodes) x.ensures.err)
