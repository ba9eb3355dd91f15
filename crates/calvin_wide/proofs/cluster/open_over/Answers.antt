-- The world's configuration is the book's; an entry fits in memory.
use denote.Memory.{lone}
use denote.Param.Send.{param_send, param_sync}
use Rattle.std.proofs.Common.{◌*◌, sym, ap, ◌∙◌}
use Rattle.calvin_order.specs.Configs.{Config}
use Rattle.calvin_world.proofs.SettledLaws.{config_in_code}
use Rattle.calvin_histories.proofs.EntrySizes.{an_entry}
use Rattle.calvin_wide.proofs.cluster.open_over.Goals as goal

pub new-requires-after_bounds : goal.new-requires-after_bounds
new-requires-after_bounds g c κs within =
    let log = c.args.book.now in
    let same = config_in_code g.A.App.meaning (g.met.A.App g.world.𝓛 g.world.𝓜 g.world.𝓡 ((λ s x. x), (λ x. x), (λ x. x), λ x. x)).lawful.writes_within_the_sets log.config log.events _ c.world.result.now c.world.ensures.run in
    (λ i. (c.config.ensures.replicas ∙ ap (λ (d : Config). d.replicas) same) i * (c.config.ensures.partitions ∙ ap (λ (d : Config). d.partitions) same) i) ∙ sym c.requires.nodes

pub found_all-requires-send-J : goal.found_all-requires-send-J
found_all-requires-send-J g c κs within = param_send 3 _ c.type_bounds.send-J

pub found_all-requires-sync-J : goal.found_all-requires-sync-J
found_all-requires-sync-J g c κs within = param_sync 3 _ c.type_bounds.sync-J

pub found_all-requires-after_bounds : goal.found_all-requires-after_bounds
found_all-requires-after_bounds g c κs within = (an_entry (lone g.row.A-Args.mir) (lone g.row.A-Row.mir) (lone g.row.A-Reply.mir) (g.met.A.App g.world.𝓛 g.world.𝓜 g.world.𝓡 ((λ s x. x), (λ x. x), (λ x. x), λ x. x)).work_fits, (c.named.ensures, (c.requires.nodes, c.requires.config)))

pub drop-opened-inside-requires-room-E-Destruct : goal.drop-opened-inside-requires-room-E-Destruct
drop-opened-inside-requires-room-E-Destruct g c κs within = an_entry (lone g.row.A-Args.mir) (lone g.row.A-Row.mir) (lone g.row.A-Reply.mir) (g.met.A.App g.world.𝓛 g.world.𝓜 g.world.𝓡 ((λ s x. x), (λ x. x), (λ x. x), λ x. x)).work_fits

pub drop-room-requires-in_err-ended-room-T-Destruct : goal.drop-room-requires-in_err-ended-room-T-Destruct
drop-room-requires-in_err-ended-room-T-Destruct g c κs within = an_entry (lone g.row.A-Args.mir) (lone g.row.A-Row.mir) (lone g.row.A-Reply.mir) (g.met.A.App g.world.𝓛 g.world.𝓜 g.world.𝓡 ((λ s x. x), (λ x. x), (λ x. x), λ x. x)).work_fits

pub drop-opened-inside-requires-in_err-ended-room-E-Destruct : goal.drop-opened-inside-requires-in_err-ended-room-E-Destruct
drop-opened-inside-requires-in_err-ended-room-E-Destruct g c κs within = an_entry (lone g.row.A-Args.mir) (lone g.row.A-Row.mir) (lone g.row.A-Reply.mir) (g.met.A.App g.world.𝓛 g.world.𝓜 g.world.𝓡 ((λ s x. x), (λ x. x), (λ x. x), λ x. x)).work_fits

pub drop-room-requires-in_err-desks-2-room-T-Destruct : goal.drop-room-requires-in_err-desks-2-room-T-Destruct
drop-room-requires-in_err-desks-2-room-T-Destruct g c κs within = an_entry (lone g.row.A-Args.mir) (lone g.row.A-Row.mir) (lone g.row.A-Reply.mir) (g.met.A.App g.world.𝓛 g.world.𝓜 g.world.𝓡 ((λ s x. x), (λ x. x), (λ x. x), λ x. x)).work_fits

pub drop-start-requires-room-T-Destruct : goal.drop-start-requires-room-T-Destruct
drop-start-requires-room-T-Destruct g c κs within = an_entry (lone g.row.A-Args.mir) (lone g.row.A-Row.mir) (lone g.row.A-Reply.mir) (g.met.A.App g.world.𝓛 g.world.𝓜 g.world.𝓡 ((λ s x. x), (λ x. x), (λ x. x), λ x. x)).work_fits

pub drop-room-requires-in_err-push-2-room-T-Destruct : goal.drop-room-requires-in_err-push-2-room-T-Destruct
drop-room-requires-in_err-push-2-room-T-Destruct g c κs within = an_entry (lone g.row.A-Args.mir) (lone g.row.A-Row.mir) (lone g.row.A-Reply.mir) (g.met.A.App g.world.𝓛 g.world.𝓜 g.world.𝓡 ((λ s x. x), (λ x. x), (λ x. x), λ x. x)).work_fits

pub drop-start-requires-in_default-room-T-Destruct : goal.drop-start-requires-in_default-room-T-Destruct
drop-start-requires-in_default-room-T-Destruct g c κs within = an_entry (lone g.row.A-Args.mir) (lone g.row.A-Row.mir) (lone g.row.A-Reply.mir) (g.met.A.App g.world.𝓛 g.world.𝓜 g.world.𝓡 ((λ s x. x), (λ x. x), (λ x. x), λ x. x)).work_fits

pub drop-room-requires-in_default-2-room-T-Destruct : goal.drop-room-requires-in_default-2-room-T-Destruct
drop-room-requires-in_default-2-room-T-Destruct g c κs within = an_entry (lone g.row.A-Args.mir) (lone g.row.A-Row.mir) (lone g.row.A-Reply.mir) (g.met.A.App g.world.𝓛 g.world.𝓜 g.world.𝓡 ((λ s x. x), (λ x. x), (λ x. x), λ x. x)).work_fits

pub drop-start-requires-in_default-unbounded-room-T-Destruct : goal.drop-start-requires-in_default-unbounded-room-T-Destruct
drop-start-requires-in_default-unbounded-room-T-Destruct g c κs within = an_entry (lone g.row.A-Args.mir) (lone g.row.A-Row.mir) (lone g.row.A-Reply.mir) (g.met.A.App g.world.𝓛 g.world.𝓜 g.world.𝓡 ((λ s x. x), (λ x. x), (λ x. x), λ x. x)).work_fits

pub drop-room-requires-in_default-unbounded-2-room-T-Destruct : goal.drop-room-requires-in_default-unbounded-2-room-T-Destruct
drop-room-requires-in_default-unbounded-2-room-T-Destruct g c κs within = an_entry (lone g.row.A-Args.mir) (lone g.row.A-Row.mir) (lone g.row.A-Reply.mir) (g.met.A.App g.world.𝓛 g.world.𝓜 g.world.𝓡 ((λ s x. x), (λ x. x), (λ x. x), λ x. x)).work_fits

pub drop-start-requires-in_default-new-room-T-Destruct : goal.drop-start-requires-in_default-new-room-T-Destruct
drop-start-requires-in_default-new-room-T-Destruct g c κs within = an_entry (lone g.row.A-Args.mir) (lone g.row.A-Row.mir) (lone g.row.A-Reply.mir) (g.met.A.App g.world.𝓛 g.world.𝓜 g.world.𝓡 ((λ s x. x), (λ x. x), (λ x. x), λ x. x)).work_fits

pub drop-room-requires-in_default-new-2-room-T-Destruct : goal.drop-room-requires-in_default-new-2-room-T-Destruct
drop-room-requires-in_default-new-2-room-T-Destruct g c κs within = an_entry (lone g.row.A-Args.mir) (lone g.row.A-Row.mir) (lone g.row.A-Reply.mir) (g.met.A.App g.world.𝓛 g.world.𝓜 g.world.𝓡 ((λ s x. x), (λ x. x), (λ x. x), λ x. x)).work_fits

pub drop-start-requires-in_err-crew-room-T-Destruct : goal.drop-start-requires-in_err-crew-room-T-Destruct
drop-start-requires-in_err-crew-room-T-Destruct g c κs within = an_entry (lone g.row.A-Args.mir) (lone g.row.A-Row.mir) (lone g.row.A-Reply.mir) (g.met.A.App g.world.𝓛 g.world.𝓜 g.world.𝓡 ((λ s x. x), (λ x. x), (λ x. x), λ x. x)).work_fits

pub drop-room-requires-in_err-crew-2-room-T-Destruct : goal.drop-room-requires-in_err-crew-2-room-T-Destruct
drop-room-requires-in_err-crew-2-room-T-Destruct g c κs within = an_entry (lone g.row.A-Args.mir) (lone g.row.A-Row.mir) (lone g.row.A-Reply.mir) (g.met.A.App g.world.𝓛 g.world.𝓜 g.world.𝓡 ((λ s x. x), (λ x. x), (λ x. x), λ x. x)).work_fits
