use Rattle.std.specs.Prelude.{slice_range}
use Rattle.std.specs.List.{list_any}
use Rattle.calvin_types.specs.Participants.{has_local_key}
use Rattle.std.proofs.lemmas.Result.{err_from_is_err_and}
use Rattle.calvin_bench.proofs.ToldOrders.{told_next, told_refused}
use Rattle.calvin_bench.proofs.telling.tell_epoch.Goals as goal

pub returns-in_err-merged-clause-only : goal.returns-in_err-merged-clause-only
returns-in_err-merged-clause-only g c =
    let p = err_from_is_err_and c.from_residual.result c.from_residual.ensures.1 in
    rw (p.1, p.2) (told_refused c.args.scheduler.now.here c.args.order.now c.args.epoch c.args.start c.end_of_epoch-end.result c.requires.split c.end_of_epoch-end.ensures.split c.end_of_epoch-end.ensures.after _ _ c.args.scheduler.now c.merged.new.self c.requires.upto c.in_err-merged.ensures.did)

pub returns-clause-told : goal.returns-clause-told
returns-clause-told g c = told_next c.args.scheduler.now.here c.args.order.now c.args.epoch c.args.start c.end_of_epoch-end.result c.requires.split c.end_of_epoch-end.ensures.split c.end_of_epoch-end.ensures.after (list_any (λ e. has_local_key c.args.scheduler.now.here e.1) (slice_range c.args.order.now c.args.start c.end_of_epoch-end.result)) c.in_ok-merged.field-0 c.args.scheduler.now c.merged.new.self c.requires.upto c.in_ok-merged.ensures.did
