-- It is the deed of the replica there.
use Rattle.std.proofs.Common.{false}
use Rattle.std.proofs.lemmas.Option.{slice_get-get_or}
use Rattle.std.proofs.lemmas.Result.{err_from_is_err_and}
use Rattle.calvin_synod_group.proofs.Carried.{did_group, proposed_full, proposed_unsent, ends_proposed}
use Rattle.calvin_synod_group.proofs.happening.propose.Goals as goal

pub returns-in_err-mail-clause-step : goal.returns-in_err-mail-clause-step
returns-in_err-mail-clause-step g c =
    let p = err_from_is_err_and c.from_residual.result c.from_residual.ensures.1 in
    rw (p.1, p.2) (proposed_unsent _ _ c.args.packets.now.items c.requires _ _ (slice_get-get_or _ _ _ c.if-at-members.false) c.args.slot c.args.batch.now _ false (c.in_err-mail.ensures c.args.batch.now))

pub returns-in_err-batch-clause-step : goal.returns-in_err-batch-clause-step
returns-in_err-batch-clause-step g c =
    let p = err_from_is_err_and c.from_residual-in_err-batch.result c.from_residual-in_err-batch.ensures.1 in
    rw (p.1, p.2) (proposed_full _ _ c.args.packets.now.items c.requires _ _ (slice_get-get_or _ _ _ c.if-at-members.false) c.args.slot c.args.batch.now _ false (c.in_ok-mail.ensures c.args.batch.now) _ c.in_err-batch.ensures.only)

pub returns-clause-step : goal.returns-clause-step
returns-clause-step g c =
    ends_proposed _ _ _ c.requires _ _ _ _ (slice_get-get_or _ _ _ c.if-at-members.false) (slice_get-get_or _ _ _ c.if-at-members.false) c.args.slot c.args.batch.now _ c.in_ok-batch.ensures.ok _ false (c.in_ok-mail.ensures c.args.batch.now) _ c.post_and_propose.ensures.did _ c.post_and_propose.ensures.posted

pub returns-clause-same : goal.returns-clause-same
returns-clause-same g c = did_group _ _ c.requires _ _ _ (slice_get-get_or _ _ _ c.if-at-members.false) _ _ _ c.post_and_propose.ensures.did
