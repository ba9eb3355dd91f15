-- It is the deed of the replica that the packet is for.
use Rattle.std.proofs.lemmas.Option.{slice_get-get_or}
use Rattle.std.proofs.lemmas.Result.{err_from_is_err_and}
use Rattle.calvin_synod.specs.Cases.{message_grows}
use Rattle.calvin_synod_group.proofs.Carried.{did_group, packet_there, delivered_unsent, delivered_full, copy_refused, sends_copy, ends_delivered}
use Rattle.calvin_synod_group.proofs.happening.deliver.Goals as goal

pub returns-in_err-mail-clause-step : goal.returns-in_err-mail-clause-step
returns-in_err-mail-clause-step g c =
    let here = packet_there _ _ c.args.number c.in-Some.packet.now c.deref.ensures.value c.in-Some.ensures.lookup.3.0 c.in-Some.ensures.lookup.1 in
    let p = err_from_is_err_and c.from_residual.result c.from_residual.ensures.1 in
    rw (p.1, p.2) (delivered_unsent _ _ c.args.packets.now.items c.requires c.args.number c.in-Some.packet.now _ here (slice_get-get_or _ _ _ c.if-at-members.false) _ c.in_err-mail.ensures)

pub returns-in_err-message-clause-step : goal.returns-in_err-message-clause-step
returns-in_err-message-clause-step g c =
    let here = packet_there _ _ c.args.number c.in-Some.packet.now c.deref.ensures.value c.in-Some.ensures.lookup.3.0 c.in-Some.ensures.lookup.1 in
    let p = err_from_is_err_and c.from_residual-in_err-message.result c.from_residual-in_err-message.ensures.1 in
    rw (p.1, p.2) (delivered_full _ _ c.args.packets.now.items c.requires c.args.number c.in-Some.packet.now _ here (slice_get-get_or _ _ _ c.if-at-members.false) c.in_ok-mail.mail (message_grows c.in-Some.packet.now.message) c.in_ok-mail.ensures _ c.in_err-message.ensures.only
    (copy_refused c.in-Some.packet.now.message c.in_err-message.ensures.succeeds))

pub post_and_take-requires : goal.post_and_take-requires
post_and_take-requires g c = sends_copy c.args.members.now c.in-Some.packet.now.to _ c.in_ok-mail.mail _ _ _ _ c.in_ok-message.ensures.ok (slice_get-get_or _ _ _ c.if-at-members.false) (slice_get-get_or _ _ _ c.if-at-members.false) c.in_ok-mail.ensures

pub returns-clause-step : goal.returns-clause-step
returns-clause-step g c =
    let here = packet_there _ _ c.args.number c.in-Some.packet.now c.deref.ensures.value c.in-Some.ensures.lookup.3.0 c.in-Some.ensures.lookup.1 in
    ends_delivered _ _ c.args.packets.now.items c.requires c.args.number c.in-Some.packet.now _ _ _ here (slice_get-get_or _ _ _ c.if-at-members.false) (slice_get-get_or _ _ _ c.if-at-members.false) _ c.in_ok-message.ensures.ok c.in_ok-mail.mail (message_grows c.in-Some.packet.now.message) c.in_ok-mail.ensures _ c.post_and_take.ensures.did _ c.post_and_take.ensures.posted

pub returns-clause-same : goal.returns-clause-same
returns-clause-same g c = did_group _ _ c.requires _ _ _ (slice_get-get_or _ _ _ c.if-at-members.false) _ _ _ c.post_and_take.ensures.did
