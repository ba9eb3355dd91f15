use Rattle.std.proofs.Common.{[], ◌∙◌, ap}
use Rattle.calvin_serial.specs.Scouting.{scouted_epoch}
use Rattle.calvin_serial.proofs.Scouts.{behind, behind_none, one_scouted, all_scouted}
use Rattle.calvin_serial.proofs.scouted.scouted_epoch.Goals as goal

pub loop-place-init : goal.loop-place-init
loop-place-init g c =
    let found = scouted_epoch g.A.App.meaning c.args.rows.now in
    ap (λ none. behind none (found c.into_iter-place-iterator.result)) c.new-scouted.ensures.items
    ∙ behind_none (found c.into_iter-place-iterator.result) ∙ ap found c.into_iter-place-iterator.ensures.into_iter_gives

pub loop-place-preserved : goal.loop-place-preserved
loop-place-preserved g c =
    one_scouted g.A.App.meaning c.args.rows.now c.loop-place.scouted.items c.push.new.self.items _
    c.loop-place.place-iterator c.next.new.self c.in-Some.place c.in-Some.request.now c.scouted_txn.result
    c.in-Some.ensures.steps c.scouted_txn.ensures c.in_ok-push.ensures.items c.loop-place.invariant

pub returns-clause-scouted : goal.returns-clause-scouted
returns-clause-scouted g c =
    all_scouted g.A.App.meaning c.args.rows.now c.loop-place.scouted.items [] _
    c.loop-place.place-iterator c.in-None.ensures.steps.0 c.loop-place.invariant
