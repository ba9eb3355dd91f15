use Rattle.calvin_lock.proofs.ReadyLaws.{ready_with_request, requested_before}
use Rattle.calvin_lock.proofs.locks.ready_stays.Goals as goal

pub returns-clause-requested : goal.returns-clause-requested
returns-clause-requested g c =
    let l = g.L.Locks.kept c.args.locks.now in
    λ q later sets ready past. ready_with_request l q later sets ready (requested_before l q later c.up_to_last.ensures ready past)
