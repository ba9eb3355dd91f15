use Rattle.std.proofs.Common.{◌≡◌}
use Rattle.calvin_serial.specs.Scouting.{scouted_epoch}
use Rattle.calvin_serial.proofs.Scouts.{behind}
use Rattle.calvin_serial.proofs.scouted.scouted_epoch.Given as goal

-- the requests so far with their sets, and those to come with theirs, are those of the whole epoch
abbrev pub invariant-loop-place : goal.invariant-loop-place
invariant-loop-place g l =
    let found = scouted_epoch g.A.App.meaning l.rows in
    behind l.scouted.items (found l.place-iterator) ≡ found l.fn.requests
