use Rattle.std.proofs.Common.{◌≡◌, drop}
use Rattle.calvin_types.specs.Keys.{has}
use Rattle.calvin_app.specs.Writing.{keys_of}
use Rattle.calvin_app.proofs.table.is_among.Given as goal

abbrev pub invariant-loop-other : goal.invariant-loop-other
invariant-loop-other g l = has (keys_of l.rows) l.key ≡ has (keys_of (drop l.other-index l.rows)) l.key
