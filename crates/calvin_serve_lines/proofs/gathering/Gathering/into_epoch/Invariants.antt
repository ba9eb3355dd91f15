use Rattle.std.proofs.Common.{◌≡◌, ◌<◌, ◌+◌, ◌^◌, ◌++◌, length}
use Rattle.std.specs.Vec.Iter.{into_iter_items}
use Rattle.calvin_serve_lines.specs.Gathered.{batches_from, batches_of}
use Rattle.calvin_serve_lines.proofs.gathering.Gathering.into_epoch.Given as goal

abbrev pub invariant-loop-group : goal.invariant-loop-group
invariant-loop-group g l =
    let rest = into_iter_items l.group-iterator in
    (l.written ++ batches_from l.number rest ≡ batches_of l.fn.self) × (l.number + length rest < 2 ^ 8)
