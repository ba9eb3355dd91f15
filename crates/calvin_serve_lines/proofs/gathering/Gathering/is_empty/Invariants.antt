use Rattle.std.proofs.Common.{◌≡◌, drop}
use Rattle.calvin_serve_lines.specs.Gathered.{is_empty}
use Rattle.calvin_serve_lines.proofs.gathering.Gathering.is_empty.Given as goal

abbrev pub invariant-loop-group : goal.invariant-loop-group
invariant-loop-group g l = is_empty (drop l.group-index l.group-items) ≡ is_empty l.self
