use Rattle.std.proofs.Common.{◌≡◌, [], map}
use Rattle.std.specs.List.{range_with_len}
use Rattle.calvin_serve_lines.proofs.gathering.Gathering.new.Given as goal

abbrev pub invariant-loop-group : goal.invariant-loop-group
invariant-loop-group g l = l.groups.items ≡ map (λ _. []) (range_with_len 0 l._group)
