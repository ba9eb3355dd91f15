-- The lines are those of the texts so far.
use Rattle.std.proofs.Common.{◌≡◌, ◌++◌, map, take, codes}
use Rattle.std.specs.Prelude.{string_bytes}
use Rattle.calvin_check.proofs.expecting.lines_of.Given as goal

abbrev pub invariant-loop-text : goal.invariant-loop-text
invariant-loop-text l = map (λ v. v.items) l.lines.items ≡ map (λ t. string_bytes t ++ codes "\n") (take l.text-index l.texts)
