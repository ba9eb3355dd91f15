-- The lines so far are those of the first replies.
use Rattle.std.proofs.Common.{◌≡◌, map, take}
use Rattle.calvin_text.specs.Texts.{line}
use Rattle.calvin_check.proofs.expecting.answer_lines.Given as goal

abbrev pub invariant-loop-place : goal.invariant-loop-place
invariant-loop-place g l = map (λ v. v.items) l.lines.items ≡ map (λ e. line g.R.Printed.printed e.0 e.1.0 e.1.1) (take l.place-index l.replies.items)
