use Rattle.std.proofs.Common.{◌≡◌, ◌++◌, drop, codes}
use Rattle.std.specs.List.{flat_map}
use Rattle.calvin_text.specs.Texts.{value_text, values_text}
use Rattle.calvin_text.proofs.printed.push_values.Given as goal

abbrev pub invariant-loop-i : goal.invariant-loop-i
invariant-loop-i l = l.text.items ++ flat_map (λ w. codes " " ++ value_text w) (drop l.i l.values) ≡ l.fn.text.items ++ values_text l.values
