use Rattle.std.proofs.Common.{length, ◌-◌, ◌≤◌}
use Rattle.calvin_script_tokens.proofs.Digits.{Read}
use Rattle.calvin_script_tokens.proofs.tokens.short_digits.Given as goal

abbrev pub invariant-loop-i : goal.invariant-loop-i
invariant-loop-i l = record {
  so_far : Read l.bytes l.i l.n;
  within : l.i ≤ length l.bytes;
}

abbrev pub decreases-loop-i : goal.decreases-loop-i
decreases-loop-i l = length l.bytes - l.i
