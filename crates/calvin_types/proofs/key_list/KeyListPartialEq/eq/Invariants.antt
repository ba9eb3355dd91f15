use Rattle.std.proofs.Common.{◌≡◌, drop, length}
use Rattle.calvin_types.specs.SameKeys.{same_keys}
use Rattle.calvin_types.proofs.key_list.KeyListPartialEq.eq.Given as goal

abbrev pub invariant-loop-i : goal.invariant-loop-i
invariant-loop-i l = record {
  alike : same_keys (drop l.i l.self) (drop l.i l.other) ≡ same_keys l.self l.other;
  as_long : length l.self ≡ length l.other;
}
