use Rattle.std.proofs.Common.{◌≤◌, length}
use Rattle.calvin_script_tokens.proofs.KeyTurns.{Onward}
use Rattle.calvin_script_tokens.proofs.keys.read_key_set.Given as goal

abbrev pub invariant-items : goal.invariant-items
invariant-items g l = record {
  onward : Onward g.F.KeyForm.form l.initial.reader l.reader l.keys;
  few : length l.keys ≤ 16;
}

abbrev pub decreases-items : goal.decreases-items
decreases-items g l = length l.reader
