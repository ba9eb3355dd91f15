use Rattle.std.proofs.Common.{◌≡◌, map, drop}
use Rattle.calvin_script.specs.Scripts.{listed}
use Rattle.calvin_script.specs.Scripts.{groups_fit}
use Rattle.calvin_script.proofs.script.groups_fit.Given as goal

abbrev pub invariant-loop-i : goal.invariant-loop-i
invariant-loop-i g l = groups_fit l.partitions (map listed (drop l.i l.batches)) ≡ groups_fit l.partitions (map listed l.batches)
