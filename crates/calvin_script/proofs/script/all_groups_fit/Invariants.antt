use Rattle.std.proofs.Common.{◌≡◌, map, drop}
use Rattle.std.specs.List.{list_all}
use Rattle.calvin_script.specs.Scripts.{all_listed}
use Rattle.calvin_script.specs.Scripts.{groups_fit}
use Rattle.calvin_script.proofs.script.all_groups_fit.Given as goal

abbrev pub invariant-loop-epoch : goal.invariant-loop-epoch
invariant-loop-epoch g l = list_all (groups_fit l.partitions) (map all_listed (drop l.epoch-index l.epochs)) ≡ list_all (groups_fit l.partitions) (map all_listed l.epochs)
