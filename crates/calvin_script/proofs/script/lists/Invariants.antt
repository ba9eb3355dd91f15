use Rattle.std.proofs.Common.{◌≡◌, map, drop, nat_eq}
use Rattle.std.specs.List.{list_any}
use Rattle.calvin_script.specs.Scripts.{listed}
use Rattle.calvin_script.proofs.script.lists.Given as goal

abbrev pub invariant-loop-batch : goal.invariant-loop-batch
invariant-loop-batch g l = list_any (λ c. nat_eq c.group l.group) (map listed (drop l.batch-index l.batches)) ≡ list_any (λ c. nat_eq c.group l.group) (map listed l.batches)
