use Rattle.std.proofs.Common.{◌≡◌, drop}
use Rattle.std.specs.List.{list_any}
use Rattle.calvin_types.specs.Participants.{site, is_local}
use Rattle.calvin_types.proofs.key_set.KeySet.has_local.Given as goal

abbrev pub invariant-loop-i : goal.invariant-loop-i
invariant-loop-i l = list_any (is_local (site l.config.partitions l.partition)) (drop l.i l.self) ≡ list_any (is_local (site l.config.partitions l.partition)) l.self
