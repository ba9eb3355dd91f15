-- So far each node is new.
use Rattle.std.proofs.Common.{◌≡◌, map}
use Rattle.std.specs.List.{range_with_len}
use Rattle.calvin_order.specs.Configs.{config_of}
use Rattle.calvin_world.proofs.InCode.{at_first}
use Rattle.calvin_world.proofs.world.World.new.Given as goal

abbrev pub invariant-loop-i : goal.invariant-loop-i
invariant-loop-i g l = l.nodes.items ≡ map (at_first (config_of l.config g.S.Rows.points g.S.Rows.cold)) (range_with_len 0 l.i)
