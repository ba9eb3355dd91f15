use Rattle.std.proofs.Common.{take}
use Rattle.std.specs.List.{flat_map}
use Rattle.calvin_script.specs.Scripts.{contents}
use Rattle.calvin_sim.specs.Simulations.{submitting_epoch}
use Rattle.calvin_run.specs.Growing.{IsGrown}
use Rattle.calvin_run.proofs.submitting.submit_all.Given as goal

-- the epochs so far are
abbrev pub invariant-loop-epoch : goal.invariant-loop-epoch
invariant-loop-epoch g l = IsGrown g.A.App.meaning l.fn.book (flat_map (submitting_epoch l.script.partitions) (take l.epoch-index (contents l.script).epochs)) l.book
