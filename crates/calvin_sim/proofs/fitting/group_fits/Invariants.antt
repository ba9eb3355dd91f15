use Rattle.std.proofs.Common.{◌≡◌, map, drop}
use Rattle.std.specs.Prelude.{nat_le}
use Rattle.calvin_types.specs.declared.limits.TheConstants.{MOST_UNDECIDED}
use Rattle.calvin_script.specs.Scripts.{all_listed}
use Rattle.calvin_sim.specs.Simulations.{listed_for}
use Rattle.calvin_sim.proofs.fitting.group_fits.Given as goal

-- what is left has room for the epochs to come where there was room for all
abbrev pub invariant-loop-epoch : goal.invariant-loop-epoch
invariant-loop-epoch g l = nat_le (listed_for l.group (map all_listed (drop l.epoch-index l.epochs))) l.left ≡ nat_le (listed_for l.group (map all_listed l.epochs)) MOST_UNDECIDED
