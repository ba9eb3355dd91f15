use Rattle.std.proofs.Common.{◌≡◌, true}
use Rattle.std.specs.Prelude.{nat_le}
use Rattle.std.specs.List.{list_all, range_with_len}
use Rattle.calvin_types.specs.declared.limits.TheConstants.{MOST_UNDECIDED}
use Rattle.calvin_script.specs.Scripts.{contents}
use Rattle.calvin_sim.specs.Simulations.{listed_for}
use Rattle.calvin_sim.proofs.fitting.fits.Given as goal

-- there is room for the requests of each group so far
abbrev pub invariant-loop-group : goal.invariant-loop-group
invariant-loop-group g l = list_all (λ h. nat_le (listed_for h (contents l.script).epochs) MOST_UNDECIDED) (range_with_len 0 l.group) ≡ true
