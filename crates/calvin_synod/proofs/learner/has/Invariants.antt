use Rattle.std.proofs.Common.{◌≡◌, drop}
use Rattle.std.specs.Prelude.{nat_eq}
use Rattle.std.specs.List.{list_any}
use Rattle.calvin_synod.proofs.learner.has.Given as goal

-- whether it is among those that are left is whether it is among all
abbrev pub invariant-loop-i : goal.invariant-loop-i
invariant-loop-i l = list_any (nat_eq l.from) (drop l.i l.voters) ≡ list_any (nat_eq l.from) l.voters
