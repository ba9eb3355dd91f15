use Rattle.std.proofs.Common.{◌≡◌, nat_eq, drop}
use Rattle.std.specs.List.{list_any}
use Rattle.calvin_synod.specs.Roles as roles
use Rattle.calvin_synod.proofs.highest.has_report.Given as goal

-- whether it is among those that are left is whether it is among all
abbrev pub invariant-loop-report : goal.invariant-loop-report
invariant-loop-report g l = list_any (nat_eq l.from) (roles.reporters (drop l.report-index l.reports)) ≡ list_any (nat_eq l.from) (roles.reporters l.reports)
