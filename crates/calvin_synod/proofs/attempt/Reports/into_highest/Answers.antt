use Rattle.std.proofs.Common.{[], ◌∷◌, ◌++◌, sym, ap, ◌∙◌}
use Rattle.calvin_synod.specs.Roles as roles
use Rattle.calvin_synod.proofs.Reported.{highest_none, highest_push}
use Rattle.calvin_synod.proofs.attempt.Reports.into_highest.Goals as goal

pub loop-report-init : goal.loop-report-init
loop-report-init g c = highest_none c.self.inside.items.items 0 ∙ ap roles.highest c.self.view_is

pub loop-report-preserved : goal.loop-report-preserved
loop-report-preserved g c =
    ap (λ best. roles.highest (c.pop.new.self.items ++ record { from = 0; vote = best } ∷ [])) c.higher-best.ensures
    ∙ sym (highest_push c.pop.new.self.items c.in-Some.report (record { from = 0; vote = c.loop-report.best }))
    ∙ ap (λ items. roles.highest (items ++ record { from = 0; vote = c.loop-report.best } ∷ [])) (sym c.in-Some.ensures.items)
    ∙ c.loop-report.invariant
