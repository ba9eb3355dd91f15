use Rattle.std.proofs.Common.{◌∙◌, inr, ⊎_elim}
use Rattle.calvin_serve_command.proofs.compacting.write_anew.Goals as goal

pub returns-in-Err-compact-clause-refused : goal.returns-in-Err-compact-clause-refused
returns-in-Err-compact-clause-refused g c not =
    ⊎_elim (λ memory. absurd (not (c.stop-in-Err-compact.ensures.fault ∙ memory)))
    (λ failed. inr (c.in-Ok.log, c.in-Err-compact.refused.log, c.in-Err-compact.ensures.failed failed))
    c.in-Err-compact.ensures.only
