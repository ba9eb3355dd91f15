use Rattle.std.proofs.Common.{◌∙◌, ap, sym, subst}
use Rattle.calvin_journal_log.specs.Disks.{Leads, Synced}
use Rattle.calvin_journal.proofs.Additions.{opened_in_part}
use Rattle.calvin_journal.proofs.Options.{err_then}
use Rattle.calvin_journal.proofs.opening.Opening.begin.Goals as goal

pub returns-in-Ok-false-clause-any_moment : goal.returns-in-Ok-false-clause-any_moment
returns-in-Ok-false-clause-any_moment g c =
    let heading = c.args.heading.now in
    let read = c.next_line.ensures.told ∙ ap (g.L.Log.told) c.new-reader.ensures.log in
    let still = subst (λ o. Leads Synced (g.L.Log.told c.args.log) o) (sym read) c.in_ok-log.ensures.ok in
    err_then c.begun.result (λ r leads. opened_in_part heading (g.L.Log.told c.args.log) (g.L.Log.told c.next_line.new.self.log) (g.L.Log.told r.log) (g.met.L.Log.in_order c.args.log) still leads) c.begun.ensures.any_moment
