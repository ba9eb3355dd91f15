use Rattle.std.proofs.Common.{refl, sym, ap, ◌∙◌, slice_get, is_some}
use Rattle.calvin_report.specs.Reports.{is_lost}
use Rattle.calvin_sim_events.specs.declared.schedule.Restarts.TheVariants.{Never}
use Rattle.calvin_sim_events.proofs.Leading.{quiet_here}
use Rattle.calvin_sim_events.proofs.Passing.{due_kept}
use Rattle.calvin_sim_events.proofs.stepping.deliver.Goals as goal

pub returns-in_default-clause-quiet : goal.returns-in_default-clause-quiet
returns-in_default-clause-quiet g c = quiet_here g.A.App.meaning Never (is_lost c.args.lost) c.args.world.now

pub returns-in-Done-clause-quiet : goal.returns-in-Done-clause-quiet
returns-in-Done-clause-quiet g c =
    let lost = is_lost c.args.lost in
    let due = sym c.addressee.ensures ∙ ap is_some c.in-Some.is in
    (c.in_ok-attempt.ensures.quiet Never lost refl (due_kept lost (slice_get c.args.world.now.packets c.args.number) due)).quiet

pub returns-in-Refused-clause-quiet : goal.returns-in-Refused-clause-quiet
returns-in-Refused-clause-quiet g c =
    let lost = is_lost c.args.lost in
    let due = sym c.addressee.ensures ∙ ap is_some c.in-Some.is in
    (c.in_ok-attempt.ensures.quiet Never lost refl (due_kept lost (slice_get c.args.world.now.packets c.args.number) due)).quiet
