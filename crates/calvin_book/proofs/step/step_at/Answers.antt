-- The request has the number of its step.
use Rattle.calvin_book.proofs.Kept.{submits, submits_cold}
use Rattle.calvin_book.proofs.step.step_at.Goals as goal

pub returns-in-Submit : goal.returns-in-Submit
returns-in-Submit g c = λ txns has. submits txns c.args.number c.args.id c.args.act.now c.in-Submit.field-0 c.in-Submit.is has

pub returns-in-SubmitCold : goal.returns-in-SubmitCold
returns-in-SubmitCold g c = λ txns has. submits_cold txns c.args.number c.args.id c.args.act.now c.in-SubmitCold.field-0 c.in-SubmitCold.is has
