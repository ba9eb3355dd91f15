use Rattle.calvin_script.specs.Scripts.{contents}
use Rattle.calvin_sim.proofs.Runs.{is_run}
use Rattle.calvin_sim.proofs.engine.run_script.Goals as goal

pub returns-clause-run : goal.returns-clause-run
returns-clause-run g c =
    is_run g.A.App.meaning g.A.Args.Operation.grammar g.A.Reply.Printed.printed c.args.schedule.now (λ r. r.0) (λ r. r.1.items) (contents c.args.script.now)
    c.simulate_and_tell.result c.simulate_and_tell.ensures.simulated c.simulate_and_tell.ensures.told
