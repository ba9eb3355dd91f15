use Rattle.std.proofs.Common.{false, ◌++◌, ◌∙◌, None}
use Rattle.calvin_script.specs.Scripts.{contents}
use Rattle.calvin_report.specs.Reports.{is_lost, least_kept}
use Rattle.calvin_sim.specs.Simulations.{config_under}
use Rattle.calvin_sim.proofs.Leading.{simulation_leads}
use Rattle.calvin_sim.proofs.telling.simulate_and_tell.Goals as goal

pub returns-clause-told : goal.returns-clause-told
returns-clause-told g c =
    let script = contents c.args.script.now in
    let config = config_under c.args.schedule.now script in
    let world = c.in_ok-world.world in
    let leads = simulation_leads g.A.App.meaning c.args.schedule.now script world c.in_ok-world.ensures.ok in
    let laws = c.told_is_serial.ensures in
    let lost = is_lost c.args.schedule.now.lost in
    let chosen = laws.kept_chosen config _ _ world leads lost in
    let told = laws.kept config _ _ world leads lost chosen.0 chosen.1 g.A.Reply.Printed.printed in
    let last = laws.last (least_kept lost world) in
    record {
      batches = chosen.0;
      chosen = chosen.1;
      told = c.in_ok-text.ensures.text ∙ (λ i. told i ++ last i);
    }
