use Rattle.std.proofs.Common.{◌-◌}
use Rattle.calvin_report.specs.Reports.{is_lost}
use Rattle.calvin_world.specs.Worlds.{WorldState}
use Rattle.calvin_sim_events.specs.declared.schedule.Restarts.TheVariants.{Never}
use Rattle.calvin_sim_events.specs.Passes.{Redelivers}
use Rattle.calvin_sim_events.specs.Quiet.{LeadsQuietly}
use Rattle.calvin_sim_events.proofs.working.Crew.deliver_again.Given as goal

-- what the packets that are left lead to, all lead to
abbrev pub invariant-loop-done : goal.invariant-loop-done
invariant-loop-done g l =
    LeadsQuietly g.A.App.meaning Never (is_lost l.schedule.lost) l.fn.world l.world
    × ((v : WorldState g.row.A-Args.Denot g.row.A-Row.Denot g.row.A-Reply.Denot) → Redelivers g.A.App.meaning (is_lost l.schedule.lost) (l.packets - l.done) l.world v → Redelivers g.A.App.meaning (is_lost l.schedule.lost) l.packets l.fn.world v)
