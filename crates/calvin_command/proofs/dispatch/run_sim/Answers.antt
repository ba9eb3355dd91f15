use Rattle.std.proofs.Common.{ap, arith, Err}
use Rattle.calvin_command.proofs.Endings.{ended_by, some_also}
use Rattle.calvin_command.proofs.dispatch.run_sim.Goals as goal

pub returns-in-Err-clause-sim : goal.returns-in-Err-clause-sim
returns-in-Err-clause-sim g c =
    ended_by g.S.Source g.K.Sink g.E.Sink _ _ _ _ _ _ _ _ _ c.in-Err.fault c.end_with.ensures.status c.in-Err.ensures.refused c.end_with.ensures.told
    (λ other. c.in-Err.ensures.devices.wrote_well (λ e. other (cc)))
    (λ failed. some_also (g.S.Source.left c.args.input.now) (λ bytes told. (told.1, (told.0, told.2), told.3, told.4, told.5))
    (c.in-Err.ensures.beginning (ap Err failed)))

pub returns-in-Ok-clause-sim : goal.returns-in-Ok-clause-sim
returns-in-Ok-clause-sim g c =
    let left = g.S.Source.left c.args.input.now in
    record {
      written = λ zero. some_also left (λ bytes told. (told.0, (c.in-Ok.world, told.1), told.2)) c.in-Ok.ensures.ok;
      refused = λ two. absurd (omega (arith, two));
      told_refusal = λ two. absurd (omega (arith, two));
      beginning = λ failed. absurd (omega (arith, failed, c.in-Ok.ensures.devices.wrote_well (λ e. cc)));
    }
