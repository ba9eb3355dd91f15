use Rattle.std.proofs.Common.{ap, Err}
use Rattle.calvin_serial.specs.Engine.{serial_text}
use Rattle.calvin_command.proofs.Endings.{ended_by, has_text, some_also}
use Rattle.calvin_command.proofs.dispatch.run_serial.Goals as goal

pub returns-in-Err-clause-serial : goal.returns-in-Err-clause-serial
returns-in-Err-clause-serial g c =
    ended_by g.S.Source g.K.Sink g.E.Sink _ _ _ _ _ _ _ _ _ c.in-Err.fault c.end_with.ensures.status c.in-Err.ensures.refused c.end_with.ensures.told
    (λ other. c.in-Err.ensures.devices.wrote_well (λ e. other (cc)))
    (λ failed. some_also (g.S.Source.left c.args.input.now) (λ bytes beginning.
    let told = has_text (serial_text c.args.sets bytes) _ beginning in (told.0, told.1, told.2.0, told.2.1, told.2.2))
    (c.in-Err.ensures.beginning (ap Err failed)))
