-- What a script is refused with.
use Rattle.std.proofs.Common.{Option, Result, Ok, Err, ap}
use Rattle.std.specs.Prelude.{ok_or}
use Rattle.calvin_types.specs.declared.fault.Fault.{Fault}
use Rattle.calvin_types.specs.declared.fault.Fault.TheVariants.{OutOfMemory, BadScript}
use Rattle.calvin_script.specs.Gives.{Fails, Gives}
use Rattle.calvin_script.specs.Reading.{IsFault, Reads}

refused : {Y : Type 0} (fault : Fault) (spelled : Option Y) → Fails fault spelled → IsFault fault (ok_or spelled BadScript)
refused OutOfMemory spelled h = tt
refused BadScript spelled h = ap (λ o. ok_or o BadScript) h
refused _ spelled h = absurd h

-- what JSON spells is the script that it is, or BadScript
pub script_read : {X Y : Type 0} (view : X → Y) (result : Result X Fault) (spelled : Option Y) → Gives view result spelled → Reads view result (ok_or spelled BadScript)
script_read view (Ok x) spelled h = ap (λ o. ok_or o BadScript) h
script_read view (Err fault) spelled h = refused fault spelled h
