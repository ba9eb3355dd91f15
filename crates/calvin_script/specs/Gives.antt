-- What reading gives, unless memory runs out. The notion is of this project.
--     Fails fault spelled      the fault says why nothing is given: memory ran out, or nothing is spelled and it is BadScript
--     Gives view result spelled      what is returned, seen by view, is what is spelled; it is refused only where nothing is
use Rattle.std.specs.Prelude.{◌≡◌, Option, Some, None, Result, Ok, Err}
use Rattle.calvin_types.specs.declared.fault.Fault.{Fault}
use Rattle.calvin_types.specs.declared.fault.Fault.TheVariants.{OutOfMemory, BadScript}

abbrev pub Fails : {Y : Type 0} → Fault → Option Y → Type 0
Fails OutOfMemory spelled = Unit {0}
Fails BadScript spelled = spelled ≡ None
Fails _ spelled = ⊥

abbrev pub Gives : {X Y : Type 0} → (X → Y) → Result X Fault → Option Y → Type 0
Gives view (Ok x) spelled = spelled ≡ Some (view x)
Gives view (Err fault) spelled = Fails fault spelled
