-- No fault is told by the status of what went well.
use Rattle.std.proofs.Common.{◌≡◌, arith}
use Rattle.calvin_types.specs.declared.fault.Fault.{Fault}
use Rattle.calvin_types.specs.declared.fault.Fault.TheVariants.{OutOfMemory, JournalInUse, ReadFailed, WriteFailed, JournalFailed, NotExpected, Closed, NoRun, NotEnded}
use Rattle.calvin_ending.specs.Statuses.{status_of}

pub never_well : (fault : Fault) → status_of fault ≡ 0 → ⊥
never_well OutOfMemory e = omega (arith, e)
never_well NotExpected e = omega (arith, e)
never_well Closed e = omega (arith, e)
never_well NoRun e = omega (arith, e)
never_well NotEnded e = omega (arith, e)
never_well JournalInUse e = omega (arith, e)
never_well ReadFailed e = omega (arith, e)
never_well WriteFailed e = omega (arith, e)
never_well JournalFailed e = omega (arith, e)
never_well _ e = omega (arith, e)
