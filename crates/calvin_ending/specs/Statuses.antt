-- How a command ends. The statuses are of this project.
--     status_of fault      the exit status of a fault: 2 where the script is refused, 3 where a run didn't end as it was to, 4 for want of memory, 5 where a device failed
--     IsStatus status      it is one of 0, 2, 3, 4 and 5
use Rattle.std.specs.Prelude.{◌≡◌, ℕ, ◌⊎◌}
use Rattle.calvin_types.specs.declared.fault.Fault.{Fault}
use Rattle.calvin_types.specs.declared.fault.Fault.TheVariants.{OutOfMemory, Closed, NoRun, NotEnded, JournalInUse, ReadFailed, WriteFailed, JournalFailed, NotExpected}

abbrev pub status_of : Fault → ℕ
status_of OutOfMemory = 4
status_of NotExpected = 3
status_of Closed = 3
status_of NoRun = 3
status_of NotEnded = 3
status_of JournalInUse = 5
status_of ReadFailed = 5
status_of WriteFailed = 5
status_of JournalFailed = 5
status_of _ = 2

abbrev pub IsStatus : ℕ → Type 0
IsStatus status = (status ≡ 0) ⊎ (status ≡ 2) ⊎ (status ≡ 3) ⊎ (status ≡ 4) ⊎ (status ≡ 5)
