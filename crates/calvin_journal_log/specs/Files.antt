-- Which faults the opening of a file has. The notion is of this project.
--     IsFileFault fault      want of memory, a file that is no journal or in use, or a refusal of the system
use Rattle.calvin_types.specs.declared.fault.Fault.{Fault}
use Rattle.calvin_types.specs.declared.fault.Fault.TheVariants.{OutOfMemory, NotAJournal, JournalInUse, JournalFailed}

abbrev pub IsFileFault : Fault → Type 0
IsFileFault OutOfMemory = Unit {0}
IsFileFault NotAJournal = Unit {0}
IsFileFault JournalInUse = Unit {0}
IsFileFault JournalFailed = Unit {0}
IsFileFault _ = ⊥
