-- The disk that a log in memory stands for. The notion is of this project.
--     disk_of log      the synced bytes, those up to its size, and all that it has
use Rattle.std.specs.Prelude.{take}
use Rattle.calvin_journal_log.specs.declared.memory.MemoryLog.{MemoryLog}
use Rattle.calvin_journal_log.specs.Disks.{Disk}

abbrev pub disk_of : MemoryLog → Disk
disk_of log = record { kept = take log.synced log.bytes.items; seen = take log.size log.bytes.items; most = log.bytes.items }
