-- Which device a service ends by. The notion is of this project.
--     IsBlamed fault log log_now sink sink_now      of how many calls of a log and of a sink were refused: one more of the log's at JournalFailed, one more of the sink's at WriteFailed, and none else; no other fault comes but want of memory, spent epochs and ReadFailed
use Rattle.std.specs.Prelude.{◌≡◌, ℕ, ◌+◌}
use Rattle.calvin_types.specs.declared.fault.Fault.{Fault}
use Rattle.calvin_types.specs.declared.fault.Fault.TheVariants.{OutOfMemory, EpochsSpent, JournalFailed, ReadFailed, WriteFailed}

abbrev pub IsBlamed : Fault → ℕ → ℕ → ℕ → ℕ → Type 0
IsBlamed OutOfMemory log log_now sink sink_now = (log_now ≡ log) × (sink_now ≡ sink)
IsBlamed EpochsSpent log log_now sink sink_now = (log_now ≡ log) × (sink_now ≡ sink)
IsBlamed ReadFailed log log_now sink sink_now = (log_now ≡ log) × (sink_now ≡ sink)
IsBlamed JournalFailed log log_now sink sink_now = (log_now ≡ log + 1) × (sink_now ≡ sink)
IsBlamed WriteFailed log log_now sink sink_now = (log_now ≡ log) × (sink_now ≡ sink + 1)
IsBlamed _ log log_now sink sink_now = ⊥
