-- What a source has given, and what an engine leaves its devices with. The notions are of this project.
--     ConsumesSome old new n      a source that had the bytes `old` left has given n of them
--     LeavesAsTold from to input input_after output output_after fault      how far an engine read, and which device failed, by the fault that it told, if it told one
use Rattle.std.specs.Prelude.{◌≡◌, ◌≢◌, ℕ, ◌+◌, ◌≤◌, List, length, Option, Some, None}
use Rattle.std.specs.Io.KnownBytes.{Consumes, IsAtEnd}
use Rattle.calvin_types.specs.declared.fault.Fault.{Fault}
use Rattle.calvin_types.specs.declared.fault.Fault.TheVariants.{ScriptTooLong, ReadFailed, WriteFailed}
use Rattle.calvin_edge.specs.declared.source.Source as source
use Rattle.calvin_edge.specs.declared.sink.Sink as sink
use Rattle.calvin_edge.specs.declared.reading.TheConstants.{MOST_BYTES}

-- the next n bytes were given, whichever they are
abbrev pub ConsumesSome : Option (List ℕ) → Option (List ℕ) → ℕ → Type 0
ConsumesSome old new n = (bytes : List ℕ) × (length bytes ≡ n) × Consumes old new bytes

-- what is known of an input and of an output, and each before and after
pub record LeavesAsTold {S K : Type 0} (from : source.Ghosts S) (to : sink.Ghosts K) (input input_after : S) (output output_after : K) (fault : Option Fault) : Type 0 where
  -- all is read, or the first byte too many and none past it
  pub all_read : fault ≡ None → IsAtEnd (from.left input_after)
  pub too_long : fault ≡ Some ScriptTooLong → ConsumesSome (from.left input) (from.left input_after) (MOST_BYTES + 1)
  pub no_more : (n : ℕ) × (n ≤ MOST_BYTES + 1) × ConsumesSome (from.left input) (from.left input_after) n
  -- the device failed, once, of which it is told
  pub read_failed : fault ≡ Some ReadFailed → from.failures input_after ≡ from.failures input + 1
  pub read_well : fault ≢ Some ReadFailed → from.failures input_after ≡ from.failures input
  pub write_failed : fault ≡ Some WriteFailed → to.failures output_after ≡ to.failures output + 1
  pub wrote_well : fault ≢ Some WriteFailed → to.failures output_after ≡ to.failures output
