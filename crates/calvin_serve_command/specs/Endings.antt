-- How a line of `serve` ends that asks for something. The notions are of this project.
--     EndsBy fault input input_now output output_now      of how many reads of the input and writes of the output were refused: one read more at ReadFailed, one write more at WriteFailed, and none else; these are the faults that come
--     Ends order found now given out out_now error error_now failures later input input_now output output_now status      what is asked for was done, nothing is said, and no device failed; or standard error is told why not, and that device failed; and what stands under the journal's name then
use Rattle.std.specs.Prelude.{◌≡◌, ◌≢◌, ℕ, ◌+◌, List, Option, IfSome}
use Rattle.calvin_types.specs.declared.fault.Fault.{Fault}
use Rattle.calvin_types.specs.declared.fault.Fault.TheVariants.{OutOfMemory, EpochsSpent, NotAJournal, JournalInUse, JournalFailed, ReadFailed, WriteFailed}
use Rattle.calvin_edge.specs.Complaints.{complaint}
use Rattle.calvin_ending.specs.Statuses.{status_of}
use Rattle.calvin_ending.specs.Telling.{Tells}
use Rattle.calvin_journal_log.specs.Disks.{Disk}
use Rattle.calvin_serve_command.specs.declared.order.Order.{Order}
use Rattle.calvin_serve_command.specs.Services.{Does}
use Rattle.calvin_serve_command.specs.Compacting.{Leaves}

abbrev pub EndsBy : Fault → ℕ → ℕ → ℕ → ℕ → Type 0
EndsBy OutOfMemory input input_now output output_now = (input_now ≡ input) × (output_now ≡ output)
EndsBy NotAJournal input input_now output output_now = (input_now ≡ input) × (output_now ≡ output)
EndsBy JournalInUse input input_now output output_now = (input_now ≡ input) × (output_now ≡ output)
EndsBy JournalFailed input input_now output output_now = (input_now ≡ input) × (output_now ≡ output)
EndsBy EpochsSpent input input_now output output_now = (input_now ≡ input) × (output_now ≡ output)
EndsBy ReadFailed input input_now output output_now = (input_now ≡ input + 1) × (output_now ≡ output)
EndsBy WriteFailed input input_now output output_now = (input_now ≡ input) × (output_now ≡ output + 1)
EndsBy _ input input_now output output_now = ⊥

pub record Ends (order : Order) (found now : List ℕ → Option Disk) (given out out_now error error_now : Option (List ℕ)) (failures later input input_now output output_now status : ℕ) : Type 0 where
  pub done : status ≡ 0 → IfSome (found order.name.now) (λ disk. IfSome given (λ bytes. Does order disk.seen bytes out out_now))
  pub leaves : Leaves order (found order.name.now) (now order.name.now)
  pub silent : status ≡ 0 → (error_now ≡ error) × (later ≡ failures)
  pub no_failure : status ≡ 0 → (input_now ≡ input) × (output_now ≡ output)
  pub told : status ≢ 0 → (fault : Fault) × (status ≡ status_of fault) × Tells error error_now failures later (complaint fault) × EndsBy fault input input_now output output_now
