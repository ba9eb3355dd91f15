-- What a command leaves its devices with. The notion is of this project.
--     LeavesDevices from to telling .. status      what holds of every line: which device failed, what stays as it was, and what is told
--     Runs from to telling .. status read IsText      what holds of a subcommand that refuses its input or writes such a text for it
--     RunsEngine from to telling .. status text      what holds of one that writes the text that its input determines
--     RunsSim from to telling .. status schedule      what holds of one that writes the text of a world to which its input leads under a schedule
--     RunsCluster from to telling .. status replicas wide      what holds of one that writes the text of a book of so many replicas that a cluster left, or that its nodes' histories were assembled to, which began with what its input says
--     StopsEarly from to telling .. status wide      what holds of one whose cluster may close early, or be shared still, or leave histories that no list gives
--     Expects from to telling .. status text IsExpected      what holds of one whose input says which answers it expects
use Rattle.std.specs.Prelude.{◌≡◌, ◌≢◌, Bool, true, false, ℕ, ◌+◌, ◌<◌, List, length, take, Option, Result, Ok, Err, IfSome, IsErr, ◌⊎◌}
use Rattle.std.specs.Io.KnownBytes.{Appends}
use Rattle.calvin_types.specs.declared.fault.Fault.{Fault}
use Rattle.calvin_types.specs.declared.fault.Fault.TheVariants.{OutOfMemory, Closed, NoRun, NotEnded, ReadFailed, WriteFailed, NotExpected}
use Rattle.calvin_edge.specs.declared.source.Source as source
use Rattle.calvin_edge.specs.declared.sink.Sink as sink
use Rattle.calvin_edge.specs.Answering.{HasAnswer, HasText}
use Rattle.calvin_edge.specs.Complaints.{complaint}
use Rattle.calvin_sim_events.specs.declared.schedule.Schedule.{Schedule}
use Rattle.calvin_sim.specs.declared.engine.Simulated.{Simulated}
use Rattle.calvin_sim.specs.Engine.{sim_script, IsSimText}
use Rattle.calvin_run.specs.declared.engine.Ran.{Ran}
use Rattle.calvin_run.specs.Engine.{IsRunText}
use Rattle.calvin_ending.specs.Statuses.{status_of}
use Rattle.calvin_ending.specs.Telling.{Tells}

-- what is known of an input, of an output and of a standard error, and each before and after
module _ {S K E : Type 0} (from : source.Ghosts S) (to : sink.Ghosts K) (telling : sink.Ghosts E) (input input_after : S) (output output_after : K) (error error_after : E) (status : ℕ) where
  -- the input failed once more, or the output did
  abbrev pub ReadingFailed : Type 0
  ReadingFailed = from.failures input_after ≡ from.failures input + 1

  abbrev pub WritingFailed : Type 0
  WritingFailed = to.failures output_after ≡ to.failures output + 1

  -- standard error was told a line
  abbrev pub IsTold : List ℕ → Type 0
  IsTold line = Tells (telling.taken error) (telling.taken error_after) (telling.failures error) (telling.failures error_after) line

  pub record LeavesDevices : Type 0 where
    -- where all went well, nothing is said
    pub silent : status ≡ 0 → error_after ≡ error
    -- 5 says that the input or the output failed, one of them and once, and no other status does
    pub failed : status ≡ 5 → ReadingFailed ⊎ WritingFailed
    pub read_well : status ≢ 5 → from.failures input_after ≡ from.failures input
    pub wrote_well : status ≢ 5 → to.failures output_after ≡ to.failures output
    pub one_device : WritingFailed → from.failures input_after ≡ from.failures input
    -- nothing is written where the line or the script is refused, where memory runs out and where reading fails
    pub untouched : (status ≡ 2) ⊎ (status ≡ 4) → output_after ≡ output
    pub unread : ReadingFailed → output_after ≡ output
    -- standard error is told why
    pub told_memory : status ≡ 4 → IsTold (complaint OutOfMemory)
    pub told_reading : ReadingFailed → IsTold (complaint ReadFailed)
    pub told_writing : WritingFailed → IsTold (complaint WriteFailed)

  pub record Runs {X : Type 0} (read : List ℕ → Result X Fault) (IsText : List ℕ → List ℕ → Type 0) : Type 0 where
    -- where it ended well, such a text is out
    pub written : status ≡ 0 → IfSome (from.left input) (λ bytes. (text : List ℕ) × IsText bytes text × Appends (to.taken output) (to.taken output_after) text)
    -- it ends with 2 only where the input is refused, and tells this refusal
    pub refused : status ≡ 2 → IfSome (from.left input) (λ bytes. IsErr (read bytes))
    pub told_refusal : status ≡ 2 → (fault : Fault) × (status_of fault ≡ 2) × (IfSome (from.left input) (λ bytes. read bytes ≡ Err fault)) × IsTold (complaint fault)
    -- where writing the text failed, a proper beginning of one is out
    pub beginning : WritingFailed → IfSome (from.left input) (λ bytes. (text : List ℕ) × IsText bytes text
        × (n : ℕ) × (n < length text) × Appends (to.taken output) (to.taken output_after) (take n text))

  abbrev pub RunsEngine : (List ℕ → Result (List ℕ) Fault) → Type 0
  RunsEngine text = Runs text (λ bytes answer. text bytes ≡ Ok answer)

  abbrev pub RunsSim : Schedule → Type 0
  RunsSim schedule = Runs sim_script (λ bytes text. (world : Simulated) × IsSimText schedule bytes world text)

  abbrev pub RunsCluster : ℕ → Bool → Type 0
  RunsCluster replicas wide = Runs sim_script (λ bytes text. (book : Ran) × IsRunText replicas wide bytes book text)

  -- what holds of a subcommand whose cluster may close early, or have, where it is wide, histories that no list gives
  pub record StopsEarly (wide : Bool) : Type 0 where
    -- 3 comes only of a script that isn't refused, nothing is written then, and standard error is told which of these it was
    pub fits : status ≡ 3 → IfSome (from.left input) (λ bytes. HasAnswer (sim_script bytes) (λ _. Unit {0}))
    pub unwritten : status ≡ 3 → output_after ≡ output
    pub told_end : status ≡ 3 → IsTold (complaint Closed) ⊎ IsTold (complaint NotEnded) ⊎ ((wide ≡ true) × IsTold (complaint NoRun))

  -- what holds of a subcommand whose input says which answers it expects
  pub record Expects (text : List ℕ → Result (List ℕ) Fault) (IsExpected : Bool → List ℕ → Type 0) : Type 0 where
    -- where it ended well, the answers are the expected ones
    pub expected : status ≡ 0 → IfSome (from.left input) (IsExpected true)
    -- where they aren't, the text is out all the same, and standard error is told
    pub unexpected : status ≡ 3 → IfSome (from.left input) (λ bytes. IsExpected false bytes × HasText (text bytes) (λ answer. Appends (to.taken output) (to.taken output_after) answer))
    pub told_unexpected : status ≡ 3 → IsTold (complaint NotExpected)
