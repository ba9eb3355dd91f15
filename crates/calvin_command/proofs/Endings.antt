-- How the program ends for a fault.
use Rattle.std.proofs.Common.{◌≡◌, ◌≢◌, ◌⊎◌, ◌+◌, ◌<◌, ◌∙◌, ℕ, Bool, true, List, length, take, inl, inr, refl, sym, ap, subst, arith, Option, Some, None, Result, Ok, Err, IfSome}
use Rattle.std.specs.Prelude.{IsErr}
use Rattle.std.specs.Io.KnownBytes.{Appends}
use Rattle.calvin_types.specs.declared.fault.Fault.{Fault}
use Rattle.calvin_types.specs.declared.fault.Fault.TheVariants.{OutOfMemory, BadJson, BadScript, ScriptTooLong, ReadFailed, WriteFailed, NotExpected, Closed, NoRun, NotEnded}
use Rattle.calvin_edge.specs.declared.source.Source as source
use Rattle.calvin_edge.specs.declared.sink.Sink as sink
use Rattle.calvin_edge.specs.Answering.{HasAnswer, HasText, Refuses}
use Rattle.calvin_edge.specs.Complaints.{complaint}
use Rattle.calvin_serial.specs.Engine.{IsSerialFault}
use Rattle.calvin_check.specs.Checks.{IsCheckFault}
use Rattle.calvin_sim.specs.Engine.{sim_script, IsSimFault}
use Rattle.calvin_run.specs.Engine.{IsRunFault, RefusesRun}
use Rattle.calvin_command.specs.Ends.{Runs, StopsEarly}
use Rattle.calvin_ending.specs.Telling.{Tells}
use Rattle.calvin_ending.proofs.NeverWell.{never_well}
use Rattle.calvin_ending.specs.Statuses.{status_of, IsStatus}

-- a fault of the engine `serial` ends with one of the statuses
pub serial_status : (fault : Fault) → IsSerialFault fault → IsStatus (status_of fault)
serial_status OutOfMemory h = inr (inr (inr (inl refl)))
serial_status BadJson h = inr (inl refl)
serial_status BadScript h = inr (inl refl)
serial_status ScriptTooLong h = inr (inl refl)
serial_status ReadFailed h = inr (inr (inr (inr refl)))
serial_status WriteFailed h = inr (inr (inr (inr refl)))
serial_status _ h = absurd h

-- and so does one of the engine `check`
pub check_status : (fault : Fault) → IsCheckFault fault → IsStatus (status_of fault)
check_status OutOfMemory h = inr (inr (inr (inl refl)))
check_status BadJson h = inr (inl refl)
check_status BadScript h = inr (inl refl)
check_status ScriptTooLong h = inr (inl refl)
check_status NotExpected h = inr (inr (inl refl))
check_status ReadFailed h = inr (inr (inr (inr refl)))
check_status WriteFailed h = inr (inr (inr (inr refl)))
check_status _ h = absurd h

-- and one of the engine `sim`
pub sim_status : (fault : Fault) → IsSimFault fault → IsStatus (status_of fault)
sim_status OutOfMemory h = inr (inr (inr (inl refl)))
sim_status BadJson h = inr (inl refl)
sim_status BadScript h = inr (inl refl)
sim_status ScriptTooLong h = inr (inl refl)
sim_status ReadFailed h = inr (inr (inr (inr refl)))
sim_status WriteFailed h = inr (inr (inr (inr refl)))
sim_status _ h = absurd h

-- and one of the engine `run`
pub run_status : (wide : Bool) (fault : Fault) → IsRunFault wide fault → IsStatus (status_of fault)
run_status wide Closed h = inr (inr (inl refl))
run_status wide NotEnded h = inr (inr (inl refl))
run_status wide NoRun h = inr (inr (inl refl))
run_status wide fault h = sim_status fault h

-- ---- a run that ended by a fault

is_refusal : {X : Type 0} (fault : Fault) (answer : Result X Fault) → status_of fault ≡ 2 → Refuses fault answer → answer ≡ Err fault
is_refusal OutOfMemory answer e refuses = absurd (omega (arith, e))
is_refusal BadJson answer e refuses = refuses
is_refusal BadScript answer e refuses = refuses
is_refusal ScriptTooLong answer e refuses = refuses
is_refusal ReadFailed answer e refuses = absurd (omega (arith, e))
is_refusal WriteFailed answer e refuses = absurd (omega (arith, e))
is_refusal _ answer e refuses = absurd refuses

is_run_refusal : (wide : Bool) (fault : Fault) (answer : Result (Unit {0}) Fault) → status_of fault ≡ 2 → RefusesRun wide fault answer → answer ≡ Err fault
is_run_refusal wide Closed answer e refuses = absurd (omega (arith, e))
is_run_refusal wide NotEnded answer e refuses = absurd (omega (arith, e))
is_run_refusal wide NoRun answer e refuses = absurd (omega (arith, e))
is_run_refusal wide fault answer e refuses = is_refusal fault answer e refuses

-- only a failed write makes the output's failures more
is_failed_write : (fault : Fault) (failures later : ℕ) → (fault ≢ WriteFailed → later ≡ failures) → later ≡ failures + 1 → fault ≡ WriteFailed
is_failed_write WriteFailed failures later well more = refl
is_failed_write _ failures later well more = let same = well (λ e. cc) in absurd (omega (arith, same, more))

-- ---- a cluster that closed early, is still shared, or has histories that no list gives

abbrev EndsEarly : Bool → Fault → Type 0
EndsEarly wide fault = (fault ≡ Closed) ⊎ (fault ≡ NotEnded) ⊎ ((wide ≡ true) × (fault ≡ NoRun))

ends_early : (wide : Bool) (fault : Fault) → IsRunFault wide fault → status_of fault ≡ 3 → EndsEarly wide fault
ends_early wide Closed run e = inl refl
ends_early wide NotEnded run e = inr (inl refl)
ends_early wide NoRun run e = inr (inr (run, refl))
ends_early wide NotExpected run e = absurd run
ends_early wide OutOfMemory run e = absurd (omega (arith, e))
ends_early wide ReadFailed run e = absurd (omega (arith, e))
ends_early wide WriteFailed run e = absurd (omega (arith, e))
ends_early wide _ run e = absurd (omega (arith, e))

fits_early : (wide : Bool) (fault : Fault) → EndsEarly wide fault → (answer : Result (Unit {0}) Fault) → RefusesRun wide fault answer → HasAnswer answer (λ _. Unit {0})
fits_early wide fault (inl is) answer refuses = subst (λ f. RefusesRun wide f answer) is refuses
fits_early wide fault (inr (inl is)) answer refuses = subst (λ f. RefusesRun wide f answer) is refuses
fits_early wide fault (inr (inr is)) answer refuses = (subst (λ f. RefusesRun wide f answer) is.1 refuses).1

told_early : (wide : Bool) (fault : Fault) → EndsEarly wide fault → (P : Fault → Type 0) → P fault → P Closed ⊎ P NotEnded ⊎ ((wide ≡ true) × P NoRun)
told_early wide fault (inl is) P told = inl (subst P is told)
told_early wide fault (inr (inl is)) P told = inr (inl (subst P is told))
told_early wide fault (inr (inr is)) P told = inr (inr (is.0, subst P is.1 told))

-- ---- what comes of it

pub some_also : {X : Type 0} {P Q : X → Type 0} (o : Option X) → ((x : X) → P x → Q x) → IfSome o P → IfSome o Q
some_also None also h = tt
some_also (Some x) also h = also x h

module _ {S K E : Type 0} (from : source.Ghosts S) (to : sink.Ghosts K) (telling : sink.Ghosts E) (input input_after : S) (output output_after : K)
    (error error_after : E) (status : ℕ) where
  -- where the status is 2, the fault is the input's
  ended_for : {X : Type 0} (read : List ℕ → Result X Fault) (IsText : List ℕ → List ℕ → Type 0) (fault : Fault) → status ≡ status_of fault
      → (status_of fault ≡ 2 → IfSome (from.left input) (λ bytes. read bytes ≡ Err fault))
      → Tells (telling.taken error) (telling.taken error_after) (telling.failures error) (telling.failures error_after) (complaint fault)
      → (fault ≢ WriteFailed → to.failures output_after ≡ to.failures output)
      → (fault ≡ WriteFailed → IfSome (from.left input) (λ bytes. (text : List ℕ) × IsText bytes text
      × (n : ℕ) × (n < length text) × Appends (to.taken output) (to.taken output_after) (take n text)))
      → Runs from to telling input input_after output output_after error error_after status read IsText
  ended_for read IsText fault is refused told wrote_well beginning = record {
    written = λ zero. absurd (never_well fault (sym is ∙ zero));
    refused = λ two. some_also (from.left input) (λ bytes refuses. subst IsErr (sym refuses) refl) (refused (sym is ∙ two));
    told_refusal = λ two. (fault, sym is ∙ two, refused (sym is ∙ two), told);
    beginning = λ failed. beginning (is_failed_write fault _ _ wrote_well failed);
  }

  pub ended_by : {X : Type 0} (read : List ℕ → Result X Fault) (IsText : List ℕ → List ℕ → Type 0) (fault : Fault) → status ≡ status_of fault
      → IfSome (from.left input) (λ bytes. Refuses fault (read bytes))
      → Tells (telling.taken error) (telling.taken error_after) (telling.failures error) (telling.failures error_after) (complaint fault)
      → (fault ≢ WriteFailed → to.failures output_after ≡ to.failures output)
      → (fault ≡ WriteFailed → IfSome (from.left input) (λ bytes. (text : List ℕ) × IsText bytes text
      × (n : ℕ) × (n < length text) × Appends (to.taken output) (to.taken output_after) (take n text)))
      → Runs from to telling input input_after output output_after error error_after status read IsText
  ended_by read IsText fault is refused =
      ended_for read IsText fault is (λ two. some_also (from.left input) (λ bytes refuses. is_refusal fault (read bytes) two refuses) refused)

  pub run_ended_by : (wide : Bool) (IsText : List ℕ → List ℕ → Type 0) (fault : Fault) → status ≡ status_of fault
      → IfSome (from.left input) (λ bytes. RefusesRun wide fault (sim_script bytes))
      → Tells (telling.taken error) (telling.taken error_after) (telling.failures error) (telling.failures error_after) (complaint fault)
      → (fault ≢ WriteFailed → to.failures output_after ≡ to.failures output)
      → (fault ≡ WriteFailed → IfSome (from.left input) (λ bytes. (text : List ℕ) × IsText bytes text
      × (n : ℕ) × (n < length text) × Appends (to.taken output) (to.taken output_after) (take n text)))
      → Runs from to telling input input_after output output_after error error_after status sim_script IsText
  run_ended_by wide IsText fault is refused =
      ended_for sim_script IsText fault is (λ two. some_also (from.left input) (λ bytes refuses. is_run_refusal wide fault (sim_script bytes) two refuses) refused)

  -- where the status is 3, a cluster closed early, is still shared, or has histories that no list gives
  pub stopped_by : (wide : Bool) (fault : Fault) → status ≡ status_of fault → IsRunFault wide fault
      → IfSome (from.left input) (λ bytes. RefusesRun wide fault (sim_script bytes))
      → Tells (telling.taken error) (telling.taken error_after) (telling.failures error) (telling.failures error_after) (complaint fault)
      → (fault ≢ WriteFailed → output_after ≡ output)
      → StopsEarly from to telling input input_after output output_after error error_after status wide
  stopped_by wide fault is run refused told untouched = record {
    fits = λ three. some_also (from.left input) (λ bytes refuses. fits_early wide fault (ends_early wide fault run (sym is ∙ three)) (sim_script bytes) refuses) refused;
    unwritten = λ three. untouched (λ failed. omega (arith, sym is ∙ three, ap status_of failed));
    told_end = λ three. told_early wide fault (ends_early wide fault run (sym is ∙ three))
        (λ f. Tells (telling.taken error) (telling.taken error_after) (telling.failures error) (telling.failures error_after) (complaint f)) told;
  }

-- there is such a text
pub has_text : (answer : Result (List ℕ) Fault) (P : List ℕ → Type 0) → HasText answer P → (text : List ℕ) × (answer ≡ Ok text) × P text
has_text (Ok text) P h = (text, refl, h)
has_text (Err fault) P h = absurd h
