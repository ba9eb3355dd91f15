-- What an engine answers: a text, or why there is none. The notion is of this project.
--     HasAnswer answer P      there is an answer, and it is so
--     HasText answer P      there is a text, and it is so
--     HasBeginning answer old new      a proper beginning of the text went out
--     Refuses fault answer      why there is no answer, where the script is at fault
use Rattle.std.specs.Prelude.{◌≡◌, ℕ, ◌<◌, List, length, take, Option, Result, Ok, Err}
use Rattle.std.specs.Io.KnownBytes.{Appends}
use Rattle.calvin_types.specs.declared.fault.Fault.{Fault}
use Rattle.calvin_types.specs.declared.fault.Fault.TheVariants.{OutOfMemory, BadJson, BadScript, ScriptTooLong, ReadFailed, WriteFailed}

abbrev pub HasAnswer : {X : Type 0} → Result X Fault → (X → Type 0) → Type 0
HasAnswer (Ok answer) P = P answer
HasAnswer (Err fault) P = ⊥

abbrev pub HasText : Result (List ℕ) Fault → (List ℕ → Type 0) → Type 0
HasText answer P = HasAnswer answer P

abbrev pub HasBeginning : Result (List ℕ) Fault → Option (List ℕ) → Option (List ℕ) → Type 0
HasBeginning answer old new = HasText answer (λ text. (n : ℕ) × (n < length text) × Appends old new (take n text))

abbrev pub Refuses : {X : Type 0} → Fault → Result X Fault → Type 0
Refuses OutOfMemory answer = Unit {0}
Refuses BadJson answer = answer ≡ Err BadJson
Refuses BadScript answer = answer ≡ Err BadScript
Refuses ScriptTooLong answer = answer ≡ Err ScriptTooLong
Refuses ReadFailed answer = Unit {0}
Refuses WriteFailed answer = HasAnswer answer (λ _. Unit {0})
Refuses fault answer = ⊥
