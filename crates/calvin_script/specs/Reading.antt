-- The script that bytes are, or why they are none. The form of scripts is of this project.
--     json bytes      the JSON that bytes are, or BadJson
--     script_from grammar bytes      the script that bytes are, or BadJson, or BadScript
--     Reads view result read      what is returned is what is read, unless memory runs out
use Rattle.std.specs.Prelude.{◌≡◌, ℕ, List, if◌then◌else◌, Result, Ok, Err, ok_or}
use Rattle.std.specs.Str.{is_utf8}
use Rattle.serde_json.specs.Data.{Data}
use Rattle.serde_json.specs.Read.{read}
use Rattle.calvin_types.specs.declared.fault.Fault.{Fault}
use Rattle.calvin_types.specs.declared.fault.Fault.TheVariants.{OutOfMemory, BadJson, BadScript}
use Rattle.calvin_script.specs.Grammar.{Grammar}
use Rattle.calvin_script.specs.Scripts.{Contents, script}

-- the JSON that bytes are: text that has a reading
unfoldable pub json : List ℕ → Result Data Fault
json bytes = if is_utf8 bytes then ok_or (read bytes) BadJson else Err BadJson

abbrev pub and_then : {A B : Type 0} → Result A Fault → (A → Result B Fault) → Result B Fault
and_then (Ok x) f = f x
and_then (Err fault) f = Err fault

unfoldable pub script_from : {Args : Type 0} → Grammar Args → List ℕ → Result (Contents Args) Fault
script_from grammar bytes = and_then (json bytes) (λ d. ok_or (script grammar d) BadScript)

-- a fault is the one that is stated, but for want of memory; no other comes
abbrev pub IsFault : {Y : Type 0} → Fault → Result Y Fault → Type 0
IsFault OutOfMemory read = Unit {0}
IsFault BadJson read = read ≡ Err BadJson
IsFault BadScript read = read ≡ Err BadScript
IsFault _ read = ⊥

-- what is returned, seen by view, is what is read
abbrev pub Reads : {X Y : Type 0} → (X → Y) → Result X Fault → Result Y Fault → Type 0
Reads view (Ok x) read = read ≡ Ok (view x)
Reads view (Err fault) read = IsFault fault read
