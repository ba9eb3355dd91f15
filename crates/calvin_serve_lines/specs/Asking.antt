-- What a line of input asks. The form is of this project.
--     Asked Args      a request, and the group that it is for
--     without name d      the object without its member of this name
--     group_of partitions client given      the group that is given, one of the partitions; left out, the one that the client's number picks
--     spelled grammar d      the request that JSON of at most 16 levels spells
--     asked_in grammar partitions d      the request that is spelled without the member `group`, and its group
--     if_taken asked      it, or why no sequencer takes it: it has no key, or its attempt is none
--     request_line grammar partitions line      what the line asks, or BadJson, BadScript, EmptySets or TooManyAttempts
--     ReadsLine result read      what is returned is what is read, unless memory runs out
use Rattle.std.specs.Prelude.{◌≡◌, ℕ, ◌%◌, List, length, nat_le, if◌then◌else◌, Option, Some, Result, Ok, Err, ok_or, codes, bytes_eq}
use Rattle.serde_json.specs.Data.{Data, null, boolean, number, string, array, object, Members, no_members, member, depth}
use Rattle.serde_json.specs.Find.{get}
use Rattle.calvin_types.specs.declared.fault.Fault.{Fault}
use Rattle.calvin_types.specs.declared.fault.Fault.TheVariants.{OutOfMemory, BadJson, BadScript, EmptySets, TooManyAttempts}
use Rattle.calvin_types.specs.Submitting.{has_key, is_attempt}
use Rattle.calvin_script.specs.declared.contents.Request.{Request}
use Rattle.calvin_script.specs.Spelling.{◌>>=◌, only_if, below, optional}
use Rattle.calvin_script.specs.Grammar.{Grammar}
use Rattle.calvin_script.specs.Requests.{request}
use Rattle.calvin_script.specs.Reading.{json, and_then}
use Rattle.calvin_serve_lines.specs.declared.limits.TheConstants.{MOST_LINE_BYTES, MOST_LEVELS}

pub record Asked (Args : Type 0) : Type 0 where
  pub group : ℕ
  pub request : Request Args

abbrev pub without_member : List ℕ → Members → Members
without_member name no_members = no_members
without_member name (member k d ms) = if bytes_eq name k then ms else member k d (without_member name ms)

-- an object has each name once
abbrev pub without : List ℕ → Data → Data
without name null = null
without name (boolean b) = boolean b
without name (number n) = number n
without name (string s) = string s
without name (array ds) = array ds
without name (object ms) = object (without_member name ms)

abbrev pub group_of : ℕ → ℕ → Option Data → Option ℕ
group_of partitions client given = optional (client % partitions) (below partitions) given

module _ {Args : Type 0} where
  abbrev pub spelled : Grammar Args → Data → Option (Request Args)
  spelled grammar d = only_if (nat_le (depth d) MOST_LEVELS) (request grammar d)

  -- `{"client":C,"number":N,"op":OP}` with what else a script's request may have, and with optional `"group":G`
  unfoldable pub asked_in : Grammar Args → ℕ → Data → Option (Asked Args)
  asked_in grammar partitions d = do
    r ← spelled grammar (without (codes "group") d)
    group ← group_of partitions r.txn.id.client (get (codes "group") d)
    Some (record { group = group; request = r })

  abbrev pub if_taken : Asked Args → Result (Asked Args) Fault
  if_taken asked = if has_key asked.request.txn.sets then (if is_attempt asked.request.txn.attempt then Ok asked else Err TooManyAttempts) else Err EmptySets

  abbrev pub asked_or : Grammar Args → ℕ → Data → Result (Asked Args) Fault
  asked_or grammar partitions d = and_then (ok_or (asked_in grammar partitions d) BadScript) if_taken

  unfoldable pub request_line : Grammar Args → ℕ → List ℕ → Result (Asked Args) Fault
  request_line grammar partitions line = if nat_le (length line) MOST_LINE_BYTES then and_then (json line) (asked_or grammar partitions) else Err BadJson

-- a fault is the one that is stated, but for want of memory
abbrev pub IsRefusal : {Y : Type 0} → Fault → Result Y Fault → Type 0
IsRefusal OutOfMemory read = Unit {0}
IsRefusal fault read = read ≡ Err fault

abbrev pub ReadsLine : {Y : Type 0} → Result Y Fault → Result Y Fault → Type 0
ReadsLine (Ok y) read = read ≡ Ok y
ReadsLine (Err fault) read = IsRefusal fault read
