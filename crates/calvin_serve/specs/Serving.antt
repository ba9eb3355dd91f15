-- How far a service has come, and how it ends. The notions are of this project.
--     Sitting Args Row      a desk, the requests that wait for the next epoch, how many lines of the input were dealt with, and whether a request waits
--     Follows m show grammar old out lines now out_now      from this desk and what had been printed, lines that were read so lead to this sitting and to what is printed now
--     Serves m show grammar old out lines now out_now      the same where no request waits
--     Ends m show grammar old out lines disk out_now      a service is at an end: what it printed is of turns whose epochs every crash leaves in the journal; beside them a crash may leave the epoch that came next
use Rattle.std.specs.Prelude.{◌≡◌, ◌≢◌, ◌⊎◌, ℕ, ◌+◌, List, [], ◌∷◌, ◌++◌, Bool, true, false, map, length, take, Option, option_map, IfSome, Result, Ok}
use Rattle.std.specs.Io.KnownBytes.{Appends}
use mathlib.Core.List.{IsPrefix}
use Rattle.calvin_types.specs.declared.fault.Fault.{Fault}
use Rattle.calvin_app.specs.Rows.{Rows}
use Rattle.calvin_app.specs.Meaning.{Meaning}
use Rattle.calvin_script.specs.declared.contents.Request.{Request}
use Rattle.calvin_script.specs.Grammar.{Grammar}
use Rattle.calvin_journal_log.specs.Disks.{Disk}
use Rattle.calvin_journal.specs.Journals.{Becomes}
use Rattle.calvin_serve_desk.specs.Desks.{Standing}
use Rattle.calvin_serve_lines.specs.Asking.{Asked, request_line}
use Rattle.calvin_serve_lines.specs.Gathered.{gathered}
use Rattle.calvin_serve_input.specs.Inputs.{Held, coming}
use Rattle.calvin_serve.specs.Turns.{Turn, Epoch, lines_in, AreSpelled, told}

pub record Sitting (Args Row : Type 0) : Type 0 where
  pub desk : Standing Row
  pub waiting : List (List (Request Args))
  pub count : ℕ
  pub waits : Bool

module _ {Args Row Reply : Type 0} (m : Meaning Args Row Reply) (show : Reply
    → List ℕ) (grammar : Grammar Args) (old : Standing Row) (out : Option (List ℕ)) (lines : List (Result (Asked Args) Fault)) where
  pub record Follows (now : Sitting Args Row) (out_now : Option (List ℕ)) : Type 0 where
    pub turns : List (Turn Args)
    pub asked : List (Asked Args)
    pub read : lines_in turns ++ map Ok asked ≡ lines
    pub count : now.count ≡ length lines
    pub waiting : now.waiting ≡ gathered old.setting.partitions asked
    pub rests : now.waits ≡ false → asked ≡ []
    pub waits : now.waits ≡ true → asked ≢ []
    pub text : List ℕ
    pub answered : told m show old.setting 1 old.epoch old.rows turns ≡ Ok (now.desk.rows, text)
    pub printed : Appends out out_now text
    pub added : List (List ℕ)
    pub spelled : AreSpelled grammar old.setting.partitions turns added
    pub stands : now.desk ≡ record { setting = old.setting; lines = option_map (λ ls. ls ++ added) old.lines; failures = old.failures; epoch = old.epoch + length added; rows = now.desk.rows }

  pub record Serves (now : Standing Row) (out_now : Option (List ℕ)) : Type 0 where
    pub turns : List (Turn Args)
    pub read : lines_in turns ≡ lines
    pub text : List ℕ
    pub answered : told m show old.setting 1 old.epoch old.rows turns ≡ Ok (now.rows, text)
    pub printed : Appends out out_now text
    pub added : List (List ℕ)
    pub spelled : AreSpelled grammar old.setting.partitions turns added
    pub stands : now ≡ record { setting = old.setting; lines = option_map (λ ls. ls ++ added) old.lines; failures = old.failures; epoch = old.epoch + length added; rows = now.rows }

  pub record Ends (disk : Option Disk) (out_now : Option (List ℕ)) : Type 0 where
    pub turns : List (Turn Args)
    pub next : List (Turn Args)
    pub one_more : (next ≡ []) ⊎ ((asked : List (Asked Args)) × (next ≡ Epoch asked ∷ []))
    pub read : IsPrefix (lines_in (turns ++ next)) lines
    pub rows : Rows Row
    pub text : List ℕ
    pub answered : told m show old.setting 1 old.epoch old.rows turns ≡ Ok (rows, text)
    pub size : ℕ
    pub printed : Appends out out_now (take size text)
    pub added : List (List ℕ)
    pub more : List (List ℕ)
    pub spelled : AreSpelled grammar old.setting.partitions turns added
    pub spelled_next : AreSpelled grammar old.setting.partitions next more
    pub journal : Becomes (option_map (λ ls. (ls ++ added, ls ++ added ++ more)) old.lines) disk

-- for private clauses: the lines that an input hands out are dealt with
module _ {Args Row Reply : Type 0} (m : Meaning Args Row Reply) (show : Reply → List ℕ) (grammar : Grammar Args) where
  abbrev pub read_as : Standing Row → List (List ℕ) → List (Result (Asked Args) Fault)
  read_as old found = map (request_line grammar old.setting.partitions) found

  pub record Takes (input input_now : Held) (before : Sitting Args Row) (out_before : Option (List ℕ)) (now : Sitting Args Row) (out_now : Option (List ℕ)) : Type 0 where
    pub found : List (List ℕ)
    pub handed : (left : List ℕ) → coming input left ≡ found ++ coming input_now left
    pub follows : (old : Standing Row) (out : Option (List ℕ)) (lines : List (Result (Asked Args) Fault)) → Follows m show grammar old out lines before out_before
        → Follows m show grammar old out (lines ++ read_as old found) now out_now

  pub record TakesInPart (input : Held) (before : Sitting Args Row) (out_before : Option (List ℕ)) (disk : Option Disk) (out_now : Option (List ℕ)) : Type 0 where
    pub found : List (List ℕ)
    pub input_now : Held
    pub handed : (left : List ℕ) → coming input left ≡ found ++ coming input_now left
    pub ends : (old : Standing Row) (out : Option (List ℕ)) (lines : List (Result (Asked Args) Fault)) → Follows m show grammar old out lines before out_before
        → Ends m show grammar old out (lines ++ read_as old found) disk out_now

  -- what is left of the input gives these lines
  abbrev pub lines_left : Standing Row → Held → List ℕ → List (Result (Asked Args) Fault)
  lines_left old input left = read_as old (coming input left)

  pub record ServesInput (old : Standing Row) (out : Option (List ℕ)) (input : Held) (left : Option (List ℕ)) (now : Standing Row) (out_now : Option (List ℕ)) : Type 0 where
    pub lines : List (Result (Asked Args) Fault)
    pub serves : Serves m show grammar old out lines now out_now
    pub all : IfSome left (λ bytes. lines ≡ lines_left old input bytes)

  pub record EndsInput (old : Standing Row) (out : Option (List ℕ)) (input : Held) (left : Option (List ℕ)) (disk : Option Disk) (out_now : Option (List ℕ)) : Type 0 where
    pub lines : List (Result (Asked Args) Fault)
    pub ends : Ends m show grammar old out lines disk out_now
    pub first : IfSome left (λ bytes. IsPrefix lines (lines_left old input bytes))
