-- A journal whose epochs are run again. The notions are of this project.
--     epochs_of grammar partitions lines      the epochs that the lines list, or why one lists none
--     listed_in form grammar partitions lines      what the lines behind a heading begin with, and the epochs that those behind it list; or why a line is none of these
--     IsNoJournal form grammar partitions heading bytes      the bytes can't be left of a journal with this heading, or a whole line of theirs is none of a journal
--     IsTooLong form heading bytes      the bytes may be left of a journal with this heading, of which an epoch has a number above the last
--     Keeps heading old new      after each crash the whole lines are all that were sure to be left, and nothing but those that might have been left; or the heading is there
--     HasItsLines old new      after each crash the whole lines are those that were found
--     Recovers m show form grammar setting heading bytes desk      the bytes may be left of a journal with this heading; the desk has all its whole lines, and stands where their epochs leave it, run one after another from what the journal begins with
--     Prints m show form grammar setting heading bytes out out_now      what these epochs are answered went out, and then the last line: of a journal that begins afresh the text of the script that lists them
--     PrintsInPart m show form grammar setting heading bytes out out_now      a beginning of what the first so many epochs are answered; the last line only behind them all
use Rattle.std.specs.Prelude.{◌≡◌, ◌<◌, ◌+◌, ◌⊎◌, ℕ, List, [], ◌∷◌, ◌++◌, length, take, Option, Some, None, Result, Ok, Err}
use Rattle.std.specs.Io.KnownBytes.{Appends}
use Rattle.serde_json.specs.Data.{Data}
use Rattle.calvin_types.specs.declared.fault.Fault.{Fault}
use Rattle.calvin_types.specs.declared.limits.TheConstants.{MOST_EPOCHS}
use Rattle.calvin_app.specs.Rows.{Rows}
use Rattle.calvin_app.specs.Meaning.{Meaning}
use Rattle.calvin_text.specs.Texts.{finished}
use Rattle.calvin_script.specs.Grammar.{Grammar}
use Rattle.calvin_script.specs.Reading.{and_then}
use Rattle.calvin_script.specs.Scripts.{Listed}
use Rattle.calvin_serial.specs.Engine.{text_of}
use Rattle.calvin_journal_log.specs.Disks.{Disk}
use Rattle.calvin_journal.specs.Lines.{lines_of}
use Rattle.calvin_journal.specs.Journals.{epochs_in, MayBecome}
use Rattle.calvin_serve_lines.specs.Epochs.{epoch_in}
use Rattle.calvin_serve_rows.specs.Starts.{Start, afresh, starts}
use Rattle.calvin_serve_desk.specs.declared.setting.Setting.{Setting}
use Rattle.calvin_serve_desk.specs.Desks.{Standing}
use Rattle.calvin_serve_desk.specs.Epochs.{answers}

module _ {Args : Type 0} (grammar : Grammar Args) (partitions : ℕ) where
  abbrev pub epochs_of : List (List ℕ) → Result (List (List (Listed Args))) Fault
  epochs_of [] = Ok []
  epochs_of (line ∷ lines) = and_then (epoch_in grammar partitions line) (λ epoch. and_then (epochs_of lines) (λ epochs. Ok (epoch ∷ epochs)))

module _ {Args Row : Type 0} (form : Data → Option Row) (grammar : Grammar Args) (partitions : ℕ) where
  abbrev pub listed_in : List (List ℕ) → Result (Start Row × List (List (Listed Args))) Fault
  listed_in lines = and_then (starts form lines) (λ begun. and_then (epochs_of grammar partitions begun.1) (λ epochs. Ok (begun.0, epochs)))

  abbrev pub IsNoJournal : List ℕ → List ℕ → Type 0
  IsNoJournal heading bytes = (epochs_in heading bytes ≡ None) ⊎ ((lines : List (List ℕ)) × (fault : Fault) × (epochs_in heading bytes ≡ Some lines) × (listed_in lines ≡ Err fault))

module _ {Row : Type 0} (form : Data → Option Row) where
  abbrev pub IsTooLong : List ℕ → List ℕ → Type 0
  IsTooLong heading bytes = (lines : List (List ℕ)) × (begun : Start Row × List (List ℕ)) × (epochs_in heading bytes ≡ Some lines) × (starts form lines ≡ Ok begun)
      × (MOST_EPOCHS < begun.0.epoch + length begun.1)

abbrev pub Keeps : List ℕ → Disk → Disk → Type 0
Keeps heading old new = MayBecome (lines_of old.kept) (lines_of old.most) new ⊎ MayBecome (lines_of old.kept) (heading ∷ []) new

abbrev pub HasItsLines : Disk → Disk → Type 0
HasItsLines old new = MayBecome (lines_of old.seen) (lines_of old.seen) new

module _ {Args Row Reply : Type 0} (m : Meaning Args Row Reply) (show : Reply → List ℕ) (form : Data → Option Row) (grammar : Grammar Args) (setting : Setting) (heading bytes : List ℕ) where
  pub record Recovers (desk : Standing Row) : Type 0 where
    pub lines : List (List ℕ)
    pub whole : epochs_in heading bytes ≡ Some lines
    pub start : Start Row
    pub epochs : List (List (Listed Args))
    pub spelled : listed_in form grammar setting.partitions lines ≡ Ok (start, epochs)
    pub said : List ℕ
    pub answered : answers m show setting start.epoch start.rows epochs ≡ Ok (desk.rows, said)
    pub stands : desk ≡ record { setting = setting; lines = Some (heading ∷ lines); failures = desk.failures; epoch = start.epoch + length epochs; rows = desk.rows }

  pub record Prints (out out_now : Option (List ℕ)) : Type 0 where
    pub lines : List (List ℕ)
    pub whole : epochs_in heading bytes ≡ Some lines
    pub start : Start Row
    pub epochs : List (List (Listed Args))
    pub spelled : listed_in form grammar setting.partitions lines ≡ Ok (start, epochs)
    pub rows : Rows Row
    pub said : List ℕ
    pub answered : answers m show setting start.epoch start.rows epochs ≡ Ok (rows, said)
    pub as_a_script : start ≡ afresh → text_of m show setting.sets (record { partitions = setting.partitions; woven_from = None; epochs = epochs }) ≡ Ok (said ++ finished (length epochs))
    pub printed : Appends out out_now (said ++ finished (start.epoch + length epochs))

  pub record PrintsInPart (out out_now : Option (List ℕ)) : Type 0 where
    pub first : List (List ℕ)
    pub others : List (List ℕ)
    pub whole : epochs_in heading bytes ≡ Some (first ++ others)
    pub start : Start Row
    pub epochs : List (List (Listed Args))
    pub spelled : listed_in form grammar setting.partitions first ≡ Ok (start, epochs)
    pub rows : Rows Row
    pub said : List ℕ
    pub answered : answers m show setting start.epoch start.rows epochs ≡ Ok (rows, said)
    pub size : ℕ
    pub printed : Appends out out_now (take size said) ⊎ ((others ≡ []) × Appends out out_now (take size (said ++ finished (start.epoch + length epochs))))
