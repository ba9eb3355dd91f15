-- For private clauses: how far a journal's epochs were run. The notions are of this project.
--     HasMore lines      there is a line
--     BeginsWithNoEpoch grammar partitions lines      the first line is no epoch
--     IsSameJournal old new      the lines that were handed out and those ahead are the same, where they are told
--     StandsAs lines disk      after each crash a log has these lines
--     RunsNext m show grammar setting old e rows new f after text      the next line was handed out, and the epoch that it lists was run
--     Runs m show grammar setting start old new e rows said      so many lines more were handed out, and their epochs were run from the start
--     RunsAll m show grammar setting start lines desk      all lines ahead were run
--     PrintsAll m show grammar setting start lines out out_now      what they are answered went out, and then the last line
--     PrintsSome m show grammar setting start lines out out_now      a beginning of what the first so many of them are answered; the last line only behind them all
use Rattle.std.specs.Prelude.{◌≡◌, ◌⊎◌, ℕ, ◌+◌, List, [], ◌∷◌, ◌++◌, length, take, Option, Some, None, option_map, Ok, Err}
use Rattle.std.specs.Io.KnownBytes.{Appends}
use Rattle.calvin_types.specs.declared.fault.Fault.{Fault}
use Rattle.calvin_app.specs.Rows.{Rows}
use Rattle.calvin_app.specs.Meaning.{Meaning}
use Rattle.calvin_text.specs.Texts.{finished}
use Rattle.calvin_script.specs.Grammar.{Grammar}
use Rattle.calvin_script.specs.Scripts.{Listed}
use Rattle.calvin_journal_log.specs.Disks.{Disk}
use Rattle.calvin_journal.specs.Journals.{Becomes}
use Rattle.calvin_journal.specs.Readings.{Lines, HandsOut}
use Rattle.calvin_serve_lines.specs.Epochs.{epoch_in}
use Rattle.calvin_serve_rows.specs.Starts.{Start}
use Rattle.calvin_serve_desk.specs.declared.setting.Setting.{Setting}
use Rattle.calvin_serve_desk.specs.Desks.{Standing}
use Rattle.calvin_serve_desk.specs.Epochs.{epoch_answers, answers}
use Rattle.calvin_serve_recovery.specs.Recovered.{epochs_of}

abbrev pub HasMore : List (List ℕ) → Type 0
HasMore [] = ⊥
HasMore (line ∷ lines) = Unit {0}

abbrev pub BeginsWithNoEpoch : {Args : Type 0} → Grammar Args → ℕ → List (List ℕ) → Type 0
BeginsWithNoEpoch grammar partitions [] = ⊥
BeginsWithNoEpoch grammar partitions (line ∷ lines) = (fault : Fault) × (epoch_in grammar partitions line ≡ Err fault)

abbrev pub all_lines : Lines → List (List ℕ)
all_lines lines = lines.done ++ lines.ahead

abbrev pub IsSameJournal : Option Lines → Option Lines → Type 0
IsSameJournal old new = option_map all_lines new ≡ option_map all_lines old

abbrev pub StandsAs : Option Lines → Option Disk → Type 0
StandsAs lines disk = Becomes (option_map (λ ls. (ls.done ++ ls.ahead, ls.done ++ ls.ahead)) lines) disk

-- the lines that were handed out in between list these epochs
abbrev pub HaveRun : {Args : Type 0} → Grammar Args → ℕ → List (List (Listed Args)) → Option Lines → Option Lines → Type 0
HaveRun grammar partitions epochs None None = Unit {0}
HaveRun grammar partitions epochs None (Some new) = ⊥
HaveRun grammar partitions epochs (Some old) None = ⊥
HaveRun grammar partitions epochs (Some old) (Some new) =
    (lines : List (List ℕ)) × (old.ahead ≡ lines ++ new.ahead) × (new.done ≡ old.done ++ lines) × (epochs_of grammar partitions lines ≡ Ok epochs)

module _ {Args Row Reply : Type 0} (m : Meaning Args Row Reply) (show : Reply → List ℕ) (grammar : Grammar Args) (setting : Setting) where
  pub record RunsNext (old : Option Lines) (e : ℕ) (rows : Rows Row) (new : Option Lines) (f : ℕ) (after : Rows Row) (text : List ℕ) : Type 0 where
    pub line : List ℕ
    pub handed : HandsOut line old new
    pub epoch : List (Listed Args)
    pub spelled : epoch_in grammar setting.partitions line ≡ Ok epoch
    pub answered : epoch_answers m show setting e rows epoch ≡ Ok (after, text)
    pub next : f ≡ e + 1

module _ {Args Row Reply : Type 0} (m : Meaning Args Row Reply) (show : Reply → List ℕ) (grammar : Grammar Args) (setting : Setting) (start : Start Row) where
  pub record Runs (old new : Option Lines) (e : ℕ) (rows : Rows Row) (said : List ℕ) : Type 0 where
    pub epochs : List (List (Listed Args))
    pub handed : HaveRun grammar setting.partitions epochs old new
    pub count : e ≡ start.epoch + length epochs
    pub answered : answers m show setting start.epoch start.rows epochs ≡ Ok (rows, said)

  pub record RunsAll (lines : Lines) (desk : Standing Row) : Type 0 where
    pub epochs : List (List (Listed Args))
    pub spelled : epochs_of grammar setting.partitions lines.ahead ≡ Ok epochs
    pub said : List ℕ
    pub answered : answers m show setting start.epoch start.rows epochs ≡ Ok (desk.rows, said)
    pub stands : desk ≡ record { setting = setting; lines = Some (lines.done ++ lines.ahead); failures = desk.failures; epoch = start.epoch + length epochs; rows = desk.rows }

  pub record PrintsAll (lines : Lines) (out out_now : Option (List ℕ)) : Type 0 where
    pub epochs : List (List (Listed Args))
    pub spelled : epochs_of grammar setting.partitions lines.ahead ≡ Ok epochs
    pub rows : Rows Row
    pub said : List ℕ
    pub answered : answers m show setting start.epoch start.rows epochs ≡ Ok (rows, said)
    pub printed : Appends out out_now (said ++ finished (start.epoch + length epochs))

  pub record PrintsSome (lines : Lines) (out out_now : Option (List ℕ)) : Type 0 where
    pub first : List (List ℕ)
    pub others : List (List ℕ)
    pub parts : lines.ahead ≡ first ++ others
    pub epochs : List (List (Listed Args))
    pub spelled : epochs_of grammar setting.partitions first ≡ Ok epochs
    pub rows : Rows Row
    pub said : List ℕ
    pub answered : answers m show setting start.epoch start.rows epochs ≡ Ok (rows, said)
    pub size : ℕ
    pub printed : Appends out out_now (take size said) ⊎ ((others ≡ []) × Appends out out_now (take size (said ++ finished (start.epoch + length epochs))))
