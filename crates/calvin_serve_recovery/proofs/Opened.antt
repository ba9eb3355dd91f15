-- A journal that was opened, and what is told of its lines.
use Rattle.std.proofs.Common.{ℕ, ◌≡◌, ◌<◌, ◌+◌, List, [], ◌∷◌, ◌∙◌, ◌++◌, ap, subst, length, Option, Some, None, IfSome, Result, Ok, Err, inr}
use Rattle.std.specs.FinMap.{empty}
use Rattle.serde_json.specs.Data.{Data}
use Rattle.calvin_types.specs.declared.fault.Fault.{Fault}
use Rattle.calvin_types.specs.declared.limits.TheConstants.{MOST_EPOCHS}
use Rattle.calvin_app.specs.Meaning.{Meaning}
use Rattle.calvin_app.specs.Rows.{Rows}
use Rattle.calvin_text.specs.Texts.{finished}
use Rattle.calvin_script.specs.Grammar.{Grammar}
use Rattle.calvin_script.specs.Reading.{and_then}
use Rattle.calvin_script.specs.Scripts.{Listed}
use Rattle.calvin_serial.specs.Engine.{text_of}
use Rattle.calvin_journal_log.specs.Disks.{Disk}
use Rattle.calvin_journal.specs.Readings.{Lines, Opens}
use Rattle.calvin_serve_rows.specs.Starts.{Start, afresh, starts}
use Rattle.calvin_serve_desk.specs.declared.setting.Setting.{Setting}
use Rattle.calvin_serve_desk.specs.Desks.{Standing}
use Rattle.calvin_serve_desk.specs.Epochs.{answers}
use Rattle.calvin_serve_recovery.specs.Recovered.{epochs_of, listed_in, IsNoJournal, IsTooLong, Recovers, Prints, PrintsInPart}
use Rattle.calvin_serve_recovery.specs.Beginnings.{StartsAt}
use Rattle.calvin_serve_recovery.specs.Runs.{RunsAll, PrintsAll, PrintsSome}
use Rattle.calvin_serve_recovery.proofs.Beginnings.{starts_front}

-- ---- what a journal begins with, and its epochs

module _ {Args Row : Type 0} (form : Data → Option Row) (grammar : Grammar Args) (partitions : ℕ) where
  abbrev pub AreNone : List (List ℕ) → Type 0
  AreNone lines = (fault : Fault) × (listed_in form grammar partitions lines ≡ Err fault)

  abbrev with_epochs : Start Row × List (List ℕ) → Result (Start Row × List (List (Listed Args))) Fault
  with_epochs begun = and_then {B = Start Row × List (List (Listed Args))} (epochs_of grammar partitions begun.1) (λ epochs. Ok (begun.0, epochs))

  list_these : (lines behind : List (List ℕ)) (start : Start Row) (epochs : List (List (Listed Args))) → starts form lines ≡ Ok (start, behind) → epochs_of grammar partitions behind ≡ Ok epochs
      → listed_in form grammar partitions lines ≡ Ok (start, epochs)
  list_these lines behind start epochs begun are = ap (λ r. and_then {B = Start Row × List (List (Listed Args))} r with_epochs) begun ∙ ap (λ r. and_then {B = Start Row × List (List (Listed Args))} r (λ epochs. Ok (start, epochs))) are

  pub not_begun : (lines : Option Lines) → IfSome lines (λ ls. (fault : Fault) × (starts form ls.ahead ≡ Err fault)) → IfSome lines (λ ls. AreNone ls.ahead)
  not_begun None none = tt
  not_begun (Some lines) none = (none.0, ap (λ r. and_then {B = Start Row × List (List (Listed Args))} r with_epochs) none.1)

  pub not_listed : (start : Start Row) (lines new : Option Lines) → StartsAt form start lines new → IfSome new (λ ls. (fault : Fault) × (epochs_of grammar partitions ls.ahead ≡ Err fault)) → IfSome lines (λ ls. AreNone ls.ahead)
  not_listed start None new s none = tt
  not_listed start (Some lines) None s none = absurd s
  not_listed start (Some lines) (Some new) s none =
      (none.0, ap (λ r. and_then {B = Start Row × List (List (Listed Args))} r with_epochs) s.0 ∙ ap (λ r. and_then {B = Start Row × List (List (Listed Args))} r (λ epochs. Ok (start, epochs))) none.1)

-- ---- a journal that is opened

module _ (heading : List ℕ) where
  abbrev opened : List (List ℕ) → Lines
  opened epochs = record { done = heading ∷ []; ahead = epochs }

  -- what is so of the lines
  of_opened : (bytes : List ℕ) (lines : Option Lines) (o : Opens heading bytes lines) (P : Lines → Type 0) → IfSome lines P → P (opened o.0)
  of_opened bytes lines o P h = subst (λ (ls : Option Lines). IfSome ls P) o.2 h

  pub no_journal : {Args Row : Type 0} (form : Data → Option Row) (grammar : Grammar Args) (partitions : ℕ) (told : Option Disk) (lines : Option Lines) → IfSome told (λ disk. Opens heading disk.seen lines)
      → IfSome lines (λ ls. AreNone form grammar partitions ls.ahead) → IfSome told (λ disk. IsNoJournal form grammar partitions heading disk.seen)
  no_journal form grammar partitions None lines opens none = tt
  no_journal form grammar partitions (Some disk) lines o none =
      let n = of_opened disk.seen lines o (λ ls. AreNone form grammar partitions ls.ahead) none in
      inr (o.0, n.0, o.1, n.1)

  module _ {Row : Type 0} (form : Data → Option Row) (start : Start Row) where
    -- the lines behind a start are told where those of the journal are
    behind : (bytes : List ℕ) (lines new : Option Lines) (o : Opens heading bytes lines) → StartsAt form start lines new → (P : Lines → Type 0) → IfSome new P
        → (ls : Lines) × P ls × (starts form o.0 ≡ Ok (start, ls.ahead)) × (ls.done ++ ls.ahead ≡ heading ∷ o.0)
    behind bytes lines new o s P h = go new (subst (λ (ls : Option Lines). StartsAt form start ls new) o.2 s) h
      where
        go : (new : Option Lines) → StartsAt form start (Some (opened o.0)) new → IfSome new P → (ls : Lines) × P ls × (starts form o.0 ≡ Ok (start, ls.ahead)) × (ls.done ++ ls.ahead ≡ heading ∷ o.0)
        go None s h = absurd s
        go (Some new) s h = (new, h, s.0, s.1)

    pub too_long : (told : Option Disk) (lines new : Option Lines) → IfSome told (λ disk. Opens heading disk.seen lines) → StartsAt form start lines new → IfSome new (λ ls. MOST_EPOCHS < start.epoch + length ls.ahead)
        → IfSome told (λ disk. IsTooLong form heading disk.seen)
    too_long None lines new opens s long = tt
    too_long (Some disk) lines new o s long =
        let b = behind disk.seen lines new o s (λ ls. MOST_EPOCHS < start.epoch + length ls.ahead) long in
        (o.0, (start, b.0.ahead), o.1, b.2, b.1)

    module _ {Args Reply : Type 0} (m : Meaning Args Row Reply) (show : Reply → List ℕ) (grammar : Grammar Args) (setting : Setting) where
      pub recovers : (told : Option Disk) (lines new : Option Lines) → IfSome told (λ disk. Opens heading disk.seen lines) → StartsAt form start lines new → (desk : Standing Row) → IfSome new (λ ls. RunsAll m show grammar setting start ls desk)
          → IfSome told (λ disk. Recovers m show form grammar setting heading disk.seen desk)
      recovers None lines new opens s desk runs = tt
      recovers (Some disk) lines new o s desk runs =
          let b = behind disk.seen lines new o s (λ ls. RunsAll m show grammar setting start ls desk) runs in
          let r = b.1 in
          record {
            lines = o.0;
            whole = o.1;
            start = start;
            epochs = r.epochs;
            spelled = list_these form grammar setting.partitions o.0 b.0.ahead start r.epochs b.2 r.spelled;
            said = r.said;
            answered = r.answered;
            stands = r.stands ∙ ap (stand desk (start.epoch + length r.epochs)) b.3;
          }
        where
          stand : Standing Row → ℕ → List (List ℕ) → Standing Row
          stand desk epoch ls = record { setting = setting; lines = Some ls; failures = desk.failures; epoch = epoch; rows = desk.rows }

      -- what is told is told as of a script
      abbrev pub IsLaw : Type 0
      IsLaw = (epochs : List (List (Listed Args))) → text_of m show setting.sets (record { partitions = setting.partitions; woven_from = None; epochs = epochs })
          ≡ and_then {B = List ℕ} (answers m show setting 0 empty epochs) (λ (a : Rows Row × List ℕ). Ok (a.1 ++ finished (length epochs)))

      pub prints : IsLaw → (told : Option Disk) (lines new : Option Lines) → IfSome told (λ disk. Opens heading disk.seen lines) → StartsAt form start lines new → (out out_now : Option (List ℕ))
          → IfSome new (λ ls. PrintsAll m show grammar setting start ls out out_now) → IfSome told (λ disk. Prints m show form grammar setting heading disk.seen out out_now)
      prints law None lines new opens s out out_now all = tt
      prints law (Some disk) lines new o s out out_now all =
          let b = behind disk.seen lines new o s (λ ls. PrintsAll m show grammar setting start ls out out_now) all in
          let r = b.1 in
          record {
            lines = o.0;
            whole = o.1;
            start = start;
            epochs = r.epochs;
            spelled = list_these form grammar setting.partitions o.0 b.0.ahead start r.epochs b.2 r.spelled;
            rows = r.rows;
            said = r.said;
            answered = r.answered;
            as_a_script = λ none. law r.epochs
                ∙ ap (λ w. and_then {B = List ℕ} w (λ (a : Rows Row × List ℕ). Ok (a.1 ++ finished (length r.epochs)))) (subst (λ (s : Start Row). answers m show setting s.epoch s.rows r.epochs ≡ Ok (r.rows, r.said)) none r.answered);
            printed = r.printed;
          }

      pub prints_in_part : (told : Option Disk) (lines new : Option Lines) → IfSome told (λ disk. Opens heading disk.seen lines) → StartsAt form start lines new → (out out_now : Option (List ℕ))
          → IfSome new (λ ls. PrintsSome m show grammar setting start ls out out_now) → IfSome told (λ disk. PrintsInPart m show form grammar setting heading disk.seen out out_now)
      prints_in_part None lines new opens s out out_now some = tt
      prints_in_part (Some disk) lines new o s out out_now some =
          let b = behind disk.seen lines new o s (λ ls. PrintsSome m show grammar setting start ls out out_now) some in
          let r = b.1 in
          let front = starts_front form o.0 start b.0.ahead r.first r.others b.2 r.parts in
          record {
            first = front.0;
            others = r.others;
            whole = o.1 ∙ ap Some front.1;
            start = start;
            epochs = r.epochs;
            spelled = list_these form grammar setting.partitions front.0 r.first start r.epochs front.2 r.spelled;
            rows = r.rows;
            said = r.said;
            answered = r.answered;
            size = r.size;
            printed = r.printed;
          }
