-- The epochs of a journal are run, one after another.
use Rattle.std.proofs.Common.{arith, ℕ, suc, ◌+◌, ◌≤◌, ◌<◌, ◌≡◌, List, [], ◌∷◌, ◌++◌, refl, sym, ◌∙◌, ap, subst, length, length-append, append_assoc, append-nil, Option, Some, None, option_map, IfSome, Result, Ok, Err, IfOk, IfErr, OnOk, OnErr}
use Rattle.calvin_types.specs.declared.fault.Fault.{Fault}
use Rattle.calvin_types.specs.declared.limits.TheConstants.{MOST_EPOCHS}
use Rattle.calvin_app.specs.Rows.{Rows}
use Rattle.calvin_app.specs.Meaning.{Meaning}
use Rattle.calvin_script.specs.Grammar.{Grammar}
use Rattle.calvin_script.specs.Scripts.{Listed}
use Rattle.calvin_script.specs.Reading.{and_then}
use Rattle.calvin_journal.specs.Readings.{Lines, HandsOut}
use Rattle.calvin_serve_lines.specs.Epochs.{epoch_in}
use Rattle.calvin_serve_rows.specs.Starts.{Start}
use Rattle.calvin_serve_desk.specs.declared.setting.Setting.{Setting}
use Rattle.calvin_serve_desk.specs.Desks.{Standing}
use Rattle.calvin_serve_desk.specs.Epochs.{epoch_answers}
use Rattle.calvin_serve_recovery.specs.Recovered.{epochs_of}
use Rattle.calvin_serve_recovery.specs.Runs.{HasMore, BeginsWithNoEpoch, IsSameJournal, HaveRun, RunsNext, Runs, RunsAll}
use Rattle.calvin_serve_recovery.proofs.Running.{epochs_of-append, answers-append}

-- ---- the epochs of lines

module _ {Args : Type 0} (grammar : Grammar Args) (partitions : ℕ) where
  abbrev IsNone : List (List ℕ) → Type 0
  IsNone lines = (fault : Fault) × (epochs_of grammar partitions lines ≡ Err fault)

  -- a line that is no epoch comes behind others that are
  pub no_epochs : (lines rest : List (List ℕ)) (epochs : List (List (Listed Args))) → epochs_of grammar partitions lines ≡ Ok epochs → BeginsWithNoEpoch grammar partitions rest → IsNone (lines ++ rest)
  no_epochs [] [] epochs are none = absurd none
  no_epochs [] (line ∷ rest) epochs are none = (none.0, ap (λ r. and_then r (λ epoch. and_then (epochs_of grammar partitions rest) (λ es. Ok (epoch ∷ es)))) none.1)
  no_epochs (l ∷ ls) rest epochs are none = first (epoch_in grammar partitions l) (λ es so. no_epochs ls rest es so none) are
    where
      Later : Type 0
      Later = (es : List (List (Listed Args))) → epochs_of grammar partitions ls ≡ Ok es → IsNone (ls ++ rest)

      inner : (e : List (Listed Args)) (r : Result (List (List (Listed Args))) Fault) → ((es : List (List (Listed Args))) → r ≡ Ok es → IsNone (ls ++ rest)) → and_then r (λ es. Ok (e ∷ es)) ≡ Ok epochs
          → (fault : Fault) × (and_then (epochs_of grammar partitions (ls ++ rest)) (λ (es : List (List (Listed Args))). Ok (e ∷ es)) ≡ Err fault)
      inner e (Err fault) later so = absurd (cc so)
      inner e (Ok es) later so = let n = later es refl in (n.0, ap (λ r. and_then r (λ es. Ok (e ∷ es))) n.1)

      first : (r : Result (List (Listed Args)) Fault) → Later → and_then r (λ e. and_then (epochs_of grammar partitions ls) (λ es. Ok (e ∷ es))) ≡ Ok epochs
          → (fault : Fault) × (and_then r (λ e. and_then (epochs_of grammar partitions (ls ++ rest)) (λ es. Ok (e ∷ es))) ≡ Err fault)
      first (Err fault) later so = absurd (cc so)
      first (Ok e) later so = inner e (epochs_of grammar partitions ls) later so

  -- a line lists one epoch
  pub as_many : (lines : List (List ℕ)) (epochs : List (List (Listed Args))) → epochs_of grammar partitions lines ≡ Ok epochs → length epochs ≡ length lines
  as_many [] [] are = refl
  as_many [] (e ∷ es) are = absurd (cc are)
  as_many (l ∷ ls) epochs are = first (epoch_in grammar partitions l) (λ es so. as_many ls es so) are
    where
      Later : Type 0
      Later = (es : List (List (Listed Args))) → epochs_of grammar partitions ls ≡ Ok es → length es ≡ length ls

      of_or : Result (List (List (Listed Args))) Fault → List (List (Listed Args))
      of_or (Ok es) = es
      of_or (Err fault) = []

      inner : (e : List (Listed Args)) (r : Result (List (List (Listed Args))) Fault) → ((es : List (List (Listed Args))) → r ≡ Ok es → length es ≡ length ls) → and_then r (λ es. Ok (e ∷ es)) ≡ Ok epochs → length epochs ≡ suc (length ls)
      inner e (Err fault) later so = absurd (cc so)
      inner e (Ok es) later so = ap (λ r. length (of_or r)) (sym so) ∙ ap suc (later es refl)

      first : (r : Result (List (Listed Args)) Fault) → Later → and_then r (λ e. and_then (epochs_of grammar partitions ls) (λ es. Ok (e ∷ es))) ≡ Ok epochs → length epochs ≡ suc (length ls)
      first (Err fault) later so = absurd (cc so)
      first (Ok e) later so = inner e (epochs_of grammar partitions ls) later so

  -- ---- lines that were handed out

  pub run_none : (lines : Option Lines) → HaveRun grammar partitions [] lines lines
  run_none None = tt
  run_none (Some lines) = ([], refl, sym (append-nil lines.done), refl)

  pub run_more : (epochs : List (List (Listed Args))) (epoch : List (Listed Args)) (line : List ℕ) (old now new : Option Lines) → HaveRun grammar partitions epochs old now → HandsOut line now new
      → epoch_in grammar partitions line ≡ Ok epoch → HaveRun grammar partitions (epochs ++ epoch ∷ []) old new
  run_more epochs epoch line None None None h out is = tt
  run_more epochs epoch line None None (Some new) h out is = absurd out
  run_more epochs epoch line None (Some now) new h out is = absurd h
  run_more epochs epoch line (Some old) None new h out is = absurd h
  run_more epochs epoch line (Some old) (Some now) None h out is = absurd out
  run_more epochs epoch line (Some old) (Some now) (Some new) h out is = (
    h.0 ++ line ∷ [],
    h.1 ∙ ap (λ w. h.0 ++ w) out.0 ∙ sym (append_assoc h.0 (line ∷ []) new.ahead),
    out.1 ∙ ap (λ w. w ++ line ∷ []) h.2 ∙ append_assoc old.done h.0 (line ∷ []),
    epochs_of-append grammar partitions h.0 epochs line epoch h.3 is,
  )

  pub handed_none : (line : List ℕ) (old new : Option Lines) → HandsOut line old new → (fault : Fault) → epoch_in grammar partitions line ≡ Err fault → IfSome old (λ lines. BeginsWithNoEpoch grammar partitions lines.ahead)
  handed_none line None new out fault none = tt
  handed_none line (Some old) None out fault none = absurd out
  handed_none line (Some old) (Some new) out fault none = subst (BeginsWithNoEpoch grammar partitions) (sym out.0) (fault, none)

  pub handed_one : (line : List ℕ) (old new : Option Lines) → HandsOut line old new → IfSome old (λ lines. HasMore lines.ahead)
  handed_one line None new out = tt
  handed_one line (Some old) None out = absurd out
  handed_one line (Some old) (Some new) out = subst HasMore (sym out.0) tt

  pub run_same : (epochs : List (List (Listed Args))) (old new : Option Lines) → HaveRun grammar partitions epochs old new → IsSameJournal old new
  run_same epochs None None h = refl
  run_same epochs None (Some new) h = absurd h
  run_same epochs (Some old) None h = absurd h
  run_same epochs (Some old) (Some new) h = ap Some (ap (λ w. w ++ new.ahead) h.2 ∙ append_assoc old.done h.0 new.ahead ∙ ap (λ w. old.done ++ w) (sym h.1))

  pub run_no_further : (epochs : List (List (Listed Args))) (old new : Option Lines) → HaveRun grammar partitions epochs old new → IfSome new (λ lines. BeginsWithNoEpoch grammar partitions lines.ahead)
      → IfSome old (λ lines. IsNone lines.ahead)
  run_no_further epochs None new h none = tt
  run_no_further epochs (Some old) None h none = absurd h
  run_no_further epochs (Some old) (Some new) h none = subst IsNone (sym h.1) (no_epochs h.0 new.ahead epochs h.3 none)

  longer : (lines : List (List ℕ)) → HasMore lines → 0 < length lines
  longer [] more = absurd more
  longer (line ∷ lines) more = omega arith

  pub run_too_long : (first : ℕ) (epochs : List (List (Listed Args))) (old new : Option Lines) → HaveRun grammar partitions epochs old new → MOST_EPOCHS ≤ first + length epochs → IfSome new (λ lines. HasMore lines.ahead)
      → IfSome old (λ lines. MOST_EPOCHS < first + length lines.ahead)
  run_too_long first epochs None new h most more = tt
  run_too_long first epochs (Some old) None h most more = absurd h
  run_too_long first epochs (Some old) (Some new) h most more =
      let long = ap length h.1 ∙ length-append h.0 new.ahead in
      let same = as_many h.0 epochs h.3 in
      let one = longer new.ahead more in
      omega (arith, long, same, one, most)

-- ---- epochs that were run

module _ {Args Row Reply : Type 0} (m : Meaning Args Row Reply) (show : Reply → List ℕ) (grammar : Grammar Args) (setting : Setting) (start : Start Row) where
  pub runs_none : (old new : Option Lines) (e : ℕ) (rows : Rows Row) → new ≡ old → e ≡ start.epoch → rows ≡ start.rows → Runs m show grammar setting start old new e rows []
  runs_none old new e rows same zeroth none = record {
    epochs = [];
    handed = subst (λ o. HaveRun grammar setting.partitions [] old o) (sym same) (run_none grammar setting.partitions old);
    count = let none : start.epoch + 0 ≡ start.epoch = omega arith in zeroth ∙ sym none;
    answered = ap (λ rs. Ok (rs, [])) (sym none);
  }

  pub runs_more : (old now : Option Lines) (e : ℕ) (rows : Rows Row) (said : List ℕ) → Runs m show grammar setting start old now e rows said
      → (new : Option Lines) (f : ℕ) (after : Rows Row) (text : List ℕ) → RunsNext m show grammar setting now e rows new f after text
      → Runs m show grammar setting start old new f after (said ++ text)
  runs_more old now e rows said r new f after text s = record {
    epochs = r.epochs ++ s.epoch ∷ [];
    handed = run_more grammar setting.partitions r.epochs s.epoch s.line old now new r.handed s.handed s.spelled;
    count = let more = length-append r.epochs (s.epoch ∷ []) in omega (arith, s.next, r.count, more);
    answered =
        answers-append m show setting start.epoch start.rows r.epochs s.epoch
        ∙ ap (λ a. and_then {B = Rows Row × List ℕ} a (λ (a : Rows Row × List ℕ). and_then {B = Rows Row × List ℕ} (epoch_answers m show setting (start.epoch + length r.epochs) a.0 s.epoch) (λ (b : Rows Row × List ℕ). Ok (b.0, a.1 ++ b.1)))) r.answered
        ∙ ap (λ n. and_then {B = Rows Row × List ℕ} (epoch_answers m show setting n rows s.epoch) (λ (b : Rows Row × List ℕ). Ok (b.0, said ++ b.1))) (sym r.count)
        ∙ ap (λ a. and_then {B = Rows Row × List ℕ} a (λ (b : Rows Row × List ℕ). Ok (b.0, said ++ b.1))) s.answered;
  }

  pub runs_still : (old now : Option Lines) (e : ℕ) (rows : Rows Row) (said : List ℕ) → Runs m show grammar setting start old now e rows said
      → (new : Option Lines) (f : ℕ) (after : Rows Row) → new ≡ now → f ≡ e → after ≡ rows → Runs m show grammar setting start old new f after said
  runs_still old now e rows said r new f after lines number store =
      subst (λ o. Runs m show grammar setting start old o f after said) (sym lines) (subst (λ n. Runs m show grammar setting start old now n after said) (sym number) (subst (λ rs. Runs m show grammar setting start old now e rs said) (sym store) r))

  -- where nothing is ahead all lines were handed out
  ended : (epochs : List (List (Listed Args))) (old new : Lines) (h : HaveRun grammar setting.partitions epochs (Some old) (Some new)) → new.ahead ≡ [] → old.ahead ≡ h.0
  ended epochs old new h end = h.1 ∙ ap (λ w. h.0 ++ w) end ∙ append-nil h.0

  pub all_run : (epochs : List (List (Listed Args))) (old new : Option Lines) → HaveRun grammar setting.partitions epochs old new → IfSome new (λ lines. lines.ahead ≡ [])
      → IfSome old (λ lines. epochs_of grammar setting.partitions lines.ahead ≡ Ok epochs)
  all_run epochs None new h end = tt
  all_run epochs (Some old) None h end = absurd h
  all_run epochs (Some old) (Some new) h end = ap (epochs_of grammar setting.partitions) (ended epochs old new h end) ∙ h.3

  pub runs_all : (old new : Option Lines) (e : ℕ) (rows : Rows Row) (said : List ℕ) → Runs m show grammar setting start old new e rows said → IfSome new (λ lines. lines.ahead ≡ [])
      → (failures : ℕ) (of : Setting) → of ≡ setting → (desk : Standing Row) → desk ≡ record { setting = of; lines = option_map (λ lines. lines.done) new; failures = failures; epoch = e; rows = rows }
      → IfSome old (λ lines. RunsAll m show grammar setting start lines desk)
  runs_all None new e rows said r end failures of same desk is = tt
  runs_all (Some old) None e rows said r end failures of same desk is = absurd r.handed
  runs_all (Some old) (Some new) e rows said r end failures of same desk is =
      let rows_are : desk.rows ≡ rows = ap (λ d. d.rows) is in
      let fails_are : desk.failures ≡ failures = ap (λ d. d.failures) is in
      let done : new.done ≡ old.done ++ old.ahead = r.handed.2 ∙ ap (λ w. old.done ++ w) (sym (ended r.epochs old new r.handed end)) in
      record {
        epochs = r.epochs;
        spelled = ap (epochs_of grammar setting.partitions) (ended r.epochs old new r.handed end) ∙ r.handed.3;
        said = said;
        answered = r.answered ∙ ap (λ rs. Ok (rs, said)) (sym rows_are);
        stands =
            is ∙ ap (λ s. of_setting s (Some new.done) failures e rows) same ∙ ap (λ ls. stand (Some ls) failures e rows) done ∙ ap (λ n. stand (Some (old.done ++ old.ahead)) failures n rows) r.count
            ∙ ap (λ n. stand (Some (old.done ++ old.ahead)) n (start.epoch + length r.epochs) rows) (sym fails_are)
            ∙ ap (λ rs. stand (Some (old.done ++ old.ahead)) desk.failures (start.epoch + length r.epochs) rs) (sym rows_are);
      }
    where
      of_setting : Setting → Option (List (List ℕ)) → ℕ → ℕ → Rows Row → Standing Row
      of_setting setting lines failures epoch rows = record { setting = setting; lines = lines; failures = failures; epoch = epoch; rows = rows }

      stand : Option (List (List ℕ)) → ℕ → ℕ → Rows Row → Standing Row
      stand lines failures epoch rows = of_setting setting lines failures epoch rows

-- ---- what is returned

pub ok_then : {T E : Type 0} (r : Result T E) {P Q : T → Type 0} → ((t : T) → P t → Q t) → IfOk r P → IfOk r Q
ok_then (Ok t) f h = f t h
ok_then (Err e) f h = tt

pub err_then : {T E : Type 0} (r : Result T E) {P Q : E → Type 0} → ((e : E) → P e → Q e) → IfErr r P → IfErr r Q
err_then (Ok t) f h = tt
err_then (Err e) f h = f e h

pub err_both : {T E : Type 0} (r : Result T E) {P Q R : E → Type 0} → ((e : E) → P e → Q e → R e) → IfErr r P → IfErr r Q → IfErr r R
err_both (Ok t) f p q = tt
err_both (Err e) f p q = f e p q

pub on_ok : {T E : Type 0} (r : Result T E) {P Q : Type 0} → (P → Q) → OnOk r P → OnOk r Q
on_ok (Ok t) f h = f h
on_ok (Err e) f h = tt

pub on_err : {T E : Type 0} (r : Result T E) {P Q : Type 0} → (P → Q) → OnErr r P → OnErr r Q
on_err (Ok t) f h = tt
on_err (Err e) f h = f h

-- where bytes or lines are told
pub some_then : {A : Type 0} (o : Option A) {P Q : A → Type 0} → ((x : A) → P x → Q x) → IfSome o P → IfSome o Q
some_then None f h = tt
some_then (Some x) f h = f x h
