-- What the lines of a journal begin with.
use Rattle.std.proofs.Common.{arith, ℕ, zero, suc, ◌+◌, ◌<◌, ◌≤◌, ◌≡◌, List, [], ◌∷◌, ◌++◌, refl, sym, ◌∙◌, ap, subst, length, length-append, append_assoc, append-nil, take, drop, Bool, true, false, nat_le, if◌then◌else◌, Option, Some, None, IfSome, Result, Ok, Err}
use Rattle.std.specs.FinMap.{empty}
use Rattle.std.proofs.lemmas.Bool.{le-leb, leb-true}
use Rattle.std.proofs.lemmas.List.{take-append-drop, length-take-le}
use Rattle.std.proofs.Math.Seq.{take-append_seam, drop-append_seam}
use Rattle.serde_json.specs.Data.{Data}
use Rattle.calvin_types.specs.declared.fault.Fault.{Fault}
use Rattle.calvin_types.specs.declared.fault.Fault.TheVariants.{Repeated, BadScript}
use Rattle.calvin_types.specs.declared.key.Key.{Key}
use Rattle.calvin_types.specs.Keys.{are_distinct}
use Rattle.calvin_app.specs.Rows.{Rows, overwritten}
use Rattle.calvin_app.specs.Writing.{keys_of}
use Rattle.calvin_script.specs.Reading.{and_then}
use Rattle.calvin_journal.specs.Readings.{Lines, HandsOut}
use Rattle.calvin_serve_rows.specs.RowLines.{row_in}
use Rattle.calvin_serve_rows.specs.Starts.{Start, start_in, rows_in, on_rows, starts_by, starts}
use Rattle.calvin_serve_recovery.specs.Runs.{IsSameJournal}
use Rattle.calvin_serve_recovery.specs.Beginnings.{start_at, TakesLines, HandsRow, BeginsWithNoRow, HaveRows, HaveNoRows, AreOnRows, AreOnNoRows, SaysOfStart, BeginsWithNoJson, StartsAt}

-- ---- lines that are taken

pub takes_none : (P : List (List ℕ) → Type 0) → P [] → (lines : Option Lines) → TakesLines P lines lines
takes_none P p None = tt
takes_none P p (Some lines) = ([], refl, sym (append-nil lines.done), p)

pub takes_more : (P Q : List (List ℕ) → Type 0) (line : List ℕ) (old now new : Option Lines) → TakesLines P old now → HandsOut line now new
    → ((lines : List (List ℕ)) → P lines → Q (lines ++ line ∷ [])) → TakesLines Q old new
takes_more P Q line None None None h out more = tt
takes_more P Q line None None (Some new) h out more = absurd out
takes_more P Q line None (Some now) new h out more = absurd h
takes_more P Q line (Some old) None new h out more = absurd h
takes_more P Q line (Some old) (Some now) None h out more = absurd out
takes_more P Q line (Some old) (Some now) (Some new) h out more = (
  h.0 ++ line ∷ [],
  h.1 ∙ ap (λ w. h.0 ++ w) out.0 ∙ sym (append_assoc h.0 (line ∷ []) new.ahead),
  out.1 ∙ ap (λ w. w ++ line ∷ []) h.2 ∙ append_assoc old.done h.0 (line ∷ []),
  more h.0 h.3,
)

-- a line, and then others
pub takes_behind : (P Q : List (List ℕ) → Type 0) (line : List ℕ) (old now new : Option Lines) → HandsOut line old now → TakesLines P now new
    → ((lines : List (List ℕ)) → P lines → Q (line ∷ lines)) → TakesLines Q old new
takes_behind P Q line None None None out h more = tt
takes_behind P Q line None None (Some new) out h more = absurd h
takes_behind P Q line None (Some now) new out h more = absurd out
takes_behind P Q line (Some old) None new out h more = absurd out
takes_behind P Q line (Some old) (Some now) None out h more = absurd h
takes_behind P Q line (Some old) (Some now) (Some new) out h more =
    (line ∷ h.0, out.0 ∙ ap (λ w. line ∷ w) h.1, h.2 ∙ ap (λ w. w ++ h.0) out.1 ∙ append_assoc old.done (line ∷ []) h.0, more h.0 h.3)

pub takes_same : (P : List (List ℕ) → Type 0) (old new : Option Lines) → TakesLines P old new → IsSameJournal old new
takes_same P None None h = refl
takes_same P None (Some new) h = absurd h
takes_same P (Some old) None h = absurd h
takes_same P (Some old) (Some new) h = ap Some (ap (λ w. w ++ new.ahead) h.2 ∙ append_assoc old.done h.0 new.ahead ∙ ap (λ w. old.done ++ w) (sym h.1))

pub hands_same : (line : List ℕ) (old new : Option Lines) → HandsOut line old new → IsSameJournal old new
hands_same line None None out = refl
hands_same line None (Some new) out = absurd out
hands_same line (Some old) None out = absurd out
hands_same line (Some old) (Some new) out = ap Some (ap (λ w. w ++ new.ahead) out.1 ∙ append_assoc old.done (line ∷ []) new.ahead ∙ ap (λ w. old.done ++ w) (sym out.0))

-- what is so of all lines ahead, by what was taken and what wasn't
pub takes_not : (P R S : List (List ℕ) → Type 0) (old new : Option Lines) → TakesLines P old new → IfSome new (λ ls. R ls.ahead)
    → ((lines rest : List (List ℕ)) → P lines → R rest → S (lines ++ rest)) → IfSome old (λ ls. S ls.ahead)
takes_not P R S None new h none so = tt
takes_not P R S (Some old) None h none so = absurd h
takes_not P R S (Some old) (Some new) h none so = subst S (sym h.1) (so h.0 new.ahead h.3 none)

pub takes_so : (P S : List (List ℕ) → Type 0) (old new : Option Lines) → TakesLines P old new → ((lines rest : List (List ℕ)) → P lines → S (lines ++ rest)) → IfSome old (λ ls. S ls.ahead)
takes_so P S None new h so = tt
takes_so P S (Some old) None h so = absurd h
takes_so P S (Some old) (Some new) h so = subst S (sym h.1) (so h.0 new.ahead h.3)

pub hands_not : (R S : List (List ℕ) → Type 0) (line : List ℕ) (old new : Option Lines) → HandsOut line old new → IfSome new (λ ls. R ls.ahead)
    → ((rest : List (List ℕ)) → R rest → S (line ∷ rest)) → IfSome old (λ ls. S ls.ahead)
hands_not R S line None new out none so = tt
hands_not R S line (Some old) None out none so = absurd out
hands_not R S line (Some old) (Some new) out none so = subst S (sym out.0) (so new.ahead none)

-- ---- a front of a list

taken : {A : Type 0} (xs ys : List A) (n : ℕ) → length xs ≡ n → take n (xs ++ ys) ≡ xs
taken xs ys n is = subst (λ k. take k (xs ++ ys) ≡ xs) is (take-append_seam xs ys)

dropped : {A : Type 0} (xs ys : List A) (n : ℕ) → length xs ≡ n → drop n (xs ++ ys) ≡ ys
dropped xs ys n is = subst (λ k. drop k (xs ++ ys) ≡ ys) is (drop-append_seam xs ys)

-- one that reaches behind some items and one more
reaches : {A : Type 0} (xs : List A) (y : A) (ys : List A) (n : ℕ) → length xs < n → (zs : List A) × (take n (xs ++ y ∷ ys) ≡ xs ++ y ∷ zs)
reaches [] y ys zero less = absurd (omega (arith, less))
reaches [] y ys (suc n) less = (take n ys, refl)
reaches (x ∷ xs) y ys zero less = absurd (omega (arith, less))
reaches (x ∷ xs) y ys (suc n) less = let r = reaches xs y ys n (omega (arith, less)) in (r.0, ap (λ w. x ∷ w) r.1)

module _ {Row : Type 0} (form : Data → Option Row) where
  -- ---- rows

  abbrev of_or : Result (List (Key × Row)) Fault → List (Key × Row)
  of_or (Ok rows) = rows
  of_or (Err fault) = []

  rows_in-append : (lines : List (List ℕ)) (rows : List (Key × Row)) (line : List ℕ) (row : Key × Row) → rows_in form lines ≡ Ok rows → row_in form line ≡ Ok row
      → rows_in form (lines ++ line ∷ []) ≡ Ok (rows ++ row ∷ [])
  rows_in-append [] rows line row are is = ap (λ r. and_then r (λ x. Ok (x ∷ []))) is ∙ ap (λ (rs : List (Key × Row)). Ok (rs ++ row ∷ [])) (ap of_or are)
  rows_in-append (l ∷ ls) rows line row are is = first (row_in form l) (λ rs so. rows_in-append ls rs line row so is) are
    where
      Later : Type 0
      Later = (rs : List (Key × Row)) → rows_in form ls ≡ Ok rs → rows_in form (ls ++ line ∷ []) ≡ Ok (rs ++ row ∷ [])

      rest : (x : Key × Row) (r later : Result (List (Key × Row)) Fault) → ((rs : List (Key × Row)) → r ≡ Ok rs → later ≡ Ok (rs ++ row ∷ []))
          → and_then r (λ rs. Ok (x ∷ rs)) ≡ Ok rows → and_then later (λ rs. Ok (x ∷ rs)) ≡ Ok (rows ++ row ∷ [])
      rest x (Err fault) later h so = absurd (cc so)
      rest x (Ok rs) later h so = ap (λ r. and_then r (λ rs. Ok (x ∷ rs))) (h rs refl) ∙ ap (λ r. and_then r (λ (xs : List (Key × Row)). Ok (xs ++ row ∷ []))) so

      first : (r : Result (Key × Row) Fault) → Later → and_then r (λ x. and_then (rows_in form ls) (λ rs. Ok (x ∷ rs))) ≡ Ok rows
          → and_then r (λ x. and_then (rows_in form (ls ++ line ∷ [])) (λ rs. Ok (x ∷ rs))) ≡ Ok (rows ++ row ∷ [])
      first (Err fault) later so = absurd (cc so)
      first (Ok x) later so = rest x (rows_in form ls) (rows_in form (ls ++ line ∷ [])) later so

  abbrev IsNone : List (List ℕ) → Type 0
  IsNone lines = (fault : Fault) × (rows_in form lines ≡ Err fault)

  -- a line that is no row comes behind others that are
  no_rows : (lines : List (List ℕ)) (bad : List ℕ) (behind : List (List ℕ)) (rows : List (Key × Row)) → rows_in form lines ≡ Ok rows → (fault : Fault) → row_in form bad ≡ Err fault → IsNone (lines ++ bad ∷ behind)
  no_rows [] bad behind rows are fault none = (fault, ap (λ r. and_then r (λ row. and_then (rows_in form behind) (λ rs. Ok (row ∷ rs)))) none)
  no_rows (l ∷ ls) bad behind rows are fault none = first (row_in form l) (λ rs so. no_rows ls bad behind rs so fault none) are
    where
      Later : Type 0
      Later = (rs : List (Key × Row)) → rows_in form ls ≡ Ok rs → IsNone (ls ++ bad ∷ behind)

      inner : (x : Key × Row) (r : Result (List (Key × Row)) Fault) → ((rs : List (Key × Row)) → r ≡ Ok rs → IsNone (ls ++ bad ∷ behind)) → and_then r (λ rs. Ok (x ∷ rs)) ≡ Ok rows
          → (fault : Fault) × (and_then (rows_in form (ls ++ bad ∷ behind)) (λ (rs : List (Key × Row)). Ok (x ∷ rs)) ≡ Err fault)
      inner x (Err fault) later so = absurd (cc so)
      inner x (Ok rs) later so = let n = later rs refl in (n.0, ap (λ r. and_then r (λ rs. Ok (x ∷ rs))) n.1)

      first : (r : Result (Key × Row) Fault) → Later → and_then r (λ x. and_then (rows_in form ls) (λ rs. Ok (x ∷ rs))) ≡ Ok rows
          → (fault : Fault) × (and_then r (λ x. and_then (rows_in form (ls ++ bad ∷ behind)) (λ rs. Ok (x ∷ rs))) ≡ Err fault)
      first (Err fault) later so = absurd (cc so)
      first (Ok x) later so = inner x (rows_in form ls) later so

  pub one_row_more : (count : ℕ) (rows : List (Key × Row)) (line : List ℕ) (row : Key × Row) → row_in form line ≡ Ok row → (lines : List (List ℕ)) → HaveRows form count rows lines
      → HaveRows form (count + 1) (rows ++ row ∷ []) (lines ++ line ∷ [])
  one_row_more count rows line row is lines have = (length-append lines (line ∷ []) ∙ ap (λ n. n + 1) have.0, rows_in-append lines rows line row have.1 is)

  pub no_row_more : (count so_far : ℕ) → so_far < count → (rows : List (Key × Row)) (lines rest : List (List ℕ)) → HaveRows form so_far rows lines → BeginsWithNoRow form rest → HaveNoRows form count (lines ++ rest)
  no_row_more count so_far less rows lines [] have none = λ enough.
      let most = leb-true count (length (lines ++ [])) enough in
      let size = length-append lines (the_empty) in
      absurd (omega (arith, less, most, size, have.0))
    where
      the_empty : List (List ℕ)
      the_empty = []
  no_row_more count so_far less rows lines (bad ∷ rest) have none = λ enough.
      let cut = reaches lines bad rest count (omega (arith, less, have.0)) in
      let n = no_rows lines bad cut.0 rows have.1 none.0 none.1 in
      (n.0, ap (rows_in form) cut.1 ∙ n.1)

  -- ---- rows, each key once

  abbrev once_each : ℕ → List (Key × Row) → Result (Start Row) Fault
  once_each e rows = if are_distinct (keys_of rows) then Ok (start_at e (overwritten empty rows)) else Err Repeated

  pub on_these : (count : ℕ) (rows : List (Key × Row)) (store : Rows Row) → are_distinct (keys_of rows) ≡ true → store ≡ overwritten empty rows → (line : List ℕ) (lines : List (List ℕ)) → HaveRows form count rows lines
      → AreOnRows form count store (line ∷ lines)
  on_these count rows store distinct is line lines have = (
    have.0,
    λ e. ap (λ r. and_then r (once_each e)) have.1
        ∙ ap (λ (b : Bool). if b then Ok (start_at e (overwritten empty rows)) else Err Repeated) distinct
        ∙ ap (λ (s : Rows Row). Ok (start_at e s)) (sym is),
  )

  pub on_none : (count : ℕ) (line : List ℕ) (lines : List (List ℕ)) → HaveNoRows form count lines → AreOnNoRows form count (line ∷ lines)
  on_none count line lines none = λ enough e. let n = none enough in (n.0, ap (λ r. and_then r (once_each e)) n.1)

  pub on_repeated : (count : ℕ) (rows : List (Key × Row)) → are_distinct (keys_of rows) ≡ false → (line : List ℕ) (lines rest : List (List ℕ)) → HaveRows form count rows lines → AreOnNoRows form count (line ∷ (lines ++ rest))
  on_repeated count rows repeated line lines rest have = λ enough e. (
    Repeated,
    ap (λ ls. and_then (rows_in form ls) (once_each e)) (taken lines rest count have.0) ∙ ap (λ r. and_then r (once_each e)) have.1
        ∙ ap (λ (b : Bool). if b then Ok (start_at e (overwritten empty rows)) else Err Repeated) repeated,
  )

  -- ---- a start

  pub begins_afresh : (lines : List (List ℕ)) → SaysOfStart None lines → starts form lines ≡ Ok (start_at 0 empty, lines)
  begins_afresh [] says = refl
  begins_afresh (line ∷ lines) says = ap (λ r. and_then r (λ said. starts_by form said line lines)) says

  begins_by : (epoch count : ℕ) (start : Start Row) (line : List ℕ) (lines rest : List (List ℕ)) → start_in line ≡ Ok (Some (epoch, count)) → length lines ≡ count → on_rows form epoch lines ≡ Ok start
      → starts form (line ∷ (lines ++ rest)) ≡ Ok (start, rest)
  begins_by epoch count start line lines rest says many are =
      let size = length-append lines rest in
      let enough : nat_le count (length (lines ++ rest)) ≡ true = le-leb count (length (lines ++ rest)) (omega (arith, size, many)) in
      ap (λ r. and_then r (λ said. starts_by form said line (lines ++ rest))) says
      ∙ ap (λ (b : Bool). if b then and_then {B = Start Row × List (List ℕ)} (on_rows form epoch (take count (lines ++ rest))) (λ (s : Start Row). Ok (s, drop count (lines ++ rest))) else Err BadScript) enough
      ∙ ap (λ ls. and_then {B = Start Row × List (List ℕ)} (on_rows form epoch ls) (λ (s : Start Row). Ok (s, drop count (lines ++ rest)))) (taken lines rest count many)
      ∙ ap (λ r. and_then {B = Start Row × List (List ℕ)} r (λ (s : Start Row). Ok (s, drop count (lines ++ rest)))) are
      ∙ ap (λ ls. Ok (start, ls)) (dropped lines rest count many)

  pub begins_on : (epoch count : ℕ) (rows : Rows Row) (lines rest : List (List ℕ)) → SaysOfStart (Some (epoch, count)) (lines ++ rest) → AreOnRows form count rows lines
      → starts form (lines ++ rest) ≡ Ok (start_at epoch rows, rest)
  begins_on epoch count rows [] rest says are = absurd are
  begins_on epoch count rows (line ∷ lines) rest says are = begins_by epoch count (start_at epoch rows) line lines rest says are.0 (are.1 epoch)

  abbrev pub BeginsWithNothing : List (List ℕ) → Type 0
  BeginsWithNothing lines = (fault : Fault) × (starts form lines ≡ Err fault)

  pub begins_with_no_json : (lines : List (List ℕ)) → BeginsWithNoJson lines → BeginsWithNothing lines
  begins_with_no_json [] none = absurd none
  begins_with_no_json (line ∷ lines) none = (none.0, ap (λ r. and_then r (λ said. starts_by form said line lines)) none.1)

  pub begins_on_none : (epoch count : ℕ) (lines : List (List ℕ)) → SaysOfStart (Some (epoch, count)) lines → AreOnNoRows form count lines → BeginsWithNothing lines
  begins_on_none epoch count [] says none = absurd (cc says)
  begins_on_none epoch count (line ∷ lines) says none = go (nat_le count (length lines)) (λ enough. none enough epoch)
    where
      Rest : Type 0
      Rest = (fault : Fault) × (on_rows form epoch (take count lines) ≡ Err fault)

      said_first : starts form (line ∷ lines) ≡ starts_by form (Some (epoch, count)) line lines
      said_first = ap (λ r. and_then r (λ said. starts_by form said line lines)) says

      inner : (b : Bool) → (b ≡ true → Rest) → (fault : Fault) × ((if b then and_then {B = Start Row × List (List ℕ)} (on_rows form epoch (take count lines)) (λ (start : Start Row). Ok (start, drop count lines)) else Err BadScript) ≡ Err fault)
      inner true none = let n = none refl in (n.0, ap (λ r. and_then {B = Start Row × List (List ℕ)} r (λ (start : Start Row). Ok (start, drop count lines))) n.1)
      inner false none = (BadScript, refl)

      go : (b : Bool) → (nat_le count (length lines) ≡ true → Rest) → BeginsWithNothing (line ∷ lines)
      go b none = let n = inner (nat_le count (length lines)) none in (n.0, said_first ∙ n.1)

  -- what is behind a start may end anywhere
  abbrev got : Result (Start Row × List (List ℕ)) Fault → Start Row × List (List ℕ)
  got (Ok begun) = begun
  got (Err fault) = (start_at 0 empty, [])

  abbrev top : List (List ℕ) → List ℕ
  top [] = []
  top (line ∷ lines) = line

  abbrev Front : List (List ℕ) → Start Row → List (List ℕ) → List (List ℕ) → Type 0
  Front lines start first others = (all : List (List ℕ)) × (lines ≡ all ++ others) × (starts form all ≡ Ok (start, first))

  pub starts_front : (lines : List (List ℕ)) (start : Start Row) (behind first others : List (List ℕ)) → starts form lines ≡ Ok (start, behind) → behind ≡ first ++ others → Front lines start first others
  starts_front [] start behind first others are parts = none first (ap (λ r. (got r).1) are ∙ parts)
    where
      none : (first : List (List ℕ)) → [] ≡ first ++ others → Front [] start first others
      none [] is = ([], is, ap (λ (s : Start Row). Ok (s, [])) (ap (λ r. (got r).0) are))
      none (f ∷ fs) is = absurd (cc is)
  starts_front (line ∷ lines) start behind first others are parts = go (start_in line) refl are
    where
      afresh_first : (first : List (List ℕ)) → start_in line ≡ Ok None → line ∷ lines ≡ first ++ others → start_at 0 empty ≡ start → Front (line ∷ lines) start first others
      afresh_first [] is same begun = ([], same, ap (λ (s : Start Row). Ok (s, [])) begun)
      afresh_first (f ∷ fs) is same begun = (
        f ∷ fs,
        same,
        ap (λ r. and_then r (λ said. starts_by form said f fs)) (ap start_in (sym (ap top same)) ∙ is) ∙ ap (λ (s : Start Row). Ok (s, f ∷ fs)) begun,
      )

      on : (epoch count : ℕ) → start_in line ≡ Ok (Some (epoch, count)) → (b : Bool) → nat_le count (length lines) ≡ b → (r : Result (Start Row) Fault) → on_rows form epoch (take count lines) ≡ r
          → (if b then and_then {B = Start Row × List (List ℕ)} r (λ (s : Start Row). Ok (s, drop count lines)) else Err BadScript) ≡ Ok (start, behind) → Front (line ∷ lines) start first others
      on epoch count says false enough r is are = absurd (cc are)
      on epoch count says true enough (Err fault) is are = absurd (cc are)
      on epoch count says true enough (Ok s) is are =
          let many : length (take count lines) ≡ count = length-take-le count lines (leb-true count (length lines) enough) in
          let same : s ≡ start = ap (λ r. (got r).0) are in
          let cut : drop count lines ≡ first ++ others = ap (λ r. (got r).1) are ∙ parts in
          let whole : take count lines ++ (first ++ others) ≡ lines = ap (λ w. take count lines ++ w) (sym cut) ∙ take-append-drop count lines in (
            line ∷ (take count lines ++ first),
            ap (λ w. line ∷ w) (sym whole ∙ sym (append_assoc (take count lines) first others)),
            begins_by epoch count start line (take count lines) first says many (is ∙ ap (λ (s : Start Row). Ok s) same),
          )

      go : (r : Result (Option (ℕ × ℕ)) Fault) → start_in line ≡ r → and_then r (λ said. starts_by form said line lines) ≡ Ok (start, behind) → Front (line ∷ lines) start first others
      go (Err fault) is are = absurd (cc are)
      go (Ok None) is are = afresh_first first is (ap (λ r. (got r).1) are ∙ parts) (ap (λ r. (got r).0) are)
      go (Ok (Some said)) is are = on said.0 said.1 is (nat_le said.1 (length lines)) refl (on_rows form said.0 (take said.1 lines)) refl are

  -- ---- where lines are told

  pub starts_afresh : (epoch : ℕ) (rows : Rows Row) → epoch ≡ 0 → rows ≡ empty → (old new : Option Lines) → new ≡ old → IfSome old (λ ls. SaysOfStart None ls.ahead) → StartsAt form (start_at epoch rows) old new
  starts_afresh epoch rows zeroth none old new same says = subst (StartsAt form (start_at epoch rows) old) (sym same) (go old says)
    where
      is : start_at 0 empty ≡ start_at epoch rows
      is = sym (ap (λ (n : ℕ). start_at n rows) zeroth ∙ ap (λ (r : Rows Row). start_at 0 r) none)

      go : (lines : Option Lines) → IfSome lines (λ ls. SaysOfStart None ls.ahead) → StartsAt form (start_at epoch rows) lines lines
      go None says = tt
      go (Some lines) says = (begins_afresh lines.ahead says ∙ ap (λ (s : Start Row). Ok (s, lines.ahead)) is, refl)

  pub starts_on : (epoch count : ℕ) (rows : Rows Row) (old now new : Option Lines) → now ≡ old → IfSome old (λ ls. SaysOfStart (Some (epoch, count)) ls.ahead) → TakesLines (AreOnRows form count rows) now new
      → StartsAt form (start_at epoch rows) old new
  starts_on epoch count rows old now new same says takes = go old new says (subst (λ o. TakesLines (AreOnRows form count rows) o new) same takes)
    where
      go : (old new : Option Lines) → IfSome old (λ ls. SaysOfStart (Some (epoch, count)) ls.ahead) → TakesLines (AreOnRows form count rows) old new → StartsAt form (start_at epoch rows) old new
      go None None says takes = tt
      go None (Some new) says takes = absurd takes
      go (Some old) None says takes = absurd takes
      go (Some old) (Some new) says takes = (
        ap (starts form) takes.1 ∙ begins_on epoch count rows takes.0 new.ahead (subst (SaysOfStart (Some (epoch, count))) takes.1 says) takes.3,
        ap (λ w. w ++ new.ahead) takes.2 ∙ append_assoc old.done takes.0 new.ahead ∙ ap (λ w. old.done ++ w) (sym takes.1),
      )

  pub starts_on_none : (epoch count : ℕ) (old now : Option Lines) → now ≡ old → IfSome old (λ ls. SaysOfStart (Some (epoch, count)) ls.ahead) → IfSome now (λ ls. AreOnNoRows form count ls.ahead)
      → IfSome old (λ ls. BeginsWithNothing ls.ahead)
  starts_on_none epoch count old now same says none = go old says (subst (λ (o : Option Lines). IfSome o (λ ls. AreOnNoRows form count ls.ahead)) same none)
    where
      go : (old : Option Lines) → IfSome old (λ ls. SaysOfStart (Some (epoch, count)) ls.ahead) → IfSome old (λ ls. AreOnNoRows form count ls.ahead) → IfSome old (λ ls. BeginsWithNothing ls.ahead)
      go None says none = tt
      go (Some old) says none = begins_on_none epoch count old.ahead says none

  pub starts_with_no_json : (old : Option Lines) → IfSome old (λ ls. BeginsWithNoJson ls.ahead) → IfSome old (λ ls. BeginsWithNothing ls.ahead)
  starts_with_no_json None none = tt
  starts_with_no_json (Some old) none = begins_with_no_json old.ahead none

  pub starts_same : (start : Start Row) (old new : Option Lines) → StartsAt form start old new → IsSameJournal old new
  starts_same start None None s = refl
  starts_same start None (Some new) s = absurd s
  starts_same start (Some old) None s = absurd s
  starts_same start (Some old) (Some new) s = ap Some s.1
