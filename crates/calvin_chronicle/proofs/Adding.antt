-- The exchange that adds an entry keeps the law of the log.
--     adds_moves      whatever the log is by then, it adds the entry to all that had been seen, or changes nothing
--     was_added      where the number found is the one expected, the entry was added
--     IsWritten, is_written      a log with one more event, and what its pen knows of it
--     IsEnded, is_ended      a log with its end, and what the whole knows of it
use Rattle.std.proofs.Common.{◌≡◌, ℕ, ◌+◌, ◌<◌, ◌==◌, Bool, true, false, List, [], ◌∷◌, ◌++◌, length, refl, ap, sym, subst, arith, inl, length-append, Option, Some, None, MatchBool, ◌∙◌}
use Rattle.std.proofs.lemmas.List.{append-nil}
use Rattle.std.proofs.lemmas.Bool.Decides.{nat_tests}
use mathlib.Core.List.{IsPrefix}
use prog.Atomic.{either}
use Rattle.logbook.specs.Pages.{Cell, cell, keeps, no_nib, step, Moves, Goes}
use Rattle.calvin_chronicle.specs.Histories.{IsLegal, events_of, as_log}
use Rattle.calvin_chronicle.specs.Rules.{IsKept, Adds}
use Rattle.calvin_chronicle.proofs.Prefixes.{prefix_whole, events_of-more, events_of-ended, as_log-more}

abbrev pub shown : {E : Type 0} → List (Option E) → List (Option E)
shown log = []

abbrev pub moved : {E : Type 0} → List (Option E) → List (Option E) → ℕ → Type 0
moved xs ys n = Unit {0}

adds_goes : {E : Type 0} (log v : List (Option E)) (e : Option E) (old : ℕ) → length v ≡ old → IsLegal (v ++ e ∷ []) → IsLegal log → IsPrefix v log
    → (b : Bool) → (length log == old) ≡ b
    → Goes IsKept shown moved 0 (v, (no_nib, None)) (λ n. either (n == old) (old + 1) n) (Adds (step 0 old (old + 1) e) (v, (no_nib, None))) ((length log, true) ∷ (0, true) ∷ []) log
adds_goes {E} log v e old len may legal pre true is =
    let here : length log ≡ old = grind (arith, nat_tests) in
    let same : v ≡ log = prefix_whole v log pre (omega arith) in
    let P : List (Option E) → Type 0 = λ w. IsLegal (w ++ e ∷ []) in
    let legal' : IsLegal (log ++ e ∷ []) = subst P same may in
    let n : either (length log == old) (old + 1) (length log) ≡ length (log ++ e ∷ []) = rw is (omega (arith, length-append log (e ∷ []))) in (
      keeps,
      e ∷ [],
      None,
      tt,
      record { words = ap (λ (k : ℕ). (k, true) ∷ (0, true) ∷ []) n; legal = legal' },
      inl (refl, refl),
      rw is (ap (λ w. w ++ e ∷ []) (sym same), legal'),
    )
adds_goes {E} log v e old len may legal pre false is =
    let all : log ++ [] ≡ log = append-nil log in
    let legal' : IsLegal (log ++ []) = subst IsLegal (sym all) legal in
    let n : either (length log == old) (old + 1) (length log) ≡ length (log ++ []) = rw is (ap length (sym all)) in (
      keeps,
      [],
      None,
      tt,
      record { words = ap (λ (k : ℕ). (k, true) ∷ (0, true) ∷ []) n; legal = legal' },
      inl (refl, refl),
      rw is tt,
    )

pub adds_moves : {E : Type 0} (v : List (Option E)) (e : Option E) (old : ℕ) → length v ≡ old → IsLegal (v ++ e ∷ [])
    → Moves IsKept shown moved 0 (v, (no_nib, None)) (λ n. either (n == old) (old + 1) n) (Adds (step 0 old (old + 1) e) (v, (no_nib, None)))
adds_moves v e old len may cs log kept pre away =
    let P : List Cell → Type 0 = λ c. (0 < length c) × ((cell c 0).1 ≡ true) × Goes IsKept shown moved 0 (v, (no_nib, None)) (λ n. either (n == old) (old + 1) n) (Adds (step 0 old (old + 1) e) (v, (no_nib, None))) c log in
    subst P (sym kept.words) (omega arith, refl, adds_goes log v e old len may kept.legal pre (length log == old) refl)

pub was_added : {E : Type 0} (v log : List (Option E)) (x e : Option E) (found old : ℕ) → found ≡ old → x ≡ e
    → MatchBool (found == old) ((log ≡ v ++ x ∷ []) × IsLegal log) (Unit {0}) → log ≡ v ++ e ∷ []
was_added {E} v log x e found old same asked told =
    let P : Bool → Type 0 = λ b. MatchBool b ((log ≡ v ++ x ∷ []) × IsLegal log) (Unit {0}) in
    let yes : (found == old) ≡ true = grind (arith, nat_tests) in
    let got : P true = subst P yes told in
    got.0 ∙ ap (λ w. v ++ w ∷ []) asked

pub record IsWritten {E : Type 0} (before log : List (Option E)) (e : E) : Type 0 where
  pub longer : length before + 1 ≡ length log
  pub plain : log ≡ as_log (events_of log)
  pub events : events_of log ≡ events_of before ++ e ∷ []

pub is_written : {E : Type 0} (before log : List (Option E)) (e : E) → before ≡ as_log (events_of before) → log ≡ before ++ Some e ∷ [] → IsWritten before log e
is_written before log e plain added =
    let earlier = events_of before in
    let all : log ≡ as_log earlier ++ Some e ∷ [] = added ∙ ap (λ w. w ++ Some e ∷ []) plain in
    let now : events_of log ≡ earlier ++ e ∷ [] = ap events_of all ∙ events_of-more earlier e in
    record {
      longer = omega (arith, ap length added, length-append before (Some e ∷ []));
      plain = all ∙ (sym (as_log-more earlier e) ∙ ap as_log (sym now));
      events = now;
    }

pub record IsEnded {E : Type 0} (before log : List (Option E)) : Type 0 where
  pub plain : log ≡ as_log (events_of log) ++ None ∷ []
  pub events : events_of log ≡ events_of before

pub is_ended : {E : Type 0} (before log : List (Option E)) → before ≡ as_log (events_of before) → log ≡ before ++ None ∷ [] → IsEnded before log
is_ended before log plain added =
    let earlier = events_of before in
    let all : log ≡ as_log earlier ++ None ∷ [] = added ∙ ap (λ w. w ++ None ∷ []) plain in
    let now : events_of log ≡ earlier = ap events_of all ∙ events_of-ended earlier in
    record {
      plain = all ∙ ap (λ w. as_log w ++ None ∷ []) (sym now);
      events = now;
    }
