-- The exchange that adds an entry of a node keeps the law of the log.
--     kept_more      the law holds of a log that goes on by entries of one node, with the new length of its history
--     adds_moves      whatever the log is by then, it adds what the entry is to all that had been seen of the node's history, or
--         changes nothing
--     was_added      where the number found is the one expected, the entry was added
--     IsWritten, is_written      a history with one more event, and what its pen knows of it
--     IsEnded, is_ended      a history with its end, and what the whole knows of it
use Rattle.std.proofs.Common.{◌≡◌, ◌≢◌, ◌⊎◌, ℕ, ◌+◌, ◌<◌, ◌==◌, Bool, true, false, List, [], ◌∷◌, ◌++◌, length, refl, ap, sym, subst, arith, inl, inr, length-append, Option, Some, None, MatchBool, ◌∙◌, slice_set, length-set, ⊎_elim, eqb}
use Rattle.std.proofs.lemmas.List.{append-nil, get_or-set_same, get_or-set_other}
use Rattle.std.proofs.lemmas.Bool.Decides.{nat_tests, eqb_tells}
use mathlib.Core.List.{IsPrefix}
use prog.Atomic.{either}
use Rattle.logbook.specs.Pages.{Cell, cell, keeps, no_nib, step, Moves, Goes}
use Rattle.calvin_chronicles.specs.declared.law.Entry.{Entry}
use Rattle.calvin_chronicles.specs.Histories.{IsLegal, events_of, as_log, part_at, nodes_of}
use Rattle.calvin_chronicles.specs.Rules.{IsKept, Adds}
use Rattle.calvin_chronicles.proofs.Prefixes.{prefix_whole, events_of-more, events_of-ended, as_log-more}
use Rattle.calvin_chronicles.proofs.Parts.{part_at-append, part_at-prefix, nodes_of-more, nodes_of-prefix, nodes_some, IsOf}

abbrev pub shown : {E : Type 0} → List (Entry E) → List (Entry E)
shown log = []

abbrev pub moved : {E : Type 0} → List (Entry E) → List (Entry E) → ℕ → Type 0
moved xs ys n = Unit {0}

same_or_not : (j k : ℕ) → (j ≡ k) ⊎ (j ≢ k)
same_or_not j k = ⊎_elim (λ (h : (eqb j k ≡ true) × (j ≡ k)). inl h.1) (λ (h : (eqb j k ≡ false) × (j ≢ k)). inr h.1) (eqb_tells j k)

kept_more : {E : Type 0} (cells : List Cell) (log more : List (Entry E)) (node n : ℕ) → IsKept cells log → node < length cells
    → n ≡ length (part_at node (log ++ more)) → IsLegal (part_at node (log ++ more)) → ((other : ℕ) → other ≢ node → part_at other more ≡ [])
    → IsKept (slice_set cells node (n, true)) (log ++ more)
kept_more {E} cells log more node n kept within count legal others =
    let far : (other : ℕ) → other ≢ node → part_at other (log ++ more) ≡ part_at other log = λ other away. part_at-append other log more ∙ (ap (λ w. part_at other log ++ w) (others other away) ∙ append-nil (part_at other log)) in
    let P : List (Option E) → Type 0 = IsLegal in
    record {
      some = omega (arith, kept.some, length-append log more);
      nodes = nodes_of-more log more kept.some ∙ (kept.nodes ∙ sym (length-set cells node (n, true)));
      words = λ k inside. ⊎_elim
          (λ (same : k ≡ node). ap (cell (slice_set cells node (n, true))) same ∙ (get_or-set_same cells node (n, true) (0, false) within ∙ (ap (λ (m : ℕ). (m, true)) (count ∙ ap (λ i. length (part_at i (log ++ more))) (sym same)))))
          (λ (away : k ≢ node). get_or-set_other cells node k (n, true) (0, false) away ∙ (kept.words k (omega (arith, length-set cells node (n, true))) ∙ ap (λ w. (length w, true)) (sym (far k away))))
          (same_or_not k node);
      legal = λ k. ⊎_elim
          (λ (same : k ≡ node). let Q : ℕ → Type 0 = λ i. IsLegal (part_at i (log ++ more)) in subst Q (sym same) legal)
          (λ (away : k ≢ node). subst P (sym (far k away)) (kept.legal k))
          (same_or_not k node);
    }

adds_goes : {E : Type 0} (cells : List Cell) (log v : List (Entry E)) (node : ℕ) (e : Entry E) (x : Option E) (old : ℕ) → IsKept cells log → node < length cells
    → length (part_at node v) ≡ old → IsLegal (part_at node v ++ x ∷ []) → IsOf node e x → IsPrefix v log
    → (b : Bool) → (length (part_at node log) == old) ≡ b
    → Goes IsKept shown moved node (v, (no_nib, None)) (λ n. either (n == old) (old + 1) n) (Adds (step node old (old + 1) e) (v, (no_nib, None))) cells log
adds_goes {E} cells log v node e x old kept within len may is_of pre true is =
    let found : (cell cells node).0 ≡ length (part_at node log) = ap (λ (c : Cell). c.0) (kept.words node within) in
    let here : length (part_at node log) ≡ old = grind (arith, nat_tests) in
    let same : part_at node v ≡ part_at node log = prefix_whole (part_at node v) (part_at node log) (part_at-prefix node v log pre) (omega arith) in
    let more : part_at node (log ++ e ∷ []) ≡ part_at node log ++ x ∷ [] = part_at-append node log (e ∷ []) ∙ ap (λ w. part_at node log ++ w) is_of.own in
    let P : List (Option E) → Type 0 = λ w. IsLegal (w ++ x ∷ []) in
    let legal : IsLegal (part_at node (log ++ e ∷ [])) = subst IsLegal (sym more) (subst P same may) in
    let yes : ((cell cells node).0 == old) ≡ true = ap (λ n. n == old) found ∙ is in
    let count : either ((cell cells node).0 == old) (old + 1) (cell cells node).0 ≡ length (part_at node (log ++ e ∷ [])) = rw yes (omega (arith, ap length more, length-append (part_at node log) (x ∷ []))) in
    let told : part_at node (log ++ e ∷ []) ≡ part_at node v ++ part_at node (e ∷ []) = more ∙ (ap (λ w. w ++ x ∷ []) (sym same) ∙ ap (λ w. part_at node v ++ w) (sym is_of.own)) in (
      keeps,
      e ∷ [],
      None,
      tt,
      kept_more cells log (e ∷ []) node (either ((cell cells node).0 == old) (old + 1) (cell cells node).0) kept within count legal is_of.others,
      inl (refl, refl),
      rw yes told,
    )
adds_goes {E} cells log v node e x old kept within len may is_of pre false is =
    let found : (cell cells node).0 ≡ length (part_at node log) = ap (λ (c : Cell). c.0) (kept.words node within) in
    let no : ((cell cells node).0 == old) ≡ false = ap (λ n. n == old) found ∙ is in
    let all : log ++ [] ≡ log = append-nil log in
    let count : either ((cell cells node).0 == old) (old + 1) (cell cells node).0 ≡ length (part_at node (log ++ [])) = rw no (found ∙ ap (λ w. length (part_at node w)) (sym all)) in
    let P : List (Entry E) → Type 0 = λ w. IsLegal (part_at node w) in (
      keeps,
      [],
      None,
      tt,
      kept_more cells log [] node (either ((cell cells node).0 == old) (old + 1) (cell cells node).0) kept within count (subst P (sym all) (kept.legal node)) (λ other away. refl),
      inl (refl, refl),
      rw no tt,
    )

pub adds_moves : {E : Type 0} (v : List (Entry E)) (node nodes : ℕ) (e : Entry E) (x : Option E) (old : ℕ) → nodes_of v ≡ nodes → node < nodes
    → length (part_at node v) ≡ old → IsLegal (part_at node v ++ x ∷ []) → IsOf node e x
    → Moves IsKept shown moved node (v, (no_nib, None)) (λ n. either (n == old) (old + 1) n) (Adds (step node old (old + 1) e) (v, (no_nib, None)))
adds_moves v node nodes e x old all below len may is_of cells log kept pre away =
    let within : node < length cells = omega (arith, nodes_of-prefix v log (nodes_some v (omega arith)) pre, kept.nodes) in
    (within, ap (λ (c : Cell). c.1) (kept.words node within), adds_goes cells log v node e x old kept within len may is_of pre (length (part_at node log) == old) refl)

pub was_added : {E : Type 0} (xs ys zs : List (Option E)) (x : Option E) (found old : ℕ) → found ≡ old → zs ≡ x ∷ []
    → MatchBool (found == old) (ys ≡ xs ++ zs) (Unit {0}) → ys ≡ xs ++ x ∷ []
was_added {E} xs ys zs x found old same asked told =
    let P : Bool → Type 0 = λ b. MatchBool b (ys ≡ xs ++ zs) (Unit {0}) in
    let yes : (found == old) ≡ true = grind (arith, nat_tests) in
    let got : P true = subst P yes told in
    got ∙ ap (λ w. xs ++ w) asked

pub record IsWritten {E : Type 0} (before history : List (Option E)) (e : E) : Type 0 where
  pub longer : length before + 1 ≡ length history
  pub plain : history ≡ as_log (events_of history)
  pub events : events_of history ≡ events_of before ++ e ∷ []

pub is_written : {E : Type 0} (before history : List (Option E)) (e : E) → before ≡ as_log (events_of before) → history ≡ before ++ Some e ∷ [] → IsWritten before history e
is_written before history e plain added =
    let earlier = events_of before in
    let all : history ≡ as_log earlier ++ Some e ∷ [] = added ∙ ap (λ w. w ++ Some e ∷ []) plain in
    let now : events_of history ≡ earlier ++ e ∷ [] = ap events_of all ∙ events_of-more earlier e in
    record {
      longer = omega (arith, ap length added, length-append before (Some e ∷ []));
      plain = all ∙ (sym (as_log-more earlier e) ∙ ap as_log (sym now));
      events = now;
    }

pub record IsEnded {E : Type 0} (before history : List (Option E)) : Type 0 where
  pub plain : history ≡ as_log (events_of history) ++ None ∷ []
  pub events : events_of history ≡ events_of before

pub is_ended : {E : Type 0} (before history : List (Option E)) → before ≡ as_log (events_of before) → history ≡ before ++ None ∷ [] → IsEnded before history
is_ended before history plain added =
    let earlier = events_of before in
    let all : history ≡ as_log earlier ++ None ∷ [] = added ∙ ap (λ w. w ++ None ∷ []) plain in
    let now : events_of history ≡ earlier = ap events_of all ∙ events_of-ended earlier in
    record {
      plain = all ∙ ap (λ w. as_log w ++ None ∷ []) (sym now);
      events = now;
    }
