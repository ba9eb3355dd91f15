-- The heading of a journal, and what its first line shows.
use Rattle.std.proofs.Common.{arith, ℕ, ◌≡◌, ◌≤◌, ◌-◌, List, [], ◌∷◌, ◌++◌, refl, sym, ◌∙◌, ap, subst, true, false, length, take, drop, append_assoc, Option, Some, None, option_map, unwrap_or, IfSome, inr}
use Rattle.std.specs.Prelude.{bytes_eq, nat_eq}
use Rattle.std.specs.Option.{ForSome}
use Rattle.std.specs.List.{starts_with}
use Rattle.std.proofs.lemmas.Slice.Eq.{bytes_eq-Decides}
use Rattle.std.proofs.lemmas.List.{take-append-drop, take_all, drop_all, length-drop}
use Rattle.std.proofs.Math.Seq.{drop-append_seam}
use mathlib.Core.List.{IsPrefix}
use Rattle.calvin_journal_log.specs.Disks.{Disk, Leads}
use Rattle.calvin_journal.specs.Lines.{has_break, lines_of, text}
use Rattle.calvin_journal.specs.Journals.{synced, epochs_in, epochs_behind, AddedAll, AddedInPart, OpensInPart}
use Rattle.calvin_journal.specs.Readings.{IsStill, Hands, part_at, lines_at, Opens}
use Rattle.calvin_journal.proofs.Splits.{lines_of-line, lines_of-none, text_again}

pub some_same : {A : Type 0} {x y : A} → Some x ≡ Some y → x ≡ y
some_same {A} {x} e = ap (λ (o : Option A). unwrap_or o x) e

-- ---- a log with a first whole line

module _ (line heading : List ℕ) (free : has_break line ≡ false) where
  first : (done : ℕ) (disk : Disk) → Hands line (part_at 0 disk) (part_at done disk) → lines_of disk.seen ≡ line ∷ lines_of (drop done disk.seen)
  first done disk h = ap lines_of h.ahead ∙ lines_of-line line (drop done disk.seen) free

  pub other_heading : (told : Option Disk) (done : ℕ) → ForSome told (λ disk. Hands line (part_at 0 disk) (part_at done disk)) → bytes_eq line heading ≡ false → IfSome told (λ disk. epochs_in heading disk.seen ≡ None)
  other_heading None done handed differs = tt
  other_heading (Some disk) done handed differs = ap (epochs_behind heading disk.seen) (first done disk (handed disk refl)) ∙ rw differs refl

  -- the first line alone was handed out
  front : (done : ℕ) (disk : Disk) → Hands line (part_at 0 disk) (part_at done disk) → take done disk.seen ≡ text (line ∷ [])
  front done disk h = h.done

  pub whole_front : (told : Option Disk) (done : ℕ) → ForSome told (λ disk. Hands line (part_at 0 disk) (part_at done disk)) → IfSome told (λ disk. take done disk.seen ≡ text (lines_of (take done disk.seen)))
  whole_front None done handed = tt
  whole_front (Some disk) done handed =
      let e = front done disk (handed disk refl) in
      e ∙ sym (text_again (line ∷ []) (free, tt)) ∙ ap (λ w. text (lines_of w)) (sym e)

  pub same_heading : (told : Option Disk) (done : ℕ) → ForSome told (λ disk. Hands line (part_at 0 disk) (part_at done disk)) → bytes_eq line heading ≡ true
      → IfSome told (λ disk. Opens heading disk.seen (option_map (λ d. lines_at (part_at done d)) told))
  same_heading None done handed begins = tt
  same_heading (Some disk) done handed begins =
      let h = handed disk refl in
      let is : line ≡ heading = (bytes_eq-Decides line heading).0 begins in
      let done_lines : lines_of (take done disk.seen) ≡ heading ∷ [] = ap lines_of (front done disk h) ∙ lines_of-line line [] free ∙ ap (λ l. l ∷ []) is in
      (lines_of (drop done disk.seen), ap (epochs_behind heading disk.seen) (first done disk h) ∙ rw begins refl, ap (λ ls. Some (record { done = ls; ahead = lines_of (drop done disk.seen) })) done_lines)

-- ---- a log with no whole line

module _ (heading : List ℕ) where
  pub no_heading : (told : Option Disk) (ahead : List ℕ) → ForSome told (λ disk. ahead ≡ disk.seen) → has_break ahead ≡ false → starts_with nat_eq heading ahead ≡ false → IfSome told (λ disk. epochs_in heading disk.seen ≡ None)
  no_heading None ahead all free differs = tt
  no_heading (Some disk) ahead all free differs =
      subst (λ bytes. epochs_in heading bytes ≡ None) (all disk refl) (ap (epochs_behind heading ahead) (lines_of-none ahead free) ∙ rw differs refl)

  -- what a beginning of the heading lacks of it
  pub completed : (ahead : List ℕ) → starts_with nat_eq heading ahead ≡ true → ahead ++ drop (length ahead) (heading ++ 10 ∷ []) ≡ heading ++ 10 ∷ []
  completed ahead begins =
      let is : ahead ≡ take (length ahead) heading = (bytes_eq-Decides ahead (take (length ahead) heading)).0 begins in
      let rest = drop (length ahead) heading in
      let split : heading ≡ ahead ++ rest = sym (take-append-drop (length ahead) heading) ∙ ap (λ w. w ++ rest) (sym is) in
      let all : heading ++ 10 ∷ [] ≡ ahead ++ (rest ++ 10 ∷ []) = ap (λ w. w ++ 10 ∷ []) split ∙ append_assoc ahead rest (10 ∷ []) in
      ap (λ w. ahead ++ drop (length ahead) w) all ∙ ap (λ w. ahead ++ w) (drop-append_seam ahead (rest ++ 10 ∷ [])) ∙ sym all

-- a slice to the end
pub to_end : (n : ℕ) (bytes : List ℕ) → take (length bytes - n) (drop n bytes) ≡ drop n bytes
to_end n bytes = take_all (length bytes - n) (drop n bytes) (omega (arith, length-drop n bytes))

module _ (heading : List ℕ) (free : has_break heading ≡ false) (ahead added : List ℕ) (all : ahead ++ added ≡ heading ++ 10 ∷ []) where
  pub headed_disk : (old new : Option Disk) → ForSome old (λ disk. ahead ≡ disk.seen) → Leads (AddedAll added) old new → ForSome new (λ disk. disk ≡ synced (heading ++ 10 ∷ []))
  headed_disk None None is leads = λ disk e. absurd (cc e)
  headed_disk None (Some new) is leads = absurd leads
  headed_disk (Some old) None is leads = absurd leads
  headed_disk (Some old) (Some new) is leads = λ disk e.
      let same : new ≡ disk = some_same e in
      sym same ∙ leads ∙ ap (λ w. synced (w ++ added)) (sym (is old refl)) ∙ ap synced all

  pub headed_in_part : (old new : Option Disk) → ForSome old (λ disk. ahead ≡ disk.seen) → Leads (AddedInPart added) old new → Leads (OpensInPart heading) old new
  headed_in_part None None is leads = tt
  headed_in_part None (Some new) is leads = absurd leads
  headed_in_part (Some old) None is leads = absurd leads
  headed_in_part (Some old) (Some new) is leads =
      record { kept = leads.kept; no_more = inr (subst (IsPrefix new.most) (ap (λ w. w ++ added) (sym (is old refl)) ∙ all) leads.no_more) }

  pub headed_whole : (new : Option Disk) → ForSome new (λ disk. disk ≡ synced (heading ++ 10 ∷ [])) → (size : ℕ) → size ≡ length (heading ++ 10 ∷ []) → IfSome new (λ disk. take size disk.seen ≡ text (lines_of (take size disk.seen)))
  headed_whole None is size long = tt
  headed_whole (Some disk) is size long =
      let e : take size disk.seen ≡ text (heading ∷ []) = ap (λ d. take size d.seen) (is disk refl) ∙ take_all size (heading ++ 10 ∷ []) (omega (arith, long)) in
      e ∙ sym (text_again (heading ∷ []) (free, tt)) ∙ ap (λ w. text (lines_of w)) (sym e)

  pub headed_still : (new : Option Disk) → ForSome new (λ disk. disk ≡ synced (heading ++ 10 ∷ [])) → ForSome new IsStill
  headed_still new is = λ disk e. subst IsStill (sym (is disk e)) (refl, refl)

  pub headed_within : (new : Option Disk) → ForSome new (λ disk. disk ≡ synced (heading ++ 10 ∷ [])) → (size : ℕ) → size ≡ length (heading ++ 10 ∷ []) → ForSome new (λ disk. size ≤ length disk.seen)
  headed_within new is size long = λ disk e. subst (λ (d : Disk). size ≤ length d.seen) (sym (is disk e)) (omega (arith, long))

  -- no epoch is there yet
  pub headed_opens : (old new : Option Disk) → ForSome old (λ disk. ahead ≡ disk.seen) → has_break ahead ≡ false → starts_with nat_eq heading ahead ≡ true
      → Leads (AddedAll added) old new → (size : ℕ) → size ≡ length (heading ++ 10 ∷ []) → IfSome old (λ disk. Opens heading disk.seen (option_map (λ d. lines_at (part_at size d)) new))
  headed_opens None new is no_line begins leads size long = tt
  headed_opens (Some old) None is no_line begins leads size long = absurd leads
  headed_opens (Some old) (Some new) is no_line begins leads size long =
      let disk = headed_disk (Some old) (Some new) is leads new refl in
      let none : epochs_in heading old.seen ≡ Some [] = subst (λ bytes. epochs_in heading bytes ≡ Some []) (is old refl) (ap (epochs_behind heading ahead) (lines_of-none ahead no_line) ∙ rw begins refl) in
      let done_lines : lines_of (take size new.seen) ≡ heading ∷ [] = ap (λ d. lines_of (take size d.seen)) disk ∙ ap lines_of (take_all size (heading ++ 10 ∷ []) (omega (arith, long))) ∙ lines_of-line heading [] free in
      let rest_lines : lines_of (drop size new.seen) ≡ [] = ap (λ d. lines_of (drop size d.seen)) disk ∙ ap lines_of (drop_all size (heading ++ 10 ∷ []) (omega (arith, long))) in
      ([], none, ap (λ ls. Some (record { done = ls; ahead = lines_of (drop size new.seen) })) done_lines ∙ ap (λ ls. Some (record { done = heading ∷ []; ahead = ls })) rest_lines)
