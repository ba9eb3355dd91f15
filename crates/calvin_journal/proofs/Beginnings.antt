-- A journal that is written as a whole: lines are gathered, and written piece by piece.
use Rattle.std.proofs.Common.{ℕ, ◌≡◌, List, [], ◌∷◌, ◌++◌, refl, sym, ◌∙◌, ap, subst, false, append_assoc, append-nil, Option, Some, None, option_map, IfSome}
use Rattle.std.specs.Option.{ForSome}
use Rattle.calvin_journal_log.specs.Disks.{Disk, IsSettled, Leads, Appended}
use Rattle.calvin_journal.specs.Lines.{has_break, lines_of, text}
use Rattle.calvin_journal.specs.Journals.{synced, IsGathered, AddedAll}
use Rattle.calvin_journal.proofs.Splits.{lines_of-text_alone, lines_of-are, are-append, text-append}
use Rattle.calvin_journal.proofs.Headings.{some_same}

-- the lines of what was written and gathered
abbrev pub lines_with : List ℕ → Option Disk → Option (List (List ℕ))
lines_with bytes told = option_map (λ disk. lines_of (disk.seen ++ bytes)) told

pub none_gathered : (told : Option Disk) → ForSome told (λ disk. disk ≡ synced []) → IfSome told (IsGathered [])
none_gathered None none = tt
none_gathered (Some disk) none = subst (IsGathered []) (sym (none disk refl)) (refl, refl)

pub no_lines : (told : Option Disk) → ForSome told (λ disk. disk ≡ synced []) → lines_with [] told ≡ option_map (λ _. []) told
no_lines None none = refl
no_lines (Some disk) none = ap (λ d. Some (lines_of (d.seen ++ []))) (none disk refl)

pub is_settled : (told : Option Disk) (bytes : List ℕ) → IfSome told (IsGathered bytes) → ForSome told IsSettled
is_settled None bytes are = λ disk e. absurd (cc e)
is_settled (Some old) bytes are = λ disk e. subst IsSettled (some_same e) are.0

-- ---- a line is gathered

module _ (line : List ℕ) (free : has_break line ≡ false) (bytes longer : List ℕ) (is : longer ≡ bytes ++ (line ++ 10 ∷ [])) where
  module _ (disk : Disk) (are : IsGathered bytes disk) where
    abbrev before : List (List ℕ)
    before = lines_of (disk.seen ++ bytes)

    whole : disk.seen ++ longer ≡ text (before ++ line ∷ [])
    whole =
        ap (λ w. disk.seen ++ w) is ∙ sym (append_assoc disk.seen bytes (line ++ 10 ∷ [])) ∙ ap (λ w. w ++ (line ++ 10 ∷ [])) are.1
        ∙ sym (text-append before (line ∷ []))

    one_more : lines_of (disk.seen ++ longer) ≡ before ++ line ∷ []
    one_more = ap lines_of whole ∙ lines_of-text_alone (before ++ line ∷ []) (are-append before (line ∷ []) (lines_of-are (disk.seen ++ bytes)) (free, tt))

  pub line_gathered : (told : Option Disk) → IfSome told (IsGathered bytes) → IfSome told (IsGathered longer)
  line_gathered None are = tt
  line_gathered (Some disk) are = (are.0, whole disk are ∙ ap text (sym (one_more disk are)))

  pub line_added : (told : Option Disk) → IfSome told (IsGathered bytes) → lines_with longer told ≡ option_map (λ ls. ls ++ line ∷ []) (lines_with bytes told)
  line_added None are = refl
  line_added (Some disk) are = ap Some (one_more disk are)

-- ---- what was gathered is written

module _ (bytes : List ℕ) where
  all_seen : (old new : Disk) → Appended bytes old new → new.seen ++ [] ≡ old.seen ++ bytes
  all_seen old new is = append-nil new.seen ∙ ap (λ d. d.seen) is

  pub piece_written : (told new : Option Disk) → IfSome told (IsGathered bytes) → Leads (Appended bytes) told new → IfSome new (IsGathered [])
  piece_written None None are leads = tt
  piece_written None (Some new) are leads = absurd leads
  piece_written (Some old) None are leads = absurd leads
  piece_written (Some old) (Some new) are leads =
      let e = all_seen old new leads in
      (ap (λ d. d.most) leads ∙ sym (ap (λ d. d.seen) leads), e ∙ are.1 ∙ ap (λ w. text (lines_of w)) (sym e))

  pub same_lines : (told new : Option Disk) → Leads (Appended bytes) told new → lines_with [] new ≡ lines_with bytes told
  same_lines None None leads = refl
  same_lines None (Some new) leads = absurd leads
  same_lines (Some old) None leads = absurd leads
  same_lines (Some old) (Some new) leads = ap (λ w. Some (lines_of w)) (all_seen old new leads)

  pub whole_journal : (told new : Option Disk) → IfSome told (IsGathered bytes) → Leads (AddedAll bytes) told new → ForSome new (λ disk. disk ≡ synced (text (lines_of disk.seen)))
  whole_journal None None are leads = λ disk e. absurd (cc e)
  whole_journal None (Some new) are leads = absurd leads
  whole_journal (Some old) None are leads = absurd leads
  whole_journal (Some old) (Some new) are leads = λ disk e.
      subst (λ d. d ≡ synced (text (lines_of d.seen))) (some_same e) (leads ∙ ap synced are.1 ∙ ap (λ d. synced (text (lines_of d.seen))) (sym leads))

  pub journal_lines : (told new : Option Disk) → Leads (AddedAll bytes) told new → option_map (λ (d : Disk). lines_of d.seen) new ≡ lines_with bytes told
  journal_lines None None leads = refl
  journal_lines None (Some new) leads = absurd leads
  journal_lines (Some old) None leads = absurd leads
  journal_lines (Some old) (Some new) leads = ap (λ (d : Disk). Some (lines_of d.seen)) leads
