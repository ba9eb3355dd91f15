-- What a crash leaves of a journal that is opened and run.
use Rattle.std.proofs.Common.{ℕ, ◌≡◌, List, [], ◌∷◌, ◌++◌, refl, sym, ◌∙◌, ap, subst, Bool, true, false, if◌then◌else◌, append-nil, Option, Some, None, option_map, IfSome, inl, inr, ◌⊎◌, ⊎_elim, Err}
use Rattle.std.specs.Prelude.{bytes_eq, nat_eq}
use Rattle.std.specs.List.{starts_with}
use Rattle.std.specs.Option.{ForSome}
use Rattle.std.proofs.lemmas.Slice.Eq.{bytes_eq-Decides}
use mathlib.Core.List.{IsPrefix}
use Rattle.serde_json.specs.Data.{Data}
use Rattle.calvin_types.specs.declared.fault.Fault.{Fault}
use Rattle.calvin_script.specs.Grammar.{Grammar}
use Rattle.calvin_journal_log.specs.Disks.{Disk, IsInOrder, Leads, MayLeave}
use Rattle.calvin_journal.specs.Lines.{has_break, lines_of}
use Rattle.calvin_journal.specs.Journals.{epochs_behind, synced, MayBecome, Becomes, OpensInPart}
use Rattle.calvin_journal.specs.Readings.{Lines, Opens}
use Rattle.calvin_journal.proofs.Splits.{prefix_trans, lines_of-prefix, lines_of-line}
use Rattle.calvin_serve_recovery.specs.Recovered.{listed_in, Keeps, HasItsLines}
use Rattle.calvin_serve_recovery.specs.Runs.{IsSameJournal, StandsAs, all_lines}

-- ---- the same lines

pub stands_still : (old new : Option Lines) (disk : Option Disk) → IsSameJournal old new → StandsAs new disk → StandsAs old disk
stands_still None None disk same stands = stands
stands_still None (Some new) disk same stands = absurd (cc same)
stands_still (Some old) None disk same stands = absurd (cc same)
stands_still (Some old) (Some new) None same stands = absurd stands
stands_still (Some old) (Some new) (Some disk) same stands = subst (λ ls. MayBecome ls ls disk) (ap (all_of old) same) stands
  where
    all_of : Lines → Option (List (List ℕ)) → List (List ℕ)
    all_of lines (Some ls) = ls
    all_of lines None = all_lines lines

pub stands_ended : (lines : Option Lines) (disk : Option Disk) → ForSome lines (λ ls. ls.ahead ≡ []) → Becomes (option_map (λ ls. (ls.done, ls.done)) lines) disk → StandsAs lines disk
stands_ended None disk end left = left
stands_ended (Some lines) None end left = absurd left
stands_ended (Some lines) (Some disk) end left = subst (λ ls. MayBecome ls ls disk) (sym (append-nil lines.done) ∙ ap (λ w. lines.done ++ w) (sym (end lines refl))) left

-- ---- a journal that is opened

module _ (heading : List ℕ) where
  -- what is behind the heading, or nothing where it isn't whole
  abbrev Found : List (List ℕ) → List (List ℕ) → Type 0
  Found lines epochs = (lines ≡ heading ∷ epochs) ⊎ ((lines ≡ []) × (epochs ≡ []))

  found_behind : (bytes : List ℕ) (lines epochs : List (List ℕ)) → epochs_behind heading bytes lines ≡ Some epochs → Found lines epochs
  found_behind bytes [] epochs is = inr (refl, none (starts_with nat_eq heading bytes) is)
    where
      none : (begins : Bool) → (if begins then Some [] else None) ≡ Some epochs → epochs ≡ []
      none true e = cc e
      none false e = absurd (cc e)
  found_behind bytes (line ∷ lines) epochs is = inl (same (bytes_eq line heading) (bytes_eq-Decides line heading).0 is)
    where
      same : (equal : Bool) → (equal ≡ true → line ≡ heading) → (if equal then Some lines else None) ≡ Some epochs → line ∷ lines ≡ heading ∷ epochs
      same true are e = let first = are refl in cc (first, e)
      same false are e = absurd (cc e)

  keeps_so : (told new : Disk) → IsInOrder told → (epochs : List (List ℕ)) → MayBecome (heading ∷ epochs) (heading ∷ epochs) new → Found (lines_of told.seen) epochs → Keeps heading told new
  keeps_so told new order epochs left found = ⊎_elim whole torn found
    where
      kept : IsPrefix (lines_of told.kept) (lines_of told.seen)
      kept = lines_of-prefix told.kept told.seen order.0

      whole : lines_of told.seen ≡ heading ∷ epochs → Keeps heading told new
      whole is = inl (λ bytes may. (
        prefix_trans (lines_of told.kept) (heading ∷ epochs) (lines_of bytes) (subst (IsPrefix (lines_of told.kept)) is kept) (left bytes may).0,
        prefix_trans (lines_of bytes) (heading ∷ epochs) (lines_of told.most) (left bytes may).1 (subst (λ ls. IsPrefix ls (lines_of told.most)) is (lines_of-prefix told.seen told.most order.1)),
      ))

      torn : (lines_of told.seen ≡ []) × (epochs ≡ []) → Keeps heading told new
      torn are = inr (λ bytes may. (
        prefix_trans (lines_of told.kept) [] (lines_of bytes) (subst (IsPrefix (lines_of told.kept)) are.0 kept) (lines_of bytes, refl),
        subst (λ es. IsPrefix (lines_of bytes) (heading ∷ es)) are.1 (left bytes may).1,
      ))

  pub keeps_opened : (told new : Option Disk) (lines : Option Lines) → IfSome told IsInOrder → IfSome told (λ disk. Opens heading disk.seen lines) → (told ≡ None → lines ≡ None)
      → StandsAs lines new → Leads (Keeps heading) told new
  keeps_opened None None lines order opens untold stands = tt
  keeps_opened None (Some new) lines order opens untold stands = absurd (subst (λ o. StandsAs o (Some new)) (untold refl) stands)
  keeps_opened (Some told) None lines order opens untold stands = absurd (subst (λ o. StandsAs o None) opens.2 stands)
  keeps_opened (Some told) (Some new) lines order opens untold stands =
      keeps_so told new order opens.0 (subst (λ o. StandsAs o (Some new)) opens.2 stands) (found_behind told.seen (lines_of told.seen) opens.0 opens.1)

  pub keeps_part : has_break heading ≡ false → (told new : Option Disk) → Leads (OpensInPart heading) told new → Leads (Keeps heading) told new
  keeps_part free None None part = tt
  keeps_part free None (Some new) part = absurd part
  keeps_part free (Some told) None part = absurd part
  keeps_part free (Some told) (Some new) part = ⊎_elim (λ less. inl (λ bytes may. (low bytes may, lines_of-prefix bytes told.most (prefix_trans bytes new.most told.most may.1 less))))
      (λ less. inr (λ bytes may. (low bytes may, subst (IsPrefix (lines_of bytes)) (lines_of-line heading [] free) (lines_of-prefix bytes (heading ++ 10 ∷ []) (prefix_trans bytes new.most (heading ++ 10 ∷ []) may.1 less)))))
      part.no_more
    where
      low : (bytes : List ℕ) → MayLeave new bytes → IsPrefix (lines_of told.kept) (lines_of bytes)
      low bytes may = lines_of-prefix told.kept bytes (prefix_trans told.kept new.kept bytes part.kept may.0)

  -- a line that is none of a journal is no torn heading
  pub keeps_lines : {Args Row : Type 0} (form : Data → Option Row) (grammar : Grammar Args) (partitions : ℕ) (told new : Option Disk) (lines : Option Lines) → IfSome told (λ disk. Opens heading disk.seen lines) → (told ≡ None → lines ≡ None)
      → StandsAs lines new → IfSome lines (λ ls. (fault : Fault) × (listed_in form grammar partitions ls.ahead ≡ Err fault)) → Leads HasItsLines told new
  keeps_lines form grammar partitions None None lines opens untold stands none = tt
  keeps_lines form grammar partitions None (Some new) lines opens untold stands none = absurd (subst (λ o. StandsAs o (Some new)) (untold refl) stands)
  keeps_lines form grammar partitions (Some told) None lines opens untold stands none = absurd (subst (λ o. StandsAs o None) opens.2 stands)
  keeps_lines form grammar partitions (Some told) (Some new) lines opens untold stands none =
      let left : MayBecome (heading ∷ opens.0) (heading ∷ opens.0) new = subst (λ o. StandsAs o (Some new)) opens.2 stands in
      let other : (fault : Fault) × (listed_in form grammar partitions opens.0 ≡ Err fault) = subst (λ (o : Option Lines). IfSome o (λ ls. (fault : Fault) × (listed_in form grammar partitions ls.ahead ≡ Err fault))) opens.2 none in
      ⊎_elim (λ whole. subst (λ ls. MayBecome ls ls new) (sym whole) left)
      (λ torn. absurd (cc (ap (listed_in form grammar partitions) (sym torn.1) ∙ other.1)))
      (found_behind told.seen (lines_of told.seen) opens.0 opens.1)

-- a log that is as it was found
pub as_found : (told new : Option Disk) → new ≡ option_map (λ disk. synced disk.seen) told → Leads HasItsLines told new
as_found None None is = tt
as_found None (Some new) is = absurd (cc is)
as_found (Some told) None is = absurd (cc is)
as_found (Some told) (Some new) is = subst (HasItsLines told) (sym (same is)) (λ bytes may. (lines_of-prefix told.seen bytes may.0, lines_of-prefix bytes told.seen may.1))
  where
    same : Some new ≡ Some (synced told.seen) → new ≡ synced told.seen
    same e = cc e
