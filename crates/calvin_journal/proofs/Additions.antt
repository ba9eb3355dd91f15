-- What a crash leaves of a journal that is added to, closed or opened, and the lines that are handed out.
use Rattle.std.proofs.Common.{ℕ, ◌≡◌, List, [], ◌∷◌, ◌++◌, refl, sym, ◌∙◌, ap, subst, Bool, true, false, take, drop, append-nil, Option, Some, None, option_map, IfSome, Result, Ok, Err, IfOk, OnErr, inl, inr, ⊎_elim, take-append-drop}
use Rattle.std.specs.Option.{ForSome}
use mathlib.Core.List.{IsPrefix}
use Rattle.calvin_journal_log.specs.Disks.{Disk, IsInOrder, Leads, Synced}
use Rattle.calvin_journal.specs.Lines.{has_break, lines_of, text}
use Rattle.calvin_journal.specs.Journals.{synced, MayBecome, Becomes, AddedAll, AddedInPart, ClosedInPart, OpensInPart}
use Rattle.calvin_journal.specs.Readings.{IsRead, BeginsWith, Hands, HandsOut, part_at, lines_at}
use Rattle.calvin_journal.proofs.Splits.{AreLines, prefix_same, text_begins, lines_of-line, lines_of-none, lines_of-text, lines_of-text_alone, lines_of-prefix, lines_of-are, are-append, text-append, prefix_trans}

-- ---- after each crash

-- every crash leaves the text of the answered lines, and a beginning of bytes whose lines were taken
pub may_become : (answered taken : List (List ℕ)) (bytes : List ℕ) (disk : Disk) → AreLines answered → IsPrefix (text answered) disk.kept → IsPrefix disk.most bytes → lines_of bytes ≡ taken → MayBecome answered taken disk
may_become answered taken bytes disk are low high is = λ left may.
    let below : IsPrefix (text answered) left = prefix_trans (text answered) disk.kept left low may.0 in
    let above : IsPrefix left bytes = prefix_trans left disk.most bytes may.1 high in (
      subst (λ ls. IsPrefix ls (lines_of left)) (lines_of-text_alone answered are) (lines_of-prefix (text answered) left below),
      subst (λ ls. IsPrefix (lines_of left) ls) is (lines_of-prefix left bytes above),
    )

abbrev pub IsText : Disk → Type 0
IsText disk = disk ≡ synced (text (lines_of disk.seen))

module _ (line : List ℕ) (free : has_break line ≡ false) where
  longer : (disk : Disk) → IsText disk → disk.seen ++ (line ++ 10 ∷ []) ≡ text (lines_of disk.seen ++ line ∷ [])
  longer disk is = ap (λ d. d.seen ++ (line ++ 10 ∷ [])) is ∙ sym (text-append (lines_of disk.seen) (line ∷ []))

  are_longer : (disk : Disk) → AreLines (lines_of disk.seen ++ line ∷ [])
  are_longer disk = are-append (lines_of disk.seen) (line ∷ []) (lines_of-are disk.seen) (free, tt)

  added_lines : (old new : Disk) → IsText old → AddedAll (line ++ 10 ∷ []) old new → lines_of new.seen ≡ lines_of old.seen ++ line ∷ []
  added_lines old new is all = ap (λ d. lines_of d.seen) all ∙ ap lines_of (longer old is) ∙ lines_of-text_alone (lines_of old.seen ++ line ∷ []) (are_longer old)

  pub added_text : (told new : Option Disk) → IfSome told IsText → Leads (AddedAll (line ++ 10 ∷ [])) told new → IfSome new IsText
  added_text None None is leads = tt
  added_text None (Some new) is leads = absurd leads
  added_text (Some old) None is leads = absurd leads
  added_text (Some old) (Some new) is leads = leads ∙ ap synced (longer old is) ∙ ap (λ ls. synced (text ls)) (sym (added_lines old new is leads))

  pub added_view : (told new : Option Disk) → IfSome told IsText → Leads (AddedAll (line ++ 10 ∷ [])) told new
      → option_map (λ (d : Disk). lines_of d.seen) new ≡ option_map (λ (ls : List (List ℕ)). ls ++ line ∷ []) (option_map (λ (d : Disk). lines_of d.seen) told)
  added_view None None is leads = refl
  added_view None (Some new) is leads = absurd leads
  added_view (Some old) None is leads = absurd leads
  added_view (Some old) (Some new) is leads = ap Some (added_lines old new is leads)

  abbrev bounds : List (List ℕ) → List (List ℕ) × List (List ℕ)
  bounds ls = (ls, ls ++ line ∷ [])

  by_bounds : (old new : Disk) → IsText old → IsPrefix old.kept new.kept → IsPrefix new.most (old.seen ++ (line ++ 10 ∷ [])) → MayBecome (lines_of old.seen) (lines_of old.seen ++ line ∷ []) new
  by_bounds old new is low high =
      may_become (lines_of old.seen) (lines_of old.seen ++ line ∷ []) (old.seen ++ (line ++ 10 ∷ [])) new (lines_of-are old.seen)
      (subst (λ bytes. IsPrefix bytes new.kept) (ap (λ d. d.kept) is) low) high (ap lines_of (longer old is) ∙ lines_of-text_alone (lines_of old.seen ++ line ∷ []) (are_longer old))

  pub added_in_part : (told new : Option Disk) → IfSome told IsText → Leads (AddedInPart (line ++ 10 ∷ [])) told new → Becomes (option_map bounds (option_map (λ (d : Disk). lines_of d.seen) told)) new
  added_in_part None None is leads = tt
  added_in_part None (Some new) is leads = absurd leads
  added_in_part (Some old) None is leads = absurd leads
  added_in_part (Some old) (Some new) is leads = by_bounds old new is leads.kept leads.no_more

  pub untouched : (told : Option Disk) → IfSome told IsText → Becomes (option_map bounds (option_map (λ (d : Disk). lines_of d.seen) told)) told
  untouched None is = tt
  untouched (Some old) is = by_bounds old old is ([], append-nil old.kept) (line ++ 10 ∷ [], ap (λ d. d.most ++ (line ++ 10 ∷ [])) is ∙ ap (λ d. d.seen ++ (line ++ 10 ∷ [])) (sym is))

pub stands_so : (told : Option Disk) → IfSome told IsText → Becomes (option_map (λ (ls : List (List ℕ)). (ls, ls)) (option_map (λ (d : Disk). lines_of d.seen) told)) told
stands_so None is = tt
stands_so (Some disk) is =
    may_become (lines_of disk.seen) (lines_of disk.seen) disk.seen disk (lines_of-are disk.seen) (prefix_same (text (lines_of disk.seen)) disk.kept (sym (ap (λ d. d.kept) is)))
    (prefix_same disk.most disk.seen (ap (λ d. d.most) is ∙ sym (ap (λ d. d.seen) is))) refl

-- ---- a journal is closed behind the lines that were handed out

abbrev pub IsWhole : ℕ → Disk → Type 0
IsWhole size disk = take size disk.seen ≡ text (lines_of (take size disk.seen))

pub closed_in_part : (told new : Option Disk) (size : ℕ) (read : List ℕ) → ForSome told (IsRead size read) → IfSome told (IsWhole size)
    → ForSome (option_map (λ d. lines_at (part_at size d)) told) (λ lines. lines.ahead ≡ []) → Leads (ClosedInPart size) told new
    → Becomes (option_map (λ lines. (lines.done, lines.done)) (option_map (λ d. lines_at (part_at size d)) told)) new
closed_in_part None None size read held is end leads = tt
closed_in_part None (Some new) size read held is end leads = absurd leads
closed_in_part (Some old) None size read held is end leads = absurd leads
closed_in_part (Some old) (Some new) size read held is end leads =
    let lines = lines_of (take size old.seen) in
    let all : lines_of old.seen ≡ lines =
    ap lines_of (sym (take-append-drop size old.seen) ∙ ap (λ w. w ++ drop size old.seen) is) ∙ lines_of-text lines (drop size old.seen) (lines_of-are (take size old.seen))
    ∙ ap (λ ls. lines ++ ls) (end (lines_at (part_at size old)) refl) ∙ append-nil lines in
    may_become lines lines old.seen new (lines_of-are (take size old.seen)) (subst (λ bytes. IsPrefix bytes new.kept) is leads.kept) leads.no_more all

-- a journal that is read no further
pub left_open : (told : Option Disk) (size : ℕ) (read : List ℕ) → ForSome told (IsRead size read) → IfSome told (IsWhole size)
    → Becomes (option_map (λ lines. (lines.done ++ lines.ahead, lines.done ++ lines.ahead)) (option_map (λ d. lines_at (part_at size d)) told)) told
left_open None size read held is = tt
left_open (Some disk) size read held is =
    let still = (held disk refl).0 in
    let done = lines_of (take size disk.seen) in
    let all : lines_of disk.seen ≡ done ++ lines_of (drop size disk.seen) =
    ap lines_of (sym (take-append-drop size disk.seen) ∙ ap (λ w. w ++ drop size disk.seen) is) ∙ lines_of-text done (drop size disk.seen) (lines_of-are (take size disk.seen)) in
    subst (λ ls. MayBecome ls ls disk) all
    (may_become (lines_of disk.seen) (lines_of disk.seen) disk.seen disk (lines_of-are disk.seen) (subst (IsPrefix (text (lines_of disk.seen))) (sym still.0) (text_begins disk.seen)) (prefix_same disk.most disk.seen still.1) refl)

-- ---- a journal that was synced is opened

pub opened_in_part : (heading : List ℕ) (told still new : Option Disk) → IfSome told IsInOrder → Leads Synced told still → Leads (OpensInPart heading) still new → Leads (OpensInPart heading) told new
opened_in_part heading None None None order p q = tt
opened_in_part heading None None (Some new) order p q = absurd q
opened_in_part heading None (Some still) new order p q = absurd p
opened_in_part heading (Some told) None new order p q = absurd p
opened_in_part heading (Some told) (Some still) None order p q = absurd q
opened_in_part heading (Some told) (Some still) (Some new) order p q =
    record {
      kept = prefix_trans told.kept told.seen new.kept order.0 (subst (λ (d : Disk). IsPrefix d.kept new.kept) p q.kept);
      no_more = ⊎_elim (λ less. inl (prefix_trans new.most told.seen told.most (subst (λ (d : Disk). IsPrefix new.most d.most) p less) order.1)) (λ less. inr less) q.no_more;
    }

-- ---- lines are handed out

module _ (line : List ℕ) (free : has_break line ≡ false) (done done' : ℕ) (disk : Disk) (whole : IsWhole done disk) (h : Hands line (part_at done disk) (part_at done' disk)) where
  next_text : take done' disk.seen ≡ text (lines_of (take done disk.seen) ++ line ∷ [])
  next_text = h.done ∙ ap (λ w. w ++ (line ++ 10 ∷ [])) whole ∙ sym (text-append (lines_of (take done disk.seen)) (line ∷ []))

  next_are : AreLines (lines_of (take done disk.seen) ++ line ∷ [])
  next_are = are-append (lines_of (take done disk.seen)) (line ∷ []) (lines_of-are (take done disk.seen)) (free, tt)

  pub next_done : lines_of (take done' disk.seen) ≡ lines_of (take done disk.seen) ++ line ∷ []
  next_done = ap lines_of next_text ∙ lines_of-text_alone (lines_of (take done disk.seen) ++ line ∷ []) next_are

  pub next_whole : IsWhole done' disk
  next_whole = next_text ∙ ap text (sym next_done)

  pub next_ahead : lines_of (drop done disk.seen) ≡ line ∷ lines_of (drop done' disk.seen)
  next_ahead = ap lines_of h.ahead ∙ lines_of-line line (drop done' disk.seen) free

module _ {E : Type 0} (line : List ℕ) (done done' : ℕ) where
  pub still_whole : (told : Option Disk) (r : Result Bool E) → IfSome told (IsWhole done)
      → IfOk r (λ more. more ≡ true → IfSome told (λ disk. Hands line (part_at done disk) (part_at done' disk))) → IfOk r (λ more. more ≡ true → has_break line ≡ false)
      → IfOk r (λ more. more ≡ false → done' ≡ done) → OnErr r (done' ≡ done) → IfSome told (IsWhole done')
  still_whole None r whole handed free stays err = tt
  still_whole (Some disk) (Ok true) whole handed free stays err = next_whole line (free refl) done done' disk whole (handed refl)
  still_whole (Some disk) (Ok false) whole handed free stays err = subst (λ n. IsWhole n disk) (sym (stays refl)) whole
  still_whole (Some disk) (Err e) whole handed free stays err = subst (λ n. IsWhole n disk) (sym err) whole

  pub handed_line : (told : Option Disk) (r : Result Bool E) → IfSome told (IsWhole done)
      → IfOk r (λ more. more ≡ true → IfSome told (λ disk. Hands line (part_at done disk) (part_at done' disk))) → IfOk r (λ more. more ≡ true → has_break line ≡ false)
      → IfOk r (λ more. more ≡ true → HandsOut line (option_map (λ d. lines_at (part_at done d)) told) (option_map (λ d. lines_at (part_at done' d)) told))
  handed_line None (Ok more) whole handed free = λ is. tt
  handed_line told (Err e) whole handed free = tt
  handed_line (Some disk) (Ok more) whole handed free = λ is. (next_ahead line (free is) done done' disk whole (handed is), next_done line (free is) done done' disk whole (handed is))

  pub no_line_ahead : (told : Option Disk) (r : Result Bool E) (rest : List ℕ) → IfOk r (λ more. more ≡ false → IfSome told (λ disk. rest ≡ drop done disk.seen)) → IfOk r (λ more. more ≡ false → has_break rest ≡ false)
      → IfOk r (λ more. more ≡ false → IfSome (option_map (λ d. lines_at (part_at done d)) told) (λ old. old.ahead ≡ []))
  no_line_ahead None (Ok more) rest all free = λ is. tt
  no_line_ahead told (Err e) rest all free = tt
  no_line_ahead (Some disk) (Ok more) rest all free = λ is. ap lines_of (sym (all is)) ∙ lines_of-none rest (free is)

-- a line is ahead, and stays there
pub peeked_line : {E : Type 0} (line : List ℕ) (done : ℕ) (told : Option Disk) (r : Result Bool E) → IfOk r (λ more. more ≡ true → IfSome told (λ disk. BeginsWith line (drop done disk.seen)))
    → IfOk r (λ more. more ≡ true → has_break line ≡ false)
    → IfOk r (λ more. more ≡ true → IfSome (option_map (λ d. lines_at (part_at done d)) told) (λ lines. (rest : List (List ℕ)) × (lines.ahead ≡ line ∷ rest)))
peeked_line line done None (Ok more) begins free = λ is. tt
peeked_line line done told (Err e) begins free = tt
peeked_line line done (Some disk) (Ok more) begins free = λ is. (lines_of (begins is).0, ap lines_of (begins is).1 ∙ lines_of-line line (begins is).0 (free is))
