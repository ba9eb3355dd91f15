-- A log that is read block by block and handed out line by line.
use Rattle.std.proofs.Common.{arith, ℕ, suc, zero, ◌+◌, ◌≤◌, ◌<◌, ◌≡◌, List, [], ◌∷◌, ◌++◌, refl, sym, ◌∙◌, ap, subst, Bool, true, false, ◌==◌, if◌then◌else◌, length, take, drop, append_assoc, length-append, length-drop, length-take, slice_index, Option, Some, None, IfSome}
use Rattle.std.proofs.Math.Seq.{take-append_seam, drop-append-add, split_at, take-add}
use Rattle.std.proofs.lemmas.List.{take_all, drop-drop, take-append-drop, length-take-le}
use Rattle.std.proofs.lemmas.Bool.Decides.{nat_tests}
use Rattle.std.specs.Option.{ForSome}
use Rattle.calvin_journal_log.specs.Disks.{Disk}
use Rattle.calvin_journal.specs.Lines.{has_break}
use Rattle.calvin_journal.specs.Readings.{IsRead, BeginsWith, Hands, part_at}
use Rattle.calvin_journal.proofs.Options.{if_some}

-- ---- line feeds

no_first : (b : ℕ) → ((b == 10) ≡ true → ⊥) → (b == 10) ≡ false
no_first b not = grind (arith, nat_tests)

-- where no byte before a place is a line feed
pub no_break_before : (bytes : List ℕ) (k : ℕ) → ((j : ℕ) → j < k → (slice_index bytes j == 10) ≡ true → ⊥) → has_break (take k bytes) ≡ false
no_break_before bytes zero none = refl
no_break_before [] (suc k) none = refl
no_break_before (b ∷ bs) (suc k) none = rw (no_first b (none 0 (omega arith))) (no_break_before bs k (λ j lt. none (suc j) (omega arith)))

pub no_break_in : (bytes : List ℕ) → ((j : ℕ) → j < length bytes → (slice_index bytes j == 10) ≡ true → ⊥) → has_break bytes ≡ false
no_break_in bytes none = ap has_break (sym (take_all (length bytes) bytes (omega arith))) ∙ no_break_before bytes (length bytes) none

-- the bytes, cut at a line feed
pub cut_at : (bytes : List ℕ) (k : ℕ) → k < length bytes → (slice_index bytes k == 10) ≡ true → bytes ≡ take k bytes ++ 10 ∷ drop (k + 1) bytes
cut_at bytes k lt is =
    let ten : slice_index bytes k ≡ 10 = grind (arith, nat_tests) in
    let next : suc k ≡ k + 1 = omega arith in
    split_at bytes k 0 lt ∙ ap (λ n. take k bytes ++ n ∷ drop (suc k) bytes) ten ∙ ap (λ n. take k bytes ++ 10 ∷ drop n bytes) next

-- ---- a line is handed out

module _ (done : ℕ) (found line rest seen : List ℕ) (front : take (length found) (drop done seen) ≡ found) (is : found ≡ line ++ 10 ∷ rest) where
  abbrev ahead : List ℕ
  ahead = drop (length found) (drop done seen)

  whole : drop done seen ≡ line ++ 10 ∷ (rest ++ ahead)
  whole = sym (take-append-drop (length found) (drop done seen)) ∙ ap (λ w. w ++ ahead) (front ∙ is) ∙ append_assoc line (10 ∷ rest) ahead

  behind : drop (done + (length line + 1)) seen ≡ rest ++ ahead
  behind = sym (drop-drop (length line + 1) done seen) ∙ ap (drop (length line + 1)) whole ∙ drop-append-add line (10 ∷ (rest ++ ahead)) 1

  pub still_read : take (length rest) (drop (done + (length line + 1)) seen) ≡ rest
  still_read = ap (take (length rest)) behind ∙ take-append_seam rest ahead

  pub handed_ahead : drop done seen ≡ line ++ 10 ∷ drop (done + (length line + 1)) seen
  handed_ahead = whole ∙ ap (λ w. line ++ 10 ∷ w) (sym behind)

  pub handed_done : take (done + (length line + 1)) seen ≡ take done seen ++ (line ++ 10 ∷ [])
  handed_done =
      take-add done (length line + 1) seen ∙ ap (λ w. take done seen ++ take (length line + 1) w) (whole ∙ sym (append_assoc line (10 ∷ []) (rest ++ ahead)))
      ∙ ap (λ n. take done seen ++ take n ((line ++ 10 ∷ []) ++ (rest ++ ahead))) (sym (length-append line (10 ∷ []))) ∙ ap (λ w. take done seen ++ w) (take-append_seam (line ++ 10 ∷ []) (rest ++ ahead))

  pub handed_within : done ≤ length seen → done + (length line + 1) ≤ length seen
  handed_within within =
      let long = ap length whole ∙ length-append line (10 ∷ (rest ++ ahead)) in
      omega (arith, within, long, length-drop done seen)

-- ---- a block is read

module _ (done : ℕ) (found block seen : List ℕ) (n : ℕ) (front : take (length found) (drop done seen) ≡ found) where
  pub more_read : n ≤ length block → take n block ≡ take n (drop (done + length found) seen) → take (length (found ++ take n block)) (drop done seen) ≡ found ++ take n block
  more_read fits is =
      ap (λ k. take k (drop done seen)) (length-append found (take n block) ∙ ap (λ k. length found + k) (length-take-le n block fits))
      ∙ take-add (length found) n (drop done seen) ∙ ap (λ w. w ++ take n (drop (length found) (drop done seen))) front
      ∙ ap (λ w. found ++ take n w) (drop-drop (length found) done seen) ∙ ap (λ w. found ++ w) (sym is)

  pub all_read : length seen ≤ done + length found → found ≡ drop done seen
  all_read end = sym front ∙ take_all (length found) (drop done seen) (omega (arith, end, length-drop done seen))

-- ---- the same of what a log tells

-- what was read begins with a whole line
module _ (done start size : ℕ) (read line : List ℕ) (begins : BeginsWith line (drop start read)) (is : size ≡ length line + 1) where
  behind_line : drop (start + size) read ≡ begins.0
  behind_line = sym (drop-drop size start read) ∙ ap (drop size) begins.1 ∙ ap (λ k. drop k (line ++ 10 ∷ begins.0)) is ∙ drop-append-add line (10 ∷ begins.0) 1

  pub line_fits : start + size ≤ length read
  line_fits = let long = ap length begins.1 ∙ length-append line (10 ∷ begins.0) in omega (arith, is, long, length-drop start read)

  pub line_read : (told : Option Disk) → ForSome told (IsRead done (drop start read)) → ForSome told (IsRead (done + size) (drop (start + size) read))
  line_read told held = λ disk e.
      let h = held disk e in
      subst (λ w. IsRead (done + size) w disk) (sym behind_line) (
        h.0,
        subst (λ n. done + n ≤ length disk.seen) (sym is) (handed_within done (drop start read) line begins.0 disk.seen h.2 begins.1 h.1),
        subst (λ n. take (length begins.0) (drop (done + n) disk.seen) ≡ begins.0) (sym is) (still_read done (drop start read) line begins.0 disk.seen h.2 begins.1),
      )

-- so does what stands ahead
pub line_ahead : (told : Option Disk) (done : ℕ) (found line : List ℕ) → ForSome told (IsRead done found) → BeginsWith line found → IfSome told (λ disk. BeginsWith line (drop done disk.seen))
line_ahead None done found line held begins = tt
line_ahead (Some disk) done found line held begins =
    (begins.0 ++ drop (length found) (drop done disk.seen), whole done found line begins.0 disk.seen (held disk refl).2 begins.1)

-- the line was handed out
pub line_handed : (told : Option Disk) (done : ℕ) (found line rest : List ℕ) → ForSome told (IsRead done found) → found ≡ line ++ 10 ∷ rest
    → (done' : ℕ) → done' ≡ done + length line + 1 → IfSome told (λ disk. Hands line (part_at done disk) (part_at done' disk))
line_handed None done found line rest held is done' next = tt
line_handed (Some disk) done found line rest held is done' next =
    let h = held disk refl in
    let e : done + (length line + 1) ≡ done' = omega (arith, next) in
    subst (λ n. Hands line (part_at done disk) (part_at n disk)) e
    (record { ahead = handed_ahead done found line rest disk.seen h.2 is; done = handed_done done found line rest disk.seen h.2 is })

-- found bytes, and then those of a block if there was room for them
pub read_more : (told : Option Disk) (done : ℕ) (found : List ℕ) → ForSome told (IsRead done found)
    → (place : ℕ) → place ≡ done + length found → (block : List ℕ) (n : ℕ) → n ≤ length block → IfSome told (λ disk. take n block ≡ take n (drop place disk.seen))
    → (r : Bool) (new : List ℕ) → new ≡ (if r then found ++ take n block else found) → ForSome told (IsRead done new)
read_more told done found held place at block n fits bytes true new is = λ disk e.
    let h = held disk e in
    let piece : take n block ≡ take n (drop (done + length found) disk.seen) = if_some told (λ d. take n block ≡ take n (drop place d.seen)) disk bytes e ∙ ap (λ k. take n (drop k disk.seen)) at in
    (h.0, h.1, ap (λ w. take (length w) (drop done disk.seen)) is ∙ more_read done found block disk.seen n h.2 fits piece ∙ sym is)
read_more told done found held place at block n fits bytes false new is = λ disk e.
    let h = held disk e in
    (h.0, h.1, ap (λ w. take (length w) (drop done disk.seen)) is ∙ h.2 ∙ sym is)

-- there was no more
pub read_whole : (told : Option Disk) (done : ℕ) (found : List ℕ) → ForSome told (IsRead done found)
    → (place : ℕ) → place ≡ done + length found → IfSome told (λ disk. length disk.seen ≤ place) → (new : List ℕ) → new ≡ found → IfSome told (λ disk. new ≡ drop done disk.seen)
read_whole None done found held place at end new is = tt
read_whole (Some disk) done found held place at end new is =
    let h = held disk refl in
    is ∙ all_read done found [] disk.seen 0 h.2 (omega (arith, at, end))

-- no more than was found and read
pub no_longer : (found block : List ℕ) (n : ℕ) (r : Bool) (new : List ℕ) → new ≡ (if r then found ++ take n block else found) → length new ≤ length found + n
no_longer found block n true new is = let e = ap length is in omega (arith, e, length-append found (take n block), length-take n block)
no_longer found block n false new is = let e = ap length is in omega (arith, e)
