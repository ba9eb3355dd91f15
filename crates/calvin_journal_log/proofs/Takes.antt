-- Beginnings of beginnings, and what is copied to the front of a buffer.
use Rattle.std.proofs.Common.{arith, ℕ, ◌≡◌, ◌+◌, ◌-◌, ◌≤◌, List, ◌++◌, [], length, length-take, take, drop, min, refl, Bool, true, false, append_assoc, take-append-drop, sym, ◌∙◌, ap, subst, append-nil, Result, Ok, Err, OnErr}
use Rattle.std.specs.Prelude.{nat_le}
use Rattle.std.proofs.lemmas.Bool.Decides.{nat_tests}
use Rattle.std.proofs.lemmas.List.{take_all, take-take, take-append-le, drop-take}
use mathlib.Core.List.{IsPrefix}
use Rattle.calvin_journal_log.specs.Beginnings.{take_begins}
use Rattle.calvin_journal_log.specs.Disks.{Disk, Appended, AppendedInPart}

least_by : (m n : ℕ) (xs : List ℕ) (b : Bool) → nat_le m n ≡ b → take n (take m xs) ≡ take (min m n) xs
least_by m n xs true is =
    let le : m ≤ n = grind (arith, nat_tests) in
    let e : min m n ≡ m = omega (arith, le) in
    take_all n (take m xs) (omega (arith, le, length-take m xs)) ∙ ap (λ k. take k xs) (sym e)
least_by m n xs false is =
    let le : n ≤ m = grind (arith, nat_tests) in
    let e : min m n ≡ n = omega (arith, le) in
    take-take n m xs le ∙ ap (λ k. take k xs) (sym e)

-- the lesser of two beginnings
pub take_least : (m n : ℕ) (xs : List ℕ) → take n (take m xs) ≡ take (min m n) xs
take_least m n xs = least_by m n xs (nat_le m n) refl

pub begins_itself : (xs : List ℕ) → IsPrefix xs xs
begins_itself xs = ([], append-nil xs)

-- a beginning of a longer beginning
pub begins_by : (m n : ℕ) (xs : List ℕ) → m ≤ n → IsPrefix (take m xs) (take n xs)
begins_by m n xs le = subst (λ w. IsPrefix w (take n xs)) (take-take m n xs le) (take_begins m (take n xs))

-- what stands between two places, from the first on
pub between : (at size : ℕ) (xs : List ℕ) → at ≤ size → drop at (take size xs) ≡ take (size - at) (drop at xs)
between at size xs le =
    let e : size ≡ at + (size - at) = omega (arith, le) in
    ap (λ k. drop at (take k xs)) e ∙ drop-take at (size - at) xs

-- ---- what an append makes of a log in memory

abbrev pub disk : List ℕ → List ℕ → List ℕ → Disk
disk kept seen most = record { kept = kept; seen = seen; most = most }

disk_same : (a a' b b' c c' : List ℕ) → a ≡ a' → b ≡ b' → c ≡ c' → disk a b c ≡ disk a' b' c'
disk_same a a' b b' c c' p q r = ap (λ w. disk w b c) p ∙ ap (λ w. disk a' w c) q ∙ ap (λ w. disk a' b' w) r

module _ (old new bytes : List ℕ) (synced size size' : ℕ) (all : size ≡ length old) (within : synced ≤ size) (all' : size' ≡ length new) where
  old_all : take size old ≡ old
  old_all = take_all size old (omega (arith, all))

  new_all : take size' new ≡ new
  new_all = take_all size' new (omega (arith, all'))

  pub appended : new ≡ old ++ bytes → Appended bytes (disk (take synced old) (take size old) old) (disk (take synced new) (take size' new) new)
  appended is =
      disk_same _ _ _ _ _ _ (ap (take synced) is ∙ take-append-le synced old bytes (omega (arith, all, within)))
      (new_all ∙ is ∙ ap (λ w. w ++ bytes) (sym old_all)) (is ∙ ap (λ w. w ++ bytes) (sym old_all))

  pub appended_in_part : (k synced' : ℕ) → synced' ≡ synced → new ≡ old ++ take k bytes → AppendedInPart bytes (disk (take synced old) (take size old) old) (disk (take synced' new) (take size' new) new)
  appended_in_part k synced' same is =
      record {
        kept = ap (λ n. take n new) same ∙ ap (take synced) is ∙ take-append-le synced old (take k bytes) (omega (arith, all, within));
        seen = (take k bytes, ap (λ w. w ++ take k bytes) old_all ∙ sym is ∙ sym new_all);
        no_more = (drop k bytes, ap (λ w. w ++ drop k bytes) is ∙ append_assoc old (take k bytes) (drop k bytes) ∙ ap (λ w. old ++ w) (take-append-drop k bytes) ∙ ap (λ w. w ++ bytes) (sym old_all));
      }

-- of a log of which nothing was cut off since the last sync all bytes stand there
pub settled_size : (size : ℕ) (xs : List ℕ) → size ≤ length xs → xs ≡ take size xs → size ≡ length xs
settled_size size xs fits is = let e = ap length is in omega (arith, fits, e, length-take size xs)

-- a beginning of what was copied to the front
pub front : (n : ℕ) (copied rest from : List ℕ) → n ≤ length copied → copied ≡ take n from → take n (copied ++ rest) ≡ take n from
front n copied rest from le is = take-append-le n copied rest le ∙ ap (take n) is ∙ take-take n n from (omega arith)

pub on_err : {T E : Type 0} (r : Result T E) (X : Type 0) → X → OnErr r X
on_err (Ok value) X x = tt
on_err (Err fault) X x = x
