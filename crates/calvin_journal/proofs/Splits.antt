-- Lines of texts, and of beginnings of texts.
use Rattle.std.proofs.Common.{arith, ℕ, ◌≡◌, List, [], ◌∷◌, ◌++◌, refl, sym, ◌∙◌, ap, subst, Bool, true, false, ◌==◌, ◌||◌, if◌then◌else◌, append_assoc, append-nil}
use Rattle.std.proofs.lemmas.Bool.Decides.{nat_tests}
use mathlib.Core.List.{IsPrefix}
use Rattle.calvin_journal.specs.Lines.{has_break, in_front, lines_of, text}

-- no line has a line feed in it
abbrev pub AreLines : List (List ℕ) → Type 0
AreLines [] = Unit {0}
AreLines (line ∷ lines) = (has_break line ≡ false) × AreLines lines

or_left : (a b : Bool) → (a || b) ≡ false → a ≡ false
or_left true b is = is
or_left false b is = refl

or_right : (a b : Bool) → (a || b) ≡ false → b ≡ false
or_right true b is = absurd (cc is)
or_right false b is = is

-- ---- beginnings

pub prefix_same : {A : Type 0} (xs ys : List A) → xs ≡ ys → IsPrefix xs ys
prefix_same xs ys e = ([], append-nil xs ∙ e)

pub prefix_trans : {A : Type 0} (xs ys zs : List A) → IsPrefix xs ys → IsPrefix ys zs → IsPrefix xs zs
prefix_trans xs ys zs p q = (p.0 ++ q.0, sym (append_assoc xs p.0 q.0) ∙ ap (λ w. w ++ q.0) p.1 ∙ q.1)

pub prefix_cons : {A : Type 0} (x : A) (xs ys : List A) → IsPrefix xs ys → IsPrefix (x ∷ xs) (x ∷ ys)
prefix_cons x xs ys p = (p.0, ap (λ w. x ∷ w) p.1)

prefix_if : {A : Type 0} (is : Bool) (xs ys zs ws : List A) → IsPrefix xs ys → IsPrefix zs ws → IsPrefix (if is then xs else zs) (if is then ys else ws)
prefix_if true xs ys zs ws p q = p
prefix_if false xs ys zs ws p q = q

in_front-prefix : (b : ℕ) (xs ys : List (List ℕ)) → IsPrefix xs ys → IsPrefix (in_front b xs) (in_front b ys)
in_front-prefix b [] ys p = (in_front b ys, refl)
in_front-prefix b (x ∷ xs) ys p = (p.0, ap (in_front b) p.1)

-- ---- lines

-- the first line ends at the first line feed
pub lines_of-line : (line rest : List ℕ) → has_break line ≡ false → lines_of (line ++ 10 ∷ rest) ≡ line ∷ lines_of rest
lines_of-line [] rest free = refl
lines_of-line (b ∷ bs) rest free = rw (or_left (b == 10) (has_break bs) free) (ap (in_front b) (lines_of-line bs rest (or_right (b == 10) (has_break bs) free)))

pub lines_of-none : (bytes : List ℕ) → has_break bytes ≡ false → lines_of bytes ≡ []
lines_of-none [] free = refl
lines_of-none (b ∷ bs) free = rw (or_left (b == 10) (has_break bs) free) (ap (in_front b) (lines_of-none bs (or_right (b == 10) (has_break bs) free)))

pub lines_of-text : (ls : List (List ℕ)) (rest : List ℕ) → AreLines ls → lines_of (text ls ++ rest) ≡ ls ++ lines_of rest
lines_of-text [] rest are = refl
lines_of-text (l ∷ ls) rest are =
    ap lines_of (append_assoc l (10 ∷ text ls) rest) ∙ lines_of-line l (text ls ++ rest) are.0 ∙ ap (λ x. l ∷ x) (lines_of-text ls rest are.1)

pub lines_of-text_alone : (ls : List (List ℕ)) → AreLines ls → lines_of (text ls) ≡ ls
lines_of-text_alone ls are = ap lines_of (sym (append-nil (text ls))) ∙ lines_of-text ls [] are ∙ append-nil ls

pub lines_of-append : (c r : List ℕ) → IsPrefix (lines_of c) (lines_of (c ++ r))
lines_of-append [] r = (lines_of r, refl)
lines_of-append (b ∷ bs) r =
    prefix_if (b == 10) ([] ∷ lines_of bs) ([] ∷ lines_of (bs ++ r)) (in_front b (lines_of bs)) (in_front b (lines_of (bs ++ r)))
    (prefix_cons [] (lines_of bs) (lines_of (bs ++ r)) (lines_of-append bs r)) (in_front-prefix b (lines_of bs) (lines_of (bs ++ r)) (lines_of-append bs r))

-- a beginning of bytes has a beginning of the lines
pub lines_of-prefix : (c d : List ℕ) → IsPrefix c d → IsPrefix (lines_of c) (lines_of d)
lines_of-prefix c d p = subst (λ w. IsPrefix (lines_of c) (lines_of w)) p.1 (lines_of-append c p.0)

free_cons : (b : ℕ) (bs : List ℕ) → (b == 10) ≡ false → has_break bs ≡ false → has_break (b ∷ bs) ≡ false
free_cons b bs is free = rw is free

in_front-are : (b : ℕ) (ls : List (List ℕ)) → (b == 10) ≡ false → AreLines ls → AreLines (in_front b ls)
in_front-are b [] is are = tt
in_front-are b (l ∷ ls) is are = (free_cons b l is are.0, are.1)

are_if : (is : Bool) (xs zs : List (List ℕ)) → AreLines xs → (is ≡ false → AreLines zs) → AreLines (if is then xs else zs)
are_if true xs zs p q = p
are_if false xs zs p q = q refl

pub lines_of-are : (bytes : List ℕ) → AreLines (lines_of bytes)
lines_of-are [] = tt
lines_of-are (b ∷ bs) = are_if (b == 10) ([] ∷ lines_of bs) (in_front b (lines_of bs)) (refl, lines_of-are bs) (λ is. in_front-are b (lines_of bs) is (lines_of-are bs))

pub are-append : (a b : List (List ℕ)) → AreLines a → AreLines b → AreLines (a ++ b)
are-append [] b p q = q
are-append (l ∷ ls) b p q = (p.0, are-append ls b p.1 q)

pub text-append : (a b : List (List ℕ)) → text (a ++ b) ≡ text a ++ text b
text-append [] b = refl
text-append (l ∷ ls) b = ap (λ w. l ++ 10 ∷ w) (text-append ls b) ∙ sym (append_assoc l (10 ∷ text ls) (text b))

-- a text is that of its lines again
pub text_again : (ls : List (List ℕ)) → AreLines ls → text (lines_of (text ls)) ≡ text ls
text_again ls are = ap text (lines_of-text_alone ls are)

in_front-begins : (b : ℕ) (ls : List (List ℕ)) (bs : List ℕ) → IsPrefix (text ls) bs → IsPrefix (text (in_front b ls)) (b ∷ bs)
in_front-begins b [] bs p = (b ∷ bs, refl)
in_front-begins b (l ∷ ls) bs p = (p.0, ap (λ w. b ∷ w) p.1)

begins_if : (is : Bool) (xs zs : List (List ℕ)) (ys : List ℕ) → (is ≡ true → IsPrefix (text xs) ys) → IsPrefix (text zs) ys → IsPrefix (text (if is then xs else zs)) ys
begins_if true xs zs ys p q = p refl
begins_if false xs zs ys p q = q

-- bytes begin with the text of their lines
pub text_begins : (bytes : List ℕ) → IsPrefix (text (lines_of bytes)) bytes
text_begins [] = ([], refl)
text_begins (b ∷ bs) =
    begins_if (b == 10) ([] ∷ lines_of bs) (in_front b (lines_of bs)) (b ∷ bs)
    (λ is. subst (λ n. IsPrefix (10 ∷ text (lines_of bs)) (n ∷ bs)) (sym (ten b is)) (prefix_cons 10 (text (lines_of bs)) bs (text_begins bs)))
    (in_front-begins b (lines_of bs) bs (text_begins bs))
  where
    ten : (b : ℕ) → (b == 10) ≡ true → b ≡ 10
    ten b is = grind (arith, nat_tests)
