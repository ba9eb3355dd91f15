-- The lines of bytes of which the first ones have no line feed.
use Rattle.std.proofs.Common.{arith, ℕ, zero, suc, ◌≤◌, ◌<◌, ◌≡◌, List, [], ◌∷◌, ◌++◌, refl, sym, ◌∙◌, ap, Bool, true, false, ◌==◌, ◌||◌, map, length, take, append_assoc, append-nil}
use Rattle.std.proofs.lemmas.List.{take_all}
use Rattle.calvin_journal.specs.Lines.{has_break}
use Rattle.calvin_serve_input.specs.Inputs.{begun, input_lines}

or_left : (a b : Bool) → (a || b) ≡ false → a ≡ false
or_left true b is = is
or_left false b is = refl

or_right : (a b : Bool) → (a || b) ≡ false → b ≡ false
or_right true b is = absurd (cc is)
or_right false b is = is

-- bytes in front of the first line
abbrev pub in_front : List ℕ → List (List ℕ) → List (List ℕ)
in_front [] lines = lines
in_front (b ∷ bs) lines = begun b (in_front bs lines)

in_front-first : (bytes line : List ℕ) (lines : List (List ℕ)) → in_front bytes (line ∷ lines) ≡ (bytes ++ line) ∷ lines
in_front-first [] line lines = refl
in_front-first (b ∷ bs) line lines = ap (begun b) (in_front-first bs line lines)

in_front-none : (b : ℕ) (bs : List ℕ) → in_front (b ∷ bs) [] ≡ (b ∷ bs) ∷ []
in_front-none b [] = refl
in_front-none b (c ∷ cs) = ap (begun b) (in_front-none c cs)

lines-front : (bytes rest : List ℕ) → has_break bytes ≡ false → input_lines (bytes ++ rest) ≡ in_front bytes (input_lines rest)
lines-front [] rest free = refl
lines-front (b ∷ bs) rest free = rw (or_left (b == 10) (has_break bs) free) (ap (begun b) (lines-front bs rest (or_right (b == 10) (has_break bs) free)))

-- the first line ends at the first line feed
pub first_line : (line rest : List ℕ) → has_break line ≡ false → input_lines (line ++ 10 ∷ rest) ≡ line ∷ input_lines rest
first_line line rest free = lines-front line (10 ∷ rest) free ∙ in_front-first line [] (input_lines rest) ∙ ap (λ w. w ∷ input_lines rest) (append-nil line)

-- what has no line feed is a line, unless it is empty
pub only_line : (b : ℕ) (bs : List ℕ) → has_break (b ∷ bs) ≡ false → input_lines (b ∷ bs) ≡ (b ∷ bs) ∷ []
only_line b bs free = ap input_lines (sym (append-nil (b ∷ bs))) ∙ lines-front (b ∷ bs) [] free ∙ in_front-none b bs

take-take_front : (n : ℕ) (xs ys : List ℕ) → take n (take n xs ++ ys) ≡ take n (xs ++ ys)
take-take_front zero xs ys = refl
take-take_front (suc n) [] ys = refl
take-take_front (suc n) (x ∷ xs) ys = ap (λ w. x ∷ w) (take-take_front n xs ys)

kept_front : (n : ℕ) (bytes : List ℕ) (lines : List (List ℕ)) → map (take (suc n)) (in_front (take (suc n) bytes) lines) ≡ map (take (suc n)) (in_front bytes lines)
kept_front n [] lines = refl
kept_front n (b ∷ bs) [] =
    ap (map (take (suc n))) (in_front-none b (take n bs)) ∙ ap (λ w. w ∷ []) (ap (take (suc n)) (sym (append-nil (take (suc n) (b ∷ bs)))) ∙ take-take_front (suc n) (b ∷ bs) [] ∙ ap (take (suc n)) (append-nil (b ∷ bs)))
    ∙ sym (ap (map (take (suc n))) (in_front-none b bs))
kept_front n (b ∷ bs) (line ∷ lines) =
    ap (map (take (suc n))) (in_front-first (take (suc n) (b ∷ bs)) line lines) ∙ ap (λ w. w ∷ map (take (suc n)) lines) (take-take_front (suc n) (b ∷ bs) line)
    ∙ sym (ap (map (take (suc n))) (in_front-first (b ∷ bs) line lines))

free_cons : (b : ℕ) (bs : List ℕ) → (b == 10) ≡ false → has_break bs ≡ false → has_break (b ∷ bs) ≡ false
free_cons b bs is free = rw is free

pub free_take : (n : ℕ) (bytes : List ℕ) → has_break bytes ≡ false → has_break (take n bytes) ≡ false
free_take zero bytes free = refl
free_take (suc n) [] free = refl
free_take (suc n) (b ∷ bs) free = free_cons b (take n bs) (or_left (b == 10) (has_break bs) free) (free_take n bs (or_right (b == 10) (has_break bs) free))

pub free_append : (xs ys : List ℕ) → has_break xs ≡ false → has_break ys ≡ false → has_break (xs ++ ys) ≡ false
free_append [] ys p q = q
free_append (x ∷ xs) ys p q = free_cons x (xs ++ ys) (or_left (x == 10) (has_break xs) p) (free_append xs ys (or_right (x == 10) (has_break xs) p) q)

-- a line is kept to so many bytes, also where its beginning is
pub kept_beginning : (most : ℕ) → 0 < most → (bytes rest : List ℕ) → has_break bytes ≡ false → map (take most) (input_lines (take most bytes ++ rest)) ≡ map (take most) (input_lines (bytes ++ rest))
kept_beginning zero some bytes rest free = absurd (omega (arith, some))
kept_beginning (suc n) some bytes rest free =
    ap (map (take (suc n))) (lines-front (take (suc n) bytes) rest (free_take (suc n) bytes free)) ∙ kept_front n bytes (input_lines rest)
    ∙ sym (ap (map (take (suc n))) (lines-front bytes rest free))

-- where the beginning of a line and what follows have these line feeds
pub handed : (most : ℕ) (begin ahead before behind left : List ℕ) → ahead ≡ before ++ 10 ∷ behind → has_break begin ≡ false → has_break before ≡ false
    → map (take most) (input_lines (begin ++ (ahead ++ left))) ≡ take most (begin ++ before) ∷ map (take most) (input_lines (behind ++ left))
handed most begin ahead before behind left is p q =
    ap (λ w. map (take most) (input_lines w))
    (ap (λ w. begin ++ (w ++ left)) is ∙ ap (λ w. begin ++ w) (append_assoc before (10 ∷ behind) left) ∙ sym (append_assoc begin before (10 ∷ (behind ++ left))))
    ∙ ap (map (take most)) (first_line (begin ++ before) (behind ++ left) (free_append begin before p q))

pub read_through : (most : ℕ) → 0 < most → (begin ahead left : List ℕ) → has_break begin ≡ false → has_break ahead ≡ false
    → map (take most) (input_lines (begin ++ (ahead ++ left))) ≡ map (take most) (input_lines (take most (begin ++ ahead) ++ ([] ++ left)))
read_through most some begin ahead left p q =
    ap (λ w. map (take most) (input_lines w)) (sym (append_assoc begin ahead left)) ∙ sym (kept_beginning most some (begin ++ ahead) left (free_append begin ahead p q))

pub at_end : (most : ℕ) (begin ahead : List ℕ) → ahead ≡ [] → length begin ≤ most → has_break begin ≡ false → (0 < length begin) → map (take most) (input_lines (begin ++ (ahead ++ []))) ≡ begin ∷ []
at_end most [] ahead none fits free some = absurd (omega (arith, some))
at_end most (b ∷ bs) ahead none fits free some =
    ap (λ w. map (take most) (input_lines ((b ∷ bs) ++ (w ++ [])))) none ∙ ap (λ w. map (take most) (input_lines w)) (append-nil (b ∷ bs))
    ∙ ap (map (take most)) (only_line b bs free) ∙ ap (λ w. w ∷ []) (take_all most (b ∷ bs) fits)
