-- Lines of bytes. A line feed is the byte 10.
--     has_break bytes      a line feed is among the bytes
--     lines_of bytes      the whole lines; what stands behind the last line feed is none
--     text lines      each line with a line feed
use Rattle.std.specs.Prelude.{ℕ, List, [], ◌∷◌, ◌++◌, Bool, false, ◌||◌, ◌==◌, if◌then◌else◌}

abbrev pub has_break : List ℕ → Bool
has_break [] = false
has_break (b ∷ bs) = (b == 10) || has_break bs

-- the lines with a byte in front of the first, if there is one
abbrev pub in_front : ℕ → List (List ℕ) → List (List ℕ)
in_front b [] = []
in_front b (line ∷ lines) = (b ∷ line) ∷ lines

abbrev pub lines_of : List ℕ → List (List ℕ)
lines_of [] = []
lines_of (b ∷ bs) = if b == 10 then [] ∷ lines_of bs else in_front b (lines_of bs)

abbrev pub text : List (List ℕ) → List ℕ
text [] = []
text (line ∷ lines) = line ++ 10 ∷ text lines
