-- The lines of an input. The notions are of this project; a line feed is the byte 10.
--     input_lines bytes      the lines, without their line feeds; what stands behind the last line feed is one too, unless it is empty
--     Held      of an input that is cut into lines: how many bytes of a line are kept at most, the beginning of the next line, and the bytes behind it that were read
--     coming held left      the lines to come where these bytes are still to be read, each as far as it is kept
use Rattle.std.specs.Prelude.{ℕ, List, [], ◌∷◌, ◌++◌, map, take, if◌then◌else◌, ◌==◌}

-- the lines with a byte in front of the first, which it begins where there is none
abbrev pub begun : ℕ → List (List ℕ) → List (List ℕ)
begun b [] = (b ∷ []) ∷ []
begun b (line ∷ lines) = (b ∷ line) ∷ lines

abbrev pub input_lines : List ℕ → List (List ℕ)
input_lines [] = []
input_lines (b ∷ bs) = if b == 10 then [] ∷ input_lines bs else begun b (input_lines bs)

pub record Held : Type 0 where
  pub most : ℕ
  pub begin : List ℕ
  pub ahead : List ℕ

abbrev pub coming : Held → List ℕ → List (List ℕ)
coming held left = map (take held.most) (input_lines (held.begin ++ (held.ahead ++ left)))
