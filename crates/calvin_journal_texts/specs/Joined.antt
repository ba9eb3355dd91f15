-- Texts, joined by commas.
--     continued texts      each behind a comma
--     joined texts      with a comma between two
use Rattle.std.specs.Prelude.{ℕ, List, [], ◌∷◌, ◌++◌}

abbrev pub continued : List (List ℕ) → List ℕ
continued [] = []
continued (text ∷ texts) = 44 ∷ text ++ continued texts

abbrev pub joined : List (List ℕ) → List ℕ
joined [] = []
joined (text ∷ texts) = text ++ continued texts
