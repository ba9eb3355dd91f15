-- What holds of a history between any two steps of threads, and what a step tells. The notions are of this project.
--     IsKept cells log      the length of the log is in the first cell, and the log is legal
--     head_of book      the word of that cell
--     Adds s before found after      where the length found is the one expected, the entry was added to all that had been seen
use Rattle.std.specs.Prelude.{ℕ, ◌≡◌, ◌==◌, true, List, [], ◌∷◌, ◌++◌, length, MatchBool, Option}
use Rattle.logbook.specs.Pages.{Cell, Step, View, Book, Named}
use Rattle.calvin_chronicle.specs.Histories.{IsLegal}

-- a book has two cells at least, and the second one stays 0
pub record IsKept {E : Type 0} (cells : List Cell) (log : List (Option E)) : Type 0 where
  pub words : cells ≡ (length log, true) ∷ (0, true) ∷ []
  pub legal : IsLegal log

abbrev pub head_of : Book → Named
head_of b = record { tracked = true; key = 0; book = b }

-- a view begins with the log as far as it was seen
abbrev pub Adds : {E : Type 0} → Step (Option E) → View (Option E) ℕ → ℕ → View (Option E) ℕ → Type 0
Adds s before found after = MatchBool (found == s.old) ((after.0 ≡ before.0 ++ s.ask ∷ []) × IsLegal after.0) (Unit {0})
