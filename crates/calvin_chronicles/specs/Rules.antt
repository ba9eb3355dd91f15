-- What holds of the log between any two steps of threads, and what a step tells. The notions are of this project.
--     IsKept cells log      there is a cell for each node, with the length of its history, and each history is legal
--     head_of book node      the word of that cell
--     Adds s before found after      where the length found is the one expected, what the entry is in the node's history was added
--         to all of that history that had been seen
use Rattle.std.specs.Prelude.{ℕ, ◌≡◌, ◌==◌, ◌<◌, true, List, [], ◌∷◌, ◌++◌, length, MatchBool}
use Rattle.logbook.specs.Pages.{Cell, cell, Step, View, Book, Named}
use Rattle.calvin_chronicles.specs.declared.law.Entry.{Entry}
use Rattle.calvin_chronicles.specs.Histories.{IsLegal, nodes_of, part_at}

pub record IsKept {E : Type 0} (cells : List Cell) (log : List (Entry E)) : Type 0 where
  pub some : 0 < length log
  pub nodes : nodes_of log ≡ length cells
  pub words : (node : ℕ) → node < length cells → cell cells node ≡ (length (part_at node log), true)
  pub legal : (node : ℕ) → IsLegal (part_at node log)

abbrev pub head_of : Book → ℕ → Named
head_of b node = record { tracked = true; key = node; book = b }

-- a view begins with the log as far as it was seen, and the key of a step is the node
abbrev pub Adds : {E : Type 0} → Step (Entry E) → View (Entry E) ℕ → ℕ → View (Entry E) ℕ → Type 0
Adds s before found after = MatchBool (found == s.old) (part_at s.key after.0 ≡ part_at s.key before.0 ++ part_at s.key (s.ask ∷ [])) (Unit {0})
