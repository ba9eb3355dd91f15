use Rattle.calvin_wide_cases.proofs.bounds.refuse.Given as goal

-- the histories that were just opened, and the configuration of the book
abbrev pub ghosts-refuse_over-J-Naming : goal.ghosts-refuse_over-J-Naming
ghosts-refuse_over-J-Naming g a = record { book = a.opened.0; nodes = a.opened.1 }

abbrev pub ghosts-refuse_over-J-WideFounding : goal.ghosts-refuse_over-J-WideFounding
ghosts-refuse_over-J-WideFounding g a = record { config = a.book.config }
