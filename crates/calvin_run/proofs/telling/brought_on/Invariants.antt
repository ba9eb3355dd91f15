use Rattle.calvin_run.proofs.telling.brought_on.Given as goal

-- the histories that were just opened
abbrev pub ghosts-bring_on_wide-J-Naming : goal.ghosts-bring_on_wide-J-Naming
ghosts-bring_on_wide-J-Naming g a = record { book = a.opened.0; nodes = a.opened.1 }

-- and what the book's store was opened with
abbrev pub ghosts-bring_on_wide-J-WideFounding : goal.ghosts-bring_on_wide-J-WideFounding
ghosts-bring_on_wide-J-WideFounding g a = record { config = a.book.config }
