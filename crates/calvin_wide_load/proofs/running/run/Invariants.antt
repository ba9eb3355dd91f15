use Rattle.calvin_wide_load.proofs.running.run.Given as goal

-- the histories that were just opened, and the configuration of the book
abbrev pub ghosts-run_over-J-Naming : goal.ghosts-run_over-J-Naming
ghosts-run_over-J-Naming g a = record { book = a.opened.0; nodes = a.opened.1 }

abbrev pub ghosts-run_over-J-WideFounding : goal.ghosts-run_over-J-WideFounding
ghosts-run_over-J-WideFounding g a = record { config = a.book.config }
