use Rattle.calvin_wide_run_cases.proofs.adding.rows_after.Given as goal

-- the histories that were just opened, and the configuration of the book
abbrev pub ghosts-rows_over-J-Naming : goal.ghosts-rows_over-J-Naming
ghosts-rows_over-J-Naming g a = record { book = a.opened.0; nodes = a.opened.1 }

abbrev pub ghosts-rows_over-J-WideFounding : goal.ghosts-rows_over-J-WideFounding
ghosts-rows_over-J-WideFounding g a = record { config = a.book.config }
