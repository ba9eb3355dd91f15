use Rattle.calvin_wide_stress.proofs.running.sit.Given as goal

-- the histories that were just opened, and the configuration of the book
abbrev pub ghosts-call_all-J-Naming : goal.ghosts-call_all-J-Naming
ghosts-call_all-J-Naming g a = record { book = a.opened.0; nodes = a.opened.1 }

abbrev pub ghosts-call_all-J-WideFounding : goal.ghosts-call_all-J-WideFounding
ghosts-call_all-J-WideFounding g a = record { config = a.book.config }
