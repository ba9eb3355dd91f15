use Rattle.calvin_run.proofs.running.bring_on.Given as goal

-- the history that was just opened
abbrev pub ghosts-bring_on_named-J-Naming : goal.ghosts-bring_on_named-J-Naming
ghosts-bring_on_named-J-Naming g a = record { book = a.opened }

-- and what the book's store was opened with
abbrev pub ghosts-bring_on_named-J-Founding : goal.ghosts-bring_on_named-J-Founding
ghosts-bring_on_named-J-Founding g a = record { config = a.book.config }
