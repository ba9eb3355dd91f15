use Rattle.calvin_cluster_cases.proofs.bounds.refuse.Given as goal

-- the history that was just opened, and the configuration of the book
abbrev pub ghosts-refuse_over-J-Naming : goal.ghosts-refuse_over-J-Naming
ghosts-refuse_over-J-Naming g a = record { book = a.opened }

abbrev pub ghosts-refuse_over-J-Founding : goal.ghosts-refuse_over-J-Founding
ghosts-refuse_over-J-Founding g a = record { config = a.book.config }
