use Rattle.calvin_cluster_stress.proofs.running.run.Given as goal

-- the history that was just opened, and the configuration of the book
abbrev pub ghosts-call_all-J-Naming : goal.ghosts-call_all-J-Naming
ghosts-call_all-J-Naming g a = record { book = a.opened }

abbrev pub ghosts-call_all-J-Founding : goal.ghosts-call_all-J-Founding
ghosts-call_all-J-Founding g a = record { config = a.book.config }
