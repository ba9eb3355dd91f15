use Rattle.calvin_cluster_load.proofs.running.run.Given as goal

-- the history that was just opened, and the configuration of the book
abbrev pub ghosts-run_over-J-Naming : goal.ghosts-run_over-J-Naming
ghosts-run_over-J-Naming g a = record { book = a.opened }

abbrev pub ghosts-run_over-J-Founding : goal.ghosts-run_over-J-Founding
ghosts-run_over-J-Founding g a = record { config = a.book.config }
