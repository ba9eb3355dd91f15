use Rattle.calvin_cluster_once_cases.proofs.paying.one_payment_two_callers.Given as goal

-- the history that was just opened, and the configuration of the book
abbrev pub ghosts-check_payment-J-Naming : goal.ghosts-check_payment-J-Naming
ghosts-check_payment-J-Naming g a = record { book = a.opened }

abbrev pub ghosts-check_payment-J-Founding : goal.ghosts-check_payment-J-Founding
ghosts-check_payment-J-Founding g a = record { config = a.book.config }
