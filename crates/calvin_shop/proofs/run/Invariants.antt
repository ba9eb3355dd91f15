use Rattle.calvin_shop.proofs.run.Given as goal

-- the history that was just opened, and the configuration of the book
abbrev pub ghosts-sell-J-Naming : goal.ghosts-sell-J-Naming
ghosts-sell-J-Naming g a = record { book = a.opened }

abbrev pub ghosts-sell-J-Founding : goal.ghosts-sell-J-Founding
ghosts-sell-J-Founding g a = record { config = a.book.config }
