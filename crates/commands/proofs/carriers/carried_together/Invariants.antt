use Rattle.commands.proofs.carriers.carried_together.Given as goal

-- the ledger is the one that the blank will open
abbrev pub ghosts-shared : goal.ghosts-shared
ghosts-shared g a = record { name = a.blank.name; parts = a.blank.parts }
