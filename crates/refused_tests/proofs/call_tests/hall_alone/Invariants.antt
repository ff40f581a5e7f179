use Rattle.refused_tests.proofs.call_tests.hall_alone.Given as goal

-- the ledger is the one that the blank will open
abbrev pub ghosts-shares_for : goal.ghosts-shares_for
ghosts-shares_for g a = record { name = a.blank.name; parts = a.blank.parts }
