use Rattle.world_tests.proofs.hall_tests.days_go_so.Given as goal

-- the ledger is the one that the blank will open
abbrev pub ghosts-goes_so : goal.ghosts-goes_so
ghosts-goes_so g a = record { name = a.blank.name; parts = a.blank.parts }
