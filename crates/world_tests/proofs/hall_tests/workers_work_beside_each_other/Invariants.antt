use Rattle.world_tests.proofs.hall_tests.workers_work_beside_each_other.Given as goal

-- the ledger is the one that the blank will open
abbrev pub ghosts-three_at_once : goal.ghosts-three_at_once
ghosts-three_at_once g a = record { name = a.blank.name; parts = a.blank.parts }
