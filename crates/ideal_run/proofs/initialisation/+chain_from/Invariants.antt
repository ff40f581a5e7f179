use Rattle.ideal_run.proofs.initialisation.+chain_from.Given as goal

abbrev pub decreases-chain_from : goal.decreases-chain_from
decreases-chain_from l = l.steps
