use Rattle.join.proofs.Joining.{turn_joins, turn_bounds}
use Rattle.join.proofs.Opening.{opening_joins, opening_bounded}
use Rattle.join.proofs.Runs.{run_joins, run_reads_back, turn_is_shown}
use Rattle.join.proofs.turns_on_cells_are_ideal_turns.Goals as goal

pub returns-clause-opening : goal.returns-clause-opening
returns-clause-opening c = opening_joins

pub returns-clause-opening_bounded : goal.returns-clause-opening_bounded
returns-clause-opening_bounded c = opening_bounded

pub returns-clause-turn : goal.returns-clause-turn
returns-clause-turn c = turn_joins

pub returns-clause-turn_bounded : goal.returns-clause-turn_bounded
returns-clause-turn_bounded c = turn_bounds

pub returns-clause-shown : goal.returns-clause-shown
returns-clause-shown c = turn_is_shown

pub returns-clause-run : goal.returns-clause-run
returns-clause-run c = run_joins

pub returns-clause-read_back : goal.returns-clause-read_back
returns-clause-read_back c = run_reads_back
