use Rattle.std.proofs.Common.{◌≡◌, ◌<◌, ◌≤◌, ◌+◌, ◌++◌, length}
use Rattle.std.specs.Prelude.{vec_capacity, vec_len}
use Rattle.model.specs.Journals.{rows_of_rounds}
use Rattle.model.specs.RowRuns.{AreRuns, rows_in}
use Rattle.model.proofs.row_runs.push_rounds_singly.Given as goal

-- the rows so far and those of the rounds that are left are all
abbrev pub invariant-loop-left : goal.invariant-loop-left
invariant-loop-left l = record {
  rows : rows_in l.runs.items ++ rows_of_rounds l.first l.second l.times l.left ≡ rows_in l.initial.runs.items
      ++ rows_of_rounds l.first l.second l.times l.rounds;
  runs : AreRuns l.runs.items;
  capacity : vec_capacity l.runs ≡ vec_capacity l.initial.runs;
  room : 0 < l.left → vec_len l.runs + length (rows_of_rounds l.first l.second l.times l.left) ≤ vec_capacity l.runs;
}

abbrev pub decreases-loop-left : goal.decreases-loop-left
decreases-loop-left l = l.left
