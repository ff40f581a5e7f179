use Rattle.std.proofs.Common.{◌≡◌, ◌<◌, ◌≤◌, ◌+◌, ◌++◌}
use Rattle.std.specs.List.{repeat}
use Rattle.std.specs.Prelude.{vec_capacity, vec_len}
use Rattle.model.specs.RowRuns.{AreRuns, rows_in, rows_of}
use Rattle.model.proofs.row_runs.push_runs.Given as goal

-- the rows so far and those that are left are all
abbrev pub invariant-loop-left : goal.invariant-loop-left
invariant-loop-left l = record {
  rows : rows_in l.runs.items ++ repeat l.left (rows_of l.turn l.worker) ≡ rows_in l.initial.runs.items
      ++ repeat l.times (rows_of l.turn l.worker);
  runs : AreRuns l.runs.items;
  capacity : vec_capacity l.runs ≡ vec_capacity l.initial.runs;
  room : 0 < l.left → vec_len l.runs + l.left ≤ vec_capacity l.runs;
  len : vec_len l.runs + l.left ≤ vec_len l.initial.runs + l.times;
}

abbrev pub decreases-loop-left : goal.decreases-loop-left
decreases-loop-left l = l.left
