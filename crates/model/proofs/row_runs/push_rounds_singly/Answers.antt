use Rattle.std.proofs.Common.{◌≡◌, ◌-◌, ◌∙◌, arith, suc}
use Rattle.model.specs.RowRuns.{rows_in}
use Rattle.model.proofs.RunsAndRows.{round_pushed, rounds-left}
use Rattle.model.proofs.row_runs.push_rounds_singly.Goals as goal

pub push_rows-requires-clause-room : goal.push_rows-requires-clause-room
push_rows-requires-clause-room c = λ some.
    let at = c.loop-left in
    let left : at.left ≡ suc (at.left - 1) = omega (arith, c.loop-left-test.true) in
    let rows = rounds-left c.args.first c.args.second c.args.times at.left (at.left - 1) left in
    let room = at.invariant.room c.loop-left-test.true in
    omega (arith, rows, room)

pub push_rows-requires-in-loop-left-clause-room : goal.push_rows-requires-in-loop-left-clause-room
push_rows-requires-in-loop-left-clause-room c = λ some.
    let at = c.loop-left in
    let left : at.left ≡ suc (at.left - 1) = omega (arith, c.loop-left-test.true) in
    let rows = rounds-left c.args.first c.args.second c.args.times at.left (at.left - 1) left in
    let room = at.invariant.room c.loop-left-test.true in
    omega (arith, rows, room, c.push_rows.ensures.len, c.push_rows.ensures.capacity)

pub loop-left-preserved : goal.loop-left-preserved
loop-left-preserved c =
    let at = c.loop-left in
    let left : at.left ≡ suc (at.left - 1) = omega (arith, c.loop-left-test.true) in
    let rows = rounds-left c.args.first c.args.second c.args.times at.left (at.left - 1) left in
    let room = at.invariant.room c.loop-left-test.true in
    record {
      rows = round_pushed c.args.first c.args.second c.args.times at.left (at.left - 1) left (rows_in at.runs.items)
          (rows_in c.push_rows.new.runs.items) (rows_in c.push_rows-in-loop-left.new.runs.items) _
          c.push_rows.ensures.rows c.push_rows-in-loop-left.ensures.rows at.invariant.rows;
      runs = c.push_rows-in-loop-left.ensures.runs;
      capacity = c.push_rows-in-loop-left.ensures.capacity ∙ c.push_rows.ensures.capacity ∙ at.invariant.capacity;
      room = λ some. omega (
        arith,
        rows,
        room,
        c.push_rows.ensures.len,
        c.push_rows.ensures.capacity,
        c.push_rows-in-loop-left.ensures.len,
        c.push_rows-in-loop-left.ensures.capacity,
      );
    }
