use Rattle.std.proofs.Common.{◌-◌, ◌++◌, List, ◌∙◌, ap, arith, subst, sym}
use Rattle.std.specs.List.{repeat}
use Rattle.model.specs.declared.row_runs.RowRun.{RowRun}
use Rattle.model.specs.RowRuns.{AreRuns, rows_in, rows_of}
use Rattle.model.proofs.RunsAndRows.{AreRuns-push, rows_pushed}
use Rattle.model.proofs.row_runs.push_runs.Goals as goal

pub loop-left-preserved : goal.loop-left-preserved
loop-left-preserved c =
    let at = c.loop-left in
    let more = c.run_length-more.result in
    let some = c.run_length-more.ensures.some c.loop-left-test.true in
    let most = c.run_length-more.ensures.most in
    let once = rows_of c.args.turn c.args.worker in
    let now = rows_pushed at.runs.items c.push_reserved.new.self.items (rows_in c.args.runs.now.items
    ++ repeat c.args.times once) c.args.turn c.args.worker at.left more
    c.push_reserved.ensures.items most at.invariant.rows in
    let room = at.invariant.room c.loop-left-test.true in
    record {
      rows = ap (λ n. rows_in c.push_reserved.new.self.items ++ repeat (at.left - n) once) c.from-left.ensures ∙ now;
      runs = subst (λ (runs : List RowRun). AreRuns runs) (sym c.push_reserved.ensures.items)
          (AreRuns-push at.runs.items (record { turn = c.args.turn; worker = c.args.worker; times = more })
          at.invariant.runs (omega (arith, some)));
      capacity = c.push_reserved.ensures.capacity ∙ at.invariant.capacity;
      room = λ left. omega (
        arith,
        room,
        some,
        most,
        c.push_reserved.ensures.capacity,
        c.push_reserved.ensures.len,
        c.from-left.ensures,
      );
      len = omega (arith, at.invariant.len, some, most, c.push_reserved.ensures.len, c.from-left.ensures);
    }
