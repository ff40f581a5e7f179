use Rattle.std.proofs.Common.{sym, ◌∙◌, ap, arith}
use Rattle.jasmin.proofs.LabelLemmas.{label_again, label_noted, labels_past, counted_at_label, counted_past}
use Rattle.jasmin.proofs.LabelLemmas.{still_different}
use Rattle.jasmin.proofs.uses.labels_in.Goals as goal
use Rattle.jasmin.proofs.uses.labels_in.Goals.{in-Label+else-is_some+in_ok-note-in-Label, in-Instruction}
use Rattle.std.specs.Prelude.{◌++◌}

pub returns-then-is_some : goal.returns-then-is_some
returns-then-is_some c =
    let here = rw c.in-Label.is at c.line-item.is in
    λ _. label_again c.loop-line.labels _ c.loop-line.count c.loop-line.line-index c.args.lines.now c.in-Label.name
    c.as_bytes-name.result.now c.loop-line-test.true here c.as_bytes-name.ensures c.loop-line.invariant.labels
    (rw (← c.get.ensures) (sym c.if-is_some.ensures))

pub loop-line-preserved : goal.loop-line-preserved
loop-line-preserved c =
    elim c.match-line.branch [
      | in-Label+else-is_some+in_ok-note-in-Label w ↦
          let here = rw w.in-Label.is at c.line-item.is in
          rw (w.labels-is, w.count-is, w.in_ok-note-in-Label.ensures)
          record {
            labels = label_noted c.loop-line.labels _ c.loop-line.count c.loop-line.line-index c.args.lines.now
                w.in-Label.name w.as_bytes-name.result.now c.loop-line-test.true here w.as_bytes-name.ensures
                c.loop-line.invariant.labels;
            counted = sym (counted_at_label c.loop-line.count c.loop-line.line-index c.args.lines.now w.in-Label.name
                c.loop-line-test.true here) ∙ c.loop-line.invariant.counted;
            different = still_different c.loop-line.labels c.loop-line.count w.as_bytes-name.result.now _ w.get.ensures
                w.if-is_some.ensures c.loop-line.invariant.different;
            few = omega (arith, c.loop-line.invariant.few);
          }
      | in-Instruction w ↦
          let here = rw w.in-Instruction.is at c.line-item.is in
          rw (w.labels-is, w.count-is)
          record {
            labels = ap (λ rest. c.loop-line.labels ++ rest)
                (sym (labels_past c.loop-line.count c.loop-line.line-index c.args.lines.now w.in-Instruction.field-0
                c.loop-line-test.true here)) ∙ c.loop-line.invariant.labels;
            counted = sym (counted_past c.loop-line.count c.loop-line.line-index c.args.lines.now
                w.in-Instruction.field-0 c.loop-line-test.true here) ∙ c.loop-line.invariant.counted;
            different = c.loop-line.invariant.different;
            few = omega (arith, c.loop-line.invariant.few);
          }
    ]
