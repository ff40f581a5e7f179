use Rattle.std.proofs.Common.{sym, ◌∙◌, ap, refl}
use Rattle.std.specs.List.{list_all}
use Rattle.std.proofs.Math.ListN.{drop_of_length-le}
use Rattle.model.specs.declared.trees.TextLine.TheVariants.{Label, Instruction}
use Rattle.opcodes.proofs.EncodingLaws.{drop-item}
use Rattle.assembler.specs.Checks.{line_agrees}
use Rattle.assembler.proofs.checks.lines_agree.Goals as goal
use Rattle.assembler.proofs.checks.lines_agree.Goals.{in-Label, in-Instruction+else-not-switch_agrees}

pub loop-line-preserved : goal.loop-line-preserved
loop-line-preserved c narrow f =
    elim c.match-line.branch [
      | in-Label w ↦
          let here = rw w.in-Label.is at c.line-item.is in
          sym (ap (list_all (line_agrees narrow f)) (drop-item c.args.lines.now c.loop-line.line-index
          (Label w.in-Label.field-0) c.loop-line-test.true here)) ∙ c.loop-line.invariant narrow f
      | in-Instruction+else-not-switch_agrees w ↦
          let here = rw w.in-Instruction.is at c.line-item.is in
          let agrees = sym (w.switch_agrees.ensures narrow f) ∙ w.if-not-switch_agrees.false in
          sym (ap (list_all (line_agrees narrow f)) (drop-item c.args.lines.now c.loop-line.line-index
          (Instruction w.in-Instruction.instruction) c.loop-line-test.true here) ∙ rw agrees refl)
          ∙ c.loop-line.invariant narrow f
    ]

pub returns : goal.returns
returns c narrow f = rw (drop_of_length-le c.args.lines.now c.loop-line-test.false) at c.loop-line.invariant narrow f
