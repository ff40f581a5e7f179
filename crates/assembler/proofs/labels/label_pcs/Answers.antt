use Rattle.std.proofs.Common.{arith}
use Rattle.assembler.proofs.SizeLemmas.{goes_past}
use Rattle.assembler.proofs.labels.label_pcs.Goals as goal

pub unreachable-requires : goal.unreachable-requires
unreachable-requires c =
    let here = rw c.in-Instruction.is at c.line-item.is in
    omega (
      arith,
      c.requires,
      c.loop-line.invariant.following,
      c.in-None.ensures,
      goes_past c.args.narrow.now c.loop-line.pc c.loop-line.line-index c.args.lines.now c.in-Instruction.instruction
          c.loop-line-test.true here,
    )
