use Rattle.std.proofs.Common.{arith}
use Rattle.assembler.proofs.SizeLemmas.{goes_past}
use Rattle.assembler.proofs.sizes.code_size.Goals as goal

pub returns-in-None : goal.returns-in-None
returns-in-None c =
    let here = rw c.in-Instruction.is at c.line-item.is in
    omega (
      arith,
      c.loop-line.invariant,
      c.in-None.ensures,
      goes_past c.args.narrow.now c.loop-line.pc c.loop-line.line-index c.args.lines.now c.in-Instruction.instruction
          c.loop-line-test.true here,
    )
