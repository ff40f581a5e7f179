use Rattle.std.proofs.Common.{drop}
use Rattle.model.specs.ClassFiles.Items.{placed_items}
use Rattle.assembler.specs.Numbering.{numbered}
use Rattle.assembler.proofs.StayingLaws.{IsMade}
use Rattle.assembler.proofs.numbered_code.instructions.Given as goal

-- what was made so far stays
abbrev pub invariant-loop-placed : goal.invariant-loop-placed
invariant-loop-placed l = IsMade placed_items (λ items p. numbered items p.instruction) l.initial.numbers l.numbers
    l.all.items (drop l.placed-index l.instructions) l.instructions
