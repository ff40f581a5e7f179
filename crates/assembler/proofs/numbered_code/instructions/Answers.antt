use Rattle.std.proofs.Common.{drop}
use Rattle.std.proofs.Math.ListN.{drop_of_length-le}
use Rattle.model.specs.ClassFiles.Items.{placed_items}
use Rattle.assembler.specs.Numbering.{numbered}
use Rattle.assembler.proofs.StayingLaws as laws
use Rattle.assembler.proofs.numbered_code.instructions.Goals as goal

pub returns-clause-found : goal.returns-clause-found
returns-clause-found c =
    laws.done placed_items (λ items p. numbered items p.instruction) c.args.numbers.now c.loop-placed.numbers
    c.loop-placed.all.items (drop c.loop-placed.placed-index c.args.instructions.now) c.args.instructions.now
    (drop_of_length-le c.args.instructions.now c.loop-placed-test.false) c.loop-placed.invariant
