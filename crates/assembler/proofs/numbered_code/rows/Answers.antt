use Rattle.std.proofs.Common.{drop}
use Rattle.std.proofs.Math.ListN.{drop_of_length-le}
use Rattle.model.specs.ClassFiles.Items.{row_items}
use Rattle.assembler.specs.Numbering.{numbered_row}
use Rattle.assembler.proofs.StayingLaws as laws
use Rattle.assembler.proofs.numbered_code.rows.Goals as goal

pub returns-clause-found : goal.returns-clause-found
returns-clause-found c =
    laws.done row_items numbered_row c.args.numbers.now c.loop-row.numbers c.loop-row.all.items
    (drop c.loop-row.row-index c.args.rows.now) c.args.rows.now
    (drop_of_length-le c.args.rows.now c.loop-row-test.false) c.loop-row.invariant
