use Rattle.std.proofs.Common.{drop}
use Rattle.std.proofs.Math.ListN.{drop_of_length-le}
use Rattle.model.specs.ClassFiles.Items.{class_items}
use Rattle.assembler.specs.Assembled.{class_number}
use Rattle.assembler.proofs.StayingLaws as laws
use Rattle.assembler.proofs.numbered_class.classes.Goals as goal

pub returns-clause-found : goal.returns-clause-found
returns-clause-found c =
    laws.done class_items class_number c.args.numbers.now c.loop-name.numbers c.loop-name.all.items
    (drop c.loop-name.name-index c.args.names.now) c.args.names.now
    (drop_of_length-le c.args.names.now c.loop-name-test.false) c.loop-name.invariant
