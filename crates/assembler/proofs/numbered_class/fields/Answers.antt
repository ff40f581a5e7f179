use Rattle.std.proofs.Common.{drop}
use Rattle.std.proofs.Math.ListN.{drop_of_length-le}
use Rattle.model.specs.ClassFiles.Items.{field_items}
use Rattle.assembler.specs.Numbering.{numbered_field}
use Rattle.assembler.proofs.StayingLaws as laws
use Rattle.assembler.proofs.numbered_class.fields.Goals as goal

pub returns-clause-found : goal.returns-clause-found
returns-clause-found c =
    laws.done field_items numbered_field c.args.numbers.now c.loop-field.numbers c.loop-field.all.items
    (drop c.loop-field.field-index c.args.fields.now) c.args.fields.now
    (drop_of_length-le c.args.fields.now c.loop-field-test.false) c.loop-field.invariant
