use Rattle.std.proofs.Common.{drop}
use Rattle.std.proofs.Math.ListN.{drop_of_length-le}
use Rattle.model.specs.ClassFiles.Items.{method_items}
use Rattle.assembler.specs.Assembled.{assembled_method}
use Rattle.assembler.proofs.StayingLaws as laws
use Rattle.assembler.proofs.numbered_class.methods.Goals as goal

pub returns-clause-found : goal.returns-clause-found
returns-clause-found c =
    laws.done method_items assembled_method c.args.numbers.now c.loop-method.numbers c.loop-method.all.items
    (drop c.loop-method.method-index c.args.methods.now) c.args.methods.now
    (drop_of_length-le c.args.methods.now c.loop-method-test.false) c.loop-method.invariant
