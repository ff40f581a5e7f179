use Rattle.std.proofs.Common.{drop}
use Rattle.model.specs.ClassFiles.Items.{method_items}
use Rattle.assembler.specs.Assembled.{assembled_method}
use Rattle.assembler.proofs.StayingLaws.{IsMade}
use Rattle.assembler.proofs.numbered_class.methods.Given as goal

-- what was made so far stays
abbrev pub invariant-loop-method : goal.invariant-loop-method
invariant-loop-method l = IsMade method_items assembled_method l.initial.numbers l.numbers l.all.items
    (drop l.method-index l.methods) l.methods
