use Rattle.std.proofs.Common.{drop}
use Rattle.model.specs.ClassFiles.Items.{class_items}
use Rattle.assembler.specs.Assembled.{class_number}
use Rattle.assembler.proofs.StayingLaws.{IsMade}
use Rattle.assembler.proofs.numbered_class.classes.Given as goal

-- what was made so far stays
abbrev pub invariant-loop-name : goal.invariant-loop-name
invariant-loop-name l = IsMade class_items class_number l.initial.numbers l.numbers l.all.items
    (drop l.name-index l.names) l.names
