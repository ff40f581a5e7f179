use Rattle.std.proofs.Common.{ap, ◌∙◌}
use Rattle.classfile.specs.Reading.Instructions.{items_in}
use Rattle.classfile.specs.Writing.{code_bytes}
use Rattle.classfile.proofs.InstructionLaws.{code_bytes_are}
use Rattle.classfile.proofs.instructions.Instructions.bytes.Goals as goal

pub returns : goal.returns
returns c =
    let bytes = c.self.inside.bytes.items in
    c.as_slice.ensures.value ∙ code_bytes_are bytes (items_in bytes) c.self.invariant ∙ ap code_bytes c.self.view_is
