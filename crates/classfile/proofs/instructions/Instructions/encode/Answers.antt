use Rattle.std.proofs.Common.{refl, ◌∙◌, ap}
use Rattle.model.specs.Bytecode.{instructions_of}
use Rattle.classfile.proofs.InstructionLaws.{items_are, kept_are, kept_code}
use Rattle.classfile.proofs.instructions.Instructions.encode.Goals as goal

pub invariant_of-result : goal.invariant_of-result
invariant_of-result c =
    let bytes = c.in_ok-bytes.bytes.items in
    let found = c.in_ok-bytes.ensures.found in
    kept_code bytes bytes found.0 refl found.1

pub returns-clause-found : goal.returns-clause-found
returns-clause-found c =
    let found = c.in_ok-bytes.ensures.found in
    ap instructions_of (items_are c.in_ok-bytes.bytes.items found.0 found.1) ∙ found.2

pub returns-clause-code : goal.returns-clause-code
returns-clause-code c =
    let bytes = c.in_ok-bytes.bytes.items in
    let found = c.in_ok-bytes.ensures.found in
    (bytes, kept_code bytes bytes found.0 refl found.1)

pub returns-clause-only : goal.returns-clause-only
returns-clause-only c bytes items code same =
    kept_are bytes c.in_ok-bytes.bytes.items items (c.in_ok-bytes.ensures.only bytes items code same) code
