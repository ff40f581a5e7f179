use Rattle.std.proofs.Common.{sym, ◌∙◌}
use Rattle.model.specs.ClassFiles.Classes.{ClassPart}
use Rattle.classfile.proofs.MadeLaws.{countable_fit}
use Rattle.classfile.proofs.files.bytes_of.Goals as goal

pub put_after_head-requires-clause-fit : goal.put_after_head-requires-clause-fit
put_after_head-requires-clause-fit c =
    let parts : ClassPart = record { head = c.args.parts.now; methods = c.args.methods.now } in
    countable_fit parts (sym c.lists_are_countable.ensures ∙ c.if-lists_are_countable.true)
