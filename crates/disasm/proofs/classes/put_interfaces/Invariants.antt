use Rattle.std.proofs.Common.{◌≡◌, ◌++◌, take}
use Rattle.std.specs.List.{flat_map}
use Rattle.model.specs.Texts.Disassembling.{interface_line}
use Rattle.disasm.proofs.classes.put_interfaces.Given as goal

abbrev pub invariant-loop-name : goal.invariant-loop-name
invariant-loop-name l = l.out.items ≡ l.initial.out.items ++ flat_map interface_line (take l.name-index l.names)
