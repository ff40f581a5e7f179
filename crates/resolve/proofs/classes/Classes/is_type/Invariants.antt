use Rattle.std.proofs.Common.{◌+◌, length}
use Rattle.model.specs.Classes.Types.{is_type}
use Rattle.resolve.proofs.TypeLemmas.{LeftThere}
use Rattle.resolve.proofs.classes.Classes.is_type.Given as goal

abbrev pub invariant-loop : goal.invariant-loop
invariant-loop l = LeftThere l.self (length l.name + 1) l.counter l.next (is_type l.self l.name)
