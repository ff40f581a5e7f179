use Rattle.std.proofs.Common.{◌+◌, length}
use Rattle.model.specs.Classes.Types.{is_subtype}
use Rattle.resolve.proofs.TypeLemmas.{LeftBelow}
use Rattle.resolve.proofs.classes.Classes.is_below.Given as goal

abbrev pub invariant-loop : goal.invariant-loop
invariant-loop l = LeftBelow l.self (length l.name + 1) l.counter l.lower l.upper (is_subtype l.self l.name l.above)
