use Rattle.std.proofs.Common.{sym}
use Rattle.instructions.specs.CallsByNumbers.{known_at}
use Rattle.instructions.proofs.KnownFree.{known-free}
use Rattle.instructions.proofs.awaiting.awaits_nothing.Goals as goal

pub returns-in-None : goal.returns-in-None
returns-in-None c = λ made object. known-free 0 object (known_at c.args.program.now c.args.place)
    (sym c.in-None.ensures)
