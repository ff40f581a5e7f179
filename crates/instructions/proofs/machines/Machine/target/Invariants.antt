use Rattle.instructions.specs.Shown.{kind_name}
use Rattle.instructions.proofs.LandingLemmas.{Seeks}
use Rattle.instructions.proofs.machines.Machine.target.Given as goal

abbrev pub invariant-loop-left : goal.invariant-loop-left
invariant-loop-left l = Seeks l.self.frames l.program (kind_name l.program l.kind) l.left
