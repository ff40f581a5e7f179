use Rattle.instructions.proofs.Throwables.{memory_kind-thrown}
use Rattle.instructions.proofs.machines.Machine.throw_memory_error.Goals as goal

pub throw-requires-clause-thrown : goal.throw-requires-clause-thrown
throw-requires-clause-thrown c =
    rw c.memory_error-kind.ensures.kind (memory_kind-thrown c.args.program.now c.args.self.now.heap.classes
    c.requires.ready.classes)
