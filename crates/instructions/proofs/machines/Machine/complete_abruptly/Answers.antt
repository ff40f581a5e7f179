use Rattle.instructions.proofs.ActingLemmas.{fault_reported}
use Rattle.instructions.proofs.machines.Machine.complete_abruptly.Goals as goal

pub returns-in-Fault-clause-step : goal.returns-in-Fault-clause-step
returns-in-Fault-clause-step c = λ scene here. rw c.in-Fault.is (fault_reported c.args.program.now scene c.args.self.now
    c.args.self.now here _)

pub returns-in-Throw-clause-step : goal.returns-in-Throw-clause-step
returns-in-Throw-clause-step c = λ scene here. rw c.in-Throw.is (c.raise.ensures.step scene here)
