use Rattle.std.proofs.Common.{ap, ◌∙◌}
use Rattle.instructions.specs.declared.kinds.Course.TheVariants.{Live}
use Rattle.instructions.specs.Acting.{shown, turned}
use Rattle.instructions.specs.Throwing.{throws_operand}
use Rattle.instructions.proofs.ActingLemmas.{fault_reported}
use Rattle.instructions.proofs.machines.Machine.throw_operand.Goals as goal

pub returns-in-Err-clause-step : goal.returns-in-Err-clause-step
returns-in-Err-clause-step c = λ scene here.
    let m = c.args.self.now in
    let program = c.args.program.now in
    let x = shown program scene m Live in
    fault_reported program scene m m here c.in-Err.fault
    ∙ ap (λ r. turned program x m.thread (throws_operand program m.heap r)) c.in-Err.ensures.value
