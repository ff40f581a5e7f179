use Rattle.std.proofs.Common.{ap, ◌∙◌}
use Rattle.instructions.specs.declared.kinds.Course.TheVariants.{Live}
use Rattle.instructions.specs.Acting.{shown, site_at, turned}
use Rattle.instructions.specs.TypesByNumbers.{cast_by}
use Rattle.instructions.proofs.ActingLemmas.{fault_reported}
use Rattle.instructions.proofs.machines.Machine.check_cast.Goals as goal

pub returns-in-Err-clause-step : goal.returns-in-Err-clause-step
returns-in-Err-clause-step c = λ scene here.
    let m = c.args.self.now in
    let program = c.args.program.now in
    let x = shown program scene m Live in
    let s = site_at program m x.world c.args.next in
    fault_reported program scene m m here c.in-Err.fault
    ∙ ap (λ r. turned program x m.thread (cast_by s m.heap c.args.above r)) c.in-Err.ensures.value
