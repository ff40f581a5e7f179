use Rattle.instructions.proofs.InvokeLemmas.{nothing_reported}
use Rattle.instructions.proofs.machines.Machine.do_nothing.Goals as goal

pub returns-clause-step : goal.returns-clause-step
returns-clause-step c = λ scene here.
    rw c.to.ensures
    (nothing_reported c.args.program.now scene c.args.self.now here c.args.next c.discard.new.self c.discard.ensures)
