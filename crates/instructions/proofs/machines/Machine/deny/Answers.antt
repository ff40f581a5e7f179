use Rattle.std.proofs.Common.{refl}
use Rattle.instructions.specs.declared.machines.Machine.{Machine}
use Rattle.instructions.specs.InitialisingByNumbers.{claimed}
use Rattle.instructions.proofs.DenyingLemmas.{denies_fault_reported, denies_reported}
use Rattle.instructions.proofs.machines.Machine.deny.Goals as goal

pub returns-in-Ok-clause-step : goal.returns-in-Ok-clause-step
returns-in-Ok-clause-step c = λ scene here.
    let raised = c.raise.new.self in
    let after : Machine = record {
      thread = raised.thread;
      frames = raised.frames;
      slots = raised.slots;
      states = c.set_states.new.states;
      heap = raised.heap;
      output = raised.output;
    } in
    denies_reported c.args.program.now (claimed c.args.program.now c.args.class c.args.count) scene c.args.self.now
    raised after
    c.in-Ok.turned (c.in-Ok.ensures.step scene here) refl refl c.set_states.ensures.states refl refl

pub returns-in-Err-clause-step : goal.returns-in-Err-clause-step
returns-in-Err-clause-step c = λ scene here.
    denies_fault_reported c.args.program.now (claimed c.args.program.now c.args.class c.args.count) scene
    c.args.self.now
    c.raise.new.self c.raise.new.self c.in-Err.fault (c.in-Err.ensures.step scene here)
