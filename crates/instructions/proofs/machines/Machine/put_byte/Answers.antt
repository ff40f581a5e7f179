use Rattle.std.proofs.Common.{◌≡◌, ◌++◌, refl, rules}
use Rattle.model.specs.Printing.{low_byte}
use Rattle.instructions.proofs.PrintLemmas.{bytes_fault_reported, bytes_reported}
use Rattle.instructions.proofs.machines.Machine.put_byte.Goals as goal

pub returns-in-Err-clause-step : goal.returns-in-Err-clause-step
returns-in-Err-clause-step c = λ scene here.
    bytes_fault_reported c.args.program.now scene c.args.self.now c.args.self.now here low_byte c.args.next
    c.in-Err.fault _ c.in-Err.ensures.value

pub returns-in-Ok-clause-step : goal.returns-in-Ok-clause-step
returns-in-Ok-clause-step c = λ scene here.
    let m = c.args.self.now in
    let line : c.print_low_byte.new.output.items ≡ m.output.items ++ low_byte c.in-Ok.number = search rules in
    rw c.to.ensures (bytes_reported c.args.program.now scene m
    (record {
      thread = m.thread;
      frames = c.discard.new.self;
      slots = m.slots;
      states = m.states;
      heap = m.heap;
      output = c.print_low_byte.new.output;
    })
    here low_byte c.args.next c.in-Ok.number _ c.in-Ok.ensures.value c.discard.ensures refl refl line refl)
