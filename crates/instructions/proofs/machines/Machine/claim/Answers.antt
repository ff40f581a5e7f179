use Rattle.std.proofs.Common.{◌∙◌, refl, sym}
use Rattle.instructions.specs.declared.machines.Machine.{Machine}
use Rattle.instructions.proofs.InitialisingLemmas.{claim_reported}
use Rattle.instructions.proofs.machines.Machine.claim.Goals as goal

pub returns-then-has_room_for_claim-clause-step : goal.returns-then-has_room_for_claim-clause-step
returns-then-has_room_for_claim-clause-step c = λ scene here.
    let m = c.args.self.now in
    let after : Machine = record {
      thread = m.thread;
      frames = c.enter_initializers.new.frames;
      slots = m.slots;
      states = c.set_states.new.states;
      heap = m.heap;
      output = m.output;
    } in
    rw c.to.ensures
    (claim_reported c.args.program.now scene m after here c.args.next c.args.class c.args.count
    (sym c.has_room_for_claim.ensures ∙ c.if-has_room_for_claim.true) c.enter_initializers.ensures refl
    c.set_states.ensures.states refl refl)
