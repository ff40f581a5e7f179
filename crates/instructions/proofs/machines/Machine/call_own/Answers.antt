use Rattle.std.proofs.Common.{◌≡◌, ◌∙◌, inl, inr, ap, sym}
use Rattle.model.specs.declared.turns.Fault.TheVariants.{NoInstruction}
use Rattle.model.specs.Completions.Completion.{Faults}
use Rattle.instructions.specs.declared.kinds.Course.TheVariants.{Live}
use Rattle.instructions.specs.Acting.{shown, site_at, turned}
use Rattle.instructions.specs.OwnCalls.{own_call}
use Rattle.instructions.proofs.ActingLemmas.{fault_reported}
use Rattle.instructions.proofs.machines.Machine.call_own.Goals as goal

pub returns-in-PrintInt-clause-step : goal.returns-in-PrintInt-clause-step
returns-in-PrintInt-clause-step c = λ scene here lives.
    let m = c.args.self.now in
    let program = c.args.program.now in
    let x = shown program scene m Live in
    let s = site_at program m x.world c.args.next in
    let none : own_call m.heap s c.args.builtin ≡ Faults NoInstruction =
    elim c.in-PrintInt.is [
      | inl e ↦ ap (own_call m.heap s) e
      | inr other ↦ elim other [
        | inl e ↦ ap (own_call m.heap s) e
        | inr e ↦ ap (own_call m.heap s) e
      ]
    ] in
    fault_reported program scene m m here NoInstruction ∙ sym (ap (turned program x m.thread) none)
