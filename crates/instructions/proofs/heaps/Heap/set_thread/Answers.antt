use Rattle.std.proofs.Common.{Some, refl}
use Rattle.cells.specs.Objects.{thread_set}
use Rattle.instructions.proofs.ErrorLemmas.{changed_errors}
use Rattle.instructions.proofs.StartingLemmas.{numbered_agree}
use Rattle.instructions.proofs.heaps.Heap.set_thread.Goals as goal

pub invariant_of-self : goal.invariant_of-self
invariant_of-self c = rw c.set_thread.ensures (record {
  agree = numbered_agree _ _ _ c.in-Some.cell (Some c.args.thread) c.self.invariant.agree;
  errors = changed_errors _ _ _ _ c.self.inside.births c.in-Some.cell (thread_set (Some c.args.thread)) (λ o. refl)
      c.self.invariant.errors;
  few = c.self.invariant.few;
})
