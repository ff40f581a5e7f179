use Rattle.instructions.proofs.ErrorLemmas.{shaded_errors}
use Rattle.instructions.proofs.AgreeLemmas.{shaded_agree}
use Rattle.instructions.proofs.heaps.Heap.shade.Goals as goal

pub invariant_of-self : goal.invariant_of-self
invariant_of-self c = rw c.shade.ensures (record {
  agree = shaded_agree _ _ _ _ c.self.invariant.agree;
  errors = shaded_errors _ _ _ _ c.self.inside.births _ c.self.invariant.errors;
  few = c.self.invariant.few;
})
