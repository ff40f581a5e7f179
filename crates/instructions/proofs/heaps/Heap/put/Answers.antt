use Rattle.std.proofs.Common.{refl}
use Rattle.cells.specs.Objects.{word_set}
use Rattle.instructions.proofs.ErrorLemmas.{changed_errors}
use Rattle.instructions.proofs.AgreeLemmas.{written_agree}
use Rattle.instructions.proofs.heaps.Heap.put.Goals as goal

pub invariant_of-self : goal.invariant_of-self
invariant_of-self c = rw c.put.ensures.after (record {
  agree = written_agree _ _ _ c.in-Some.cell c.args.index c.args.value c.self.invariant.agree;
  errors = changed_errors _ _ _ _ c.self.inside.births c.in-Some.cell (word_set c.args.index c.args.value) (λ o. refl)
      c.self.invariant.errors;
  few = c.self.invariant.few;
})
