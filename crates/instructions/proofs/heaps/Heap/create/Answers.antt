use Rattle.std.proofs.Common.{length, arith}
use Rattle.std.proofs.lemmas.Option.{slice_get_within}
use Rattle.model.specs.declared.colours.Cell.TheVariants.{Free}
use Rattle.instructions.proofs.ErrorLemmas.{came_errors}
use Rattle.instructions.proofs.AgreeLemmas.{came_agree, nobody_in_free}
use Rattle.instructions.proofs.heaps.Heap.create.Goals as goal

pub place_all-requires-clause-nobody : goal.place_all-requires-clause-nobody
place_all-requires-clause-nobody c =
    nobody_in_free _ _ c.in_ok-cell.cell c.self.invariant.agree.taken c.in_ok-cell.ensures.free

pub overflow_add-result : goal.overflow_add-result
overflow_add-result c =
    let within = slice_get_within c.self.inside.account.cells c.in_ok-cell.cell Free c.in_ok-cell.ensures.free in
    let count = c.self.invariant.agree.count in
    let few = c.self.invariant.agree.fits.1 in
    omega (arith, within, count, few)

pub invariant_of-self-2 : goal.invariant_of-self-2
invariant_of-self-2 c =
    rw (c.place_all.ensures, c.create.ensures.account)
    (record {
      agree = came_agree _ _ _ (length c.args.words.now) c.self.inside.births c.in_ok-cell.cell _ c.self.invariant.agree
          c.in_ok-cell.ensures.cell;
      errors = came_errors _ _ _ _ c.self.inside.births c.in_ok-cell.cell (length c.args.words.now) _
          c.in_ok-cell.ensures.cell c.self.invariant.errors;
      few = c.self.invariant.few;
    })
