use Rattle.std.proofs.Common.{arith}
use Rattle.std.proofs.lemmas.Option.{slice_get_within}
use Rattle.model.specs.declared.colours.Cell.TheVariants.{Free}
use Rattle.model.specs.Accounts.{take_cell}
use Rattle.colours.proofs.Steps.{one_taken}
use Rattle.instructions.proofs.ErrorLemmas.{came_errors}
use Rattle.instructions.proofs.AgreeLemmas.{came_agree, nobody_in_free, taken_fits}
use Rattle.instructions.proofs.heaps.Heap.create_filled.Goals as goal

pub place-requires-clause-nobody : goal.place-requires-clause-nobody
place-requires-clause-nobody c =
    nobody_in_free _ _ c.in_ok-cell.cell c.self.invariant.agree.taken c.in_ok-cell.ensures.free

pub place-requires-clause-room : goal.place-requires-clause-room
place-requires-clause-room c =
    let t = one_taken c.self.inside.account c.self.inside.births c.in_ok-cell.cell
    (take_cell c.self.inside.account c.args.count) c.in_ok-cell.ensures.cell in
    taken_fits c.self.inside.cells.shape c.self.inside.account c.self.inside.cells.objects c.args.count
    (c.in_ok-cell.cell, t.0) c.self.invariant.agree t.1

pub overflow_add-result : goal.overflow_add-result
overflow_add-result c =
    let within = slice_get_within c.self.inside.account.cells c.in_ok-cell.cell Free c.in_ok-cell.ensures.free in
    let count = c.self.invariant.agree.count in
    let few = c.self.invariant.agree.fits.1 in
    omega (arith, within, count, few)

pub invariant_of-self-2 : goal.invariant_of-self-2
invariant_of-self-2 c =
    rw (c.place.ensures, c.create.ensures.account)
    (record {
      agree = came_agree _ _ _ c.args.count c.self.inside.births c.in_ok-cell.cell _ c.self.invariant.agree
          c.in_ok-cell.ensures.cell;
      errors = came_errors _ _ _ _ c.self.inside.births c.in_ok-cell.cell c.args.count _ c.in_ok-cell.ensures.cell
          c.self.invariant.errors;
      few = c.self.invariant.few;
    })
