use Rattle.std.proofs.Common.{◌+◌, refl, ap, arith}
use Rattle.cells.specs.Objects.{words_if}
use Rattle.cells.proofs.LayoutLemmas.{words_found, object_missing, stands_at, looked_up}
use Rattle.cells.proofs.cells.Cells.values.Goals as goal

pub values-requires-in-Some : goal.values-requires-in-Some
values-requires-in-Some g c =
    let found = looked_up _ _ _ _ _ c.deref.ensures.value c.header_at.ensures c.in-Some.is in
    let at = stands_at _ _ _ _ _ _ (0 + c.args.cell) _ c.self.invariant found refl in
    let fits = at.0.fits in
    let room_is = at.0.room_is in
    let within = at.1 in
    omega (arith, fits, room_is, within)

pub returns-in-None : goal.returns-in-None
returns-in-None g c =
    let missing = looked_up _ _ _ _ _ c.deref.ensures.value c.header_at.ensures c.in-None.is in
    rw (
      ← c.self.view_is,
      ap words_if (object_missing c.self.inside.words c.self.inside.headers.items c.args.cell missing),
    )
    c.values.ensures

pub returns-in-Some : goal.returns-in-Some
returns-in-Some g c =
    let found = looked_up _ _ _ _ _ c.deref.ensures.value c.header_at.ensures c.in-Some.is in
    rw (← c.self.view_is, words_found _ _ _ _ _ c.self.invariant found) c.values-in-Some.ensures
