use Rattle.std.proofs.Common.{length, refl, ap, arith}
use Rattle.cells.specs.Objects.{words_if}
use Rattle.cells.proofs.LayoutLemmas.{looked_up, stands_at, object_missing, length_found}
use Rattle.cells.proofs.CellLemmas.{written, unwritten}
use Rattle.cells.proofs.cells.Cells.put.Goals as goal

pub returns-in_default-clause-after : goal.returns-in_default-clause-after
returns-in_default-clause-after g c =
    let missing = looked_up _ _ _ _ _ c.deref.ensures.value c.header_at.ensures c.in_default.is in
    let none = ap (λ o. length (words_if o)) (object_missing c.self.inside.words c.self.inside.headers.items c.args.cell
    missing) in
    rw (← c.self.view_is) (unwritten _ c.args.cell c.args.index c.args.value (omega (arith, none)))

pub returns-then-index-from-clause-there : goal.returns-then-index-from-clause-there
returns-then-index-from-clause-there g c =
    let found = looked_up _ _ _ _ _ c.deref.ensures.value c.header_at.ensures c.in-Some.is in
    let long = length_found _ _ _ _ _ c.self.invariant found in
    rw (← c.self.view_is) ((λ t. cc t), (λ within. absurd (omega (arith, long, within))))

pub returns-then-index-from-clause-after : goal.returns-then-index-from-clause-after
returns-then-index-from-clause-after g c =
    let found = looked_up _ _ _ _ _ c.deref.ensures.value c.header_at.ensures c.in-Some.is in
    let long = length_found _ _ _ _ _ c.self.invariant found in
    rw (← c.self.view_is) (unwritten _ c.args.cell c.args.index c.args.value (omega (arith, long)))

pub put-requires : goal.put-requires
put-requires g c =
    let found = looked_up _ _ _ _ _ c.deref.ensures.value c.header_at.ensures c.in-Some.is in
    let at = stands_at _ _ _ _ _ _ c.args.cell _ c.self.invariant found (omega arith) in
    let fits = at.0.fits in
    let room_is = at.0.room_is in
    let within = at.1 in
    omega (arith, fits, room_is, within)

pub returns-clause-there : goal.returns-clause-there
returns-clause-there g c =
    let found = looked_up _ _ _ _ _ c.deref.ensures.value c.header_at.ensures c.in-Some.is in
    let long = length_found _ _ _ _ _ c.self.invariant found in
    rw (← c.self.view_is) ((λ t. omega (arith, long)), (λ within. refl))

pub returns-clause-after : goal.returns-clause-after
returns-clause-after g c =
    let found = looked_up _ _ _ _ _ c.deref.ensures.value c.header_at.ensures c.in-Some.is in
    rw (← c.self.view_is, c.put.ensures) (written _ _ _ _ _ _ _ _ c.self.invariant found (omega arith))
