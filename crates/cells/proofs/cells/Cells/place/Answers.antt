use Rattle.std.proofs.Common.{◌≡◌, ◌≤◌, length, arith}
use Rattle.std.proofs.lemmas.List.{length-replicate}
use Rattle.std.specs.Prelude.{replicate}
use Rattle.std.proofs.lemmas.Option.{slice_get_within}
use Rattle.cells.proofs.LayoutLemmas.{laid_out-occupied, looked_up, stands_at}
use Rattle.cells.proofs.WordLemmas.{overwrite_same}
use Rattle.cells.proofs.CellLemmas.{placed, nowhere, enough}
use Rattle.cells.proofs.cells.Cells.place.Goals as goal

pub fill-requires : goal.fill-requires
fill-requires g c =
    let found = looked_up _ _ _ _ _ c.deref.ensures.value c.header_at.ensures c.in-Some.is in
    let at = stands_at _ _ _ _ _ _ c.args.cell _ c.self.invariant found (omega arith) in
    let fits : c.args.count ≤ c.in-Some.header.room = enough _ _ _ _ _ _ _ c.self.view_is at.0.room_is c.requires.room
    in
    let within = at.1 in
    omega (arith, fits, within)

pub index_mut-requires : goal.index_mut-requires
index_mut-requires g c =
    let found = looked_up _ _ _ _ _ c.deref.ensures.value c.header_at.ensures c.in-Some.is in
    let within = slice_get_within c.self.inside.headers.items c.args.cell c.in-Some.header found in
    omega (arith, within)

pub invariant_of-self : goal.invariant_of-self
invariant_of-self g c =
    let found = looked_up _ _ _ _ _ c.deref.ensures.value c.header_at.ensures c.in-Some.is in
    let at = stands_at _ _ _ _ _ _ c.args.cell _ c.self.invariant found (omega arith) in
    let fits : c.args.count ≤ c.in-Some.header.room = enough _ _ _ _ _ _ _ c.self.view_is at.0.room_is c.requires.room
    in
    let long : length c.fill.new.self ≡ length c.self.inside.words = rw c.fill.ensures
    (overwrite_same c.self.inside.words c.in-Some.header.base _ (replicate c.args.count c.args.zero)
    (length-replicate _ _) (omega (arith, fits, at.1))).long in
    laid_out-occupied _ _ _ _ _ _ _ _ _ c.self.invariant long found fits c.occupied.ensures

pub returns-in-Some : goal.returns-in-Some
returns-in-Some g c =
    let found = looked_up _ _ _ _ _ c.deref.ensures.value c.header_at.ensures c.in-Some.is in
    let at = stands_at _ _ _ _ _ _ c.args.cell _ c.self.invariant found (omega arith) in
    let fits : c.args.count ≤ c.in-Some.header.room = enough _ _ _ _ _ _ _ c.self.view_is at.0.room_is c.requires.room
    in
    rw (← c.self.view_is) (placed _ _ _ _ _ _ _ _ c.in-Some.header _ c.args.kind c.self.invariant found
    (length-replicate _ _) fits c.fill.ensures c.occupied.ensures)

pub returns-in_default : goal.returns-in_default
returns-in_default g c =
    let missing = looked_up _ _ _ _ _ c.deref.ensures.value c.header_at.ensures c.in_default.is in
    rw (← c.self.view_is) (nowhere _ _ _ _ _ missing)
