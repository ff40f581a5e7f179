use Rattle.std.proofs.Common.{◌≡◌, ◌++◌, drop, map}
use Rattle.model.specs.Naming.{named_field}
use Rattle.join.specs.ReadBack.{birth_read}
use Rattle.instructions.specs.Shown.{keyed}
use Rattle.instructions.proofs.state.showing.fields_holding.Given as goal

abbrev pub invariant-loop-slot : goal.invariant-loop-slot
invariant-loop-slot l =
    let shown = map (named_field (birth_read l.heap.account.cells)) in
    l.views.items ++ shown (keyed (drop l.slot l.keys) (drop l.slot l.slots)) ≡ shown (keyed l.keys l.slots)
