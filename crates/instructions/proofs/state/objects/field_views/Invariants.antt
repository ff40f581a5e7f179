use Rattle.std.proofs.Common.{◌≡◌, ◌++◌, drop, map}
use Rattle.model.specs.Naming.{named_field}
use Rattle.model.specs.Words.{unwritten}
use Rattle.join.specs.ReadBack.{birth_read}
use Rattle.instructions.specs.Shown.{keyed}
use Rattle.instructions.proofs.state.objects.field_views.Given as goal

abbrev pub invariant-loop-place : goal.invariant-loop-place
invariant-loop-place l =
    let shown = map (named_field (birth_read l.heap.account.cells)) in
    l.views.items ++ shown (keyed (drop l.place (map unwritten l.fields)) (drop l.place l.words))
    ≡ shown (keyed (map unwritten l.fields) l.words)
