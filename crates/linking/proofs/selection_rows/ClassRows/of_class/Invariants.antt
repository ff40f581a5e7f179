use Rattle.std.proofs.Common.{◌-◌}
use Rattle.model.specs.Classes.Subclasses.{enough_steps}
use Rattle.linking.specs.Selections.{gathered}
use Rattle.linking.proofs.SelectionLemmas.{Gathers}
use Rattle.linking.proofs.selection_rows.ClassRows.of_class.Given as goal

-- the rows so far, and those of the classes that follow
abbrev pub invariant-loop : goal.invariant-loop
invariant-loop l = Gathers l.classes l.class (enough_steps l.classes - l.counter) l.next (gathered l.rows)
