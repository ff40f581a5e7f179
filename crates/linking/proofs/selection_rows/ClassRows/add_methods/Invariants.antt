use Rattle.std.proofs.Common.{◌≡◌, ℕ, List, drop}
use Rattle.model.specs.Classes.Named.{or_else}
use Rattle.linking.specs.Selections.{first_row, gathered}
use Rattle.linking.proofs.selection_rows.ClassRows.add_methods.Given as goal

-- the rows so far, and those of the methods that follow
abbrev pub invariant-loop-place : goal.invariant-loop-place
invariant-loop-place l =
    (n d : List ℕ)
    → or_else (gathered l.self n d) (first_row l.class l.place n d (drop l.place l.methods))
    ≡ or_else (gathered l.fn.self n d) (first_row l.class 0 n d l.methods)
