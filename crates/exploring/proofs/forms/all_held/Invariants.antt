use Rattle.std.proofs.Common.{◌≡◌, ◌∷◌, ◌++◌, drop, map}
use Rattle.join.specs.OnCells.{held_object, nobody}
use Rattle.exploration.specs.CanonicalForms.{taken}
use Rattle.exploring.specs.Canonical.{naming_by}
use Rattle.exploring.proofs.forms.all_held.Given as goal

-- what was made and those that are left are all
abbrev pub invariant-loop-birth : goal.invariant-loop-birth
invariant-loop-birth l = l.made.items ++ map (held_object (naming_by l.names) l.objects) (taken (drop l.birth-index l.order))
    ≡ nobody ∷ map (held_object (naming_by l.names) l.objects) (taken l.order)
