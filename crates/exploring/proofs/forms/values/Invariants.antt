use Rattle.std.proofs.Common.{◌≡◌, ◌++◌, drop, map}
use Rattle.model.specs.Naming.{named_value}
use Rattle.exploring.specs.Canonical.{naming_by}
use Rattle.exploring.proofs.forms.values.Given as goal

-- what was made and those that are left are all
abbrev pub invariant-loop-each : goal.invariant-loop-each
invariant-loop-each l = l.made.items ++ map (named_value (naming_by l.names)) (drop l.each-index l.values)
    ≡ map (named_value (naming_by l.names)) l.values
