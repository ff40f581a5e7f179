use Rattle.std.proofs.Common.{◌≡◌, ◌++◌, drop, map}
use Rattle.model.specs.Naming.{named_entry}
use Rattle.exploring.specs.Canonical.{naming_by}
use Rattle.exploring.proofs.forms.entries.Given as goal

-- what was made and those that are left are all
abbrev pub invariant-loop-each : goal.invariant-loop-each
invariant-loop-each l = l.made.items ++ map (named_entry (naming_by l.names)) (drop l.each-index l.entries)
    ≡ map (named_entry (naming_by l.names)) l.entries
