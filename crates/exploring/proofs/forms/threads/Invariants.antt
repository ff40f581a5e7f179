use Rattle.std.proofs.Common.{◌≡◌, ◌++◌, drop, map}
use Rattle.model.specs.Naming.{named_thread}
use Rattle.exploring.specs.Canonical.{naming_by}
use Rattle.exploring.proofs.forms.threads.Given as goal

-- what was made and those that are left are all
abbrev pub invariant-loop-each : goal.invariant-loop-each
invariant-loop-each l = l.made.items ++ map (named_thread (naming_by l.names)) (drop l.each-index l.threads)
    ≡ map (named_thread (naming_by l.names)) l.threads
