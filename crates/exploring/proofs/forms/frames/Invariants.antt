use Rattle.std.proofs.Common.{◌≡◌, ◌++◌, drop, map}
use Rattle.model.specs.Naming.{named_frame}
use Rattle.exploring.specs.Canonical.{naming_by}
use Rattle.exploring.proofs.forms.frames.Given as goal

-- what was made and those that are left are all
abbrev pub invariant-loop-each : goal.invariant-loop-each
invariant-loop-each l = l.made.items ++ map (named_frame (naming_by l.names)) (drop l.each-index l.frames)
    ≡ map (named_frame (naming_by l.names)) l.frames
