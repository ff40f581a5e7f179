use Rattle.std.proofs.Common.{◌≡◌, ◌++◌, drop, map}
use Rattle.exploring.specs.Parts.{moves_of}
use Rattle.exploring.proofs.parts.rests.Given as goal

-- the parts so far and those that are left are all
abbrev pub invariant-loop-each : goal.invariant-loop-each
invariant-loop-each l = l.parts.items ++ map moves_of (drop l.each-index l.found) ≡ map moves_of l.found
