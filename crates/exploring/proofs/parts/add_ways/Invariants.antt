use Rattle.std.proofs.Common.{◌≡◌, ◌++◌}
use Rattle.exploring.specs.Parts.{ways}
use Rattle.exploring.proofs.parts.add_ways.Given as goal

-- the parts so far and the ways to the states that still wait are all
abbrev pub invariant-loop-state : goal.invariant-loop-state
invariant-loop-state l = l.parts.items ++ ways l.first l.left.search ≡ l.fn.parts.items ++ ways l.first l.fn.exploration.search
