use Rattle.std.specs.Prelude.{◌≡◌, ◌≤◌, take}
use Rattle.interleavings.proofs.lists.advance.Given as goal

-- what stands before the place is as it was
abbrev pub invariant-loop-place : goal.invariant-loop-place
invariant-loop-place l = (l.opening ≤ l.place) × (take l.place l.actors ≡ take l.place l.fn.actors)
