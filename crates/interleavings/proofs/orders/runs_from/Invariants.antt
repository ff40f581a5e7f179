use Rattle.std.specs.Prelude.{◌≤◌, length}
use Rattle.interleavings.proofs.orders.runs_from.Given as goal

-- a list is as long as its opening at least
abbrev pub invariant-loop-run : goal.invariant-loop-run
invariant-loop-run l = l.opening ≤ length l.actors.items
