use Rattle.std.proofs.Common.{◌≤◌, ◌-◌}
use Rattle.linking.specs.ClassTables.{class_tables}
use Rattle.instructions.specs.InitialisingByNumbers.{chain_at}
use Rattle.instructions.proofs.ClaimLemmas.{Walks}
use Rattle.instructions.proofs.claims.unused_classes.Given as goal

-- so many classes were passed that were never used, and the rest is found from the next on
abbrev pub invariant-loop : goal.invariant-loop
invariant-loop l =
    Walks (class_tables l.program) l.states (chain_at l.program l.states l.class) (l.steps - l.counter) l.next l.count
    × (l.count ≤ l.counter)
