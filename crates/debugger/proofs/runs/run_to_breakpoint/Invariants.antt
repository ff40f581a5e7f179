use Rattle.std.proofs.Common.{◌≡◌, ◌≤◌, ◌-◌, nat_eq}
use Rattle.debugger.specs.Runs.{Covers, run_for, run_on}
use Rattle.debugger.proofs.RunSteps.{more}
use Rattle.debugger.proofs.runs.run_to_breakpoint.Given as goal

-- what is left leads where the whole leads
abbrev pub invariant-turns : goal.invariant-turns
invariant-turns l = record {
  few : l.made ≤ l.turns;
  leads : more l.made (run_on l.breakpoints.slots (nat_eq l.made 0) (l.turns - l.made) l.world)
      ≡ run_for l.breakpoints.slots l.turns l.initial.world;
}

abbrev pub decreases-turns : goal.decreases-turns
decreases-turns l = l.turns - l.made
