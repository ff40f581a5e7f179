use Rattle.std.proofs.Common.{◌≡◌, drop}
use Rattle.std.specs.List.{list_any}
use Rattle.model.specs.Ready.{is_ready, numbers_from, some_is_ready}
use Rattle.ideal_run.proofs.successors.Transitions.some_is_ready.Given as goal

-- whether one of those that are left is ready
abbrev pub invariant-loop-place : goal.invariant-loop-place
invariant-loop-place l = some_is_ready l.self.program l.world
    ≡ list_any (is_ready l.self.program l.world) (numbers_from l.place (drop l.place l.world.threads))
