use Rattle.std.proofs.Common.{◌≡◌, drop}
use Rattle.std.specs.List.{list_any}
use Rattle.model.specs.Ready.{numbers_from, some_lives}
use Rattle.model.specs.Worlds.{is_live}
use Rattle.ideal_run.proofs.successors.some_lives.Given as goal

-- whether one of those that are left lives
abbrev pub invariant-loop-place : goal.invariant-loop-place
invariant-loop-place l = some_lives l.world
    ≡ list_any (is_live l.world) (numbers_from l.place (drop l.place l.world.threads))
