use Rattle.std.proofs.Common.{◌≡◌, ◌<◌, ℕ, Some, slice_get}
use Rattle.model.specs.Shows.{Held}
use Rattle.scheduler.specs.Showing.{held_at}
use Rattle.comparison.proofs.showing.has_all_held.Given as goal

-- the first ones are the objects of their births
abbrev pub invariant-loop-n : goal.invariant-loop-n
invariant-loop-n l = (k : ℕ) (held : Held) → k < l.n → slice_get l.helds k ≡ Some (Some held)
    → held_at l.other held.birth ≡ Some held
