use Rattle.std.proofs.Common.{◌≡◌, ◌-◌}
use Rattle.collector.specs.Reaching.{spread}
use Rattle.exploring.proofs.walk.spread.Given as goal

abbrev pub invariant-loop-n : goal.invariant-loop-n
invariant-loop-n l = spread l.world (l.count - l.n) l.n l.reaching ≡ spread l.world l.count 0 l.fn.reaching
