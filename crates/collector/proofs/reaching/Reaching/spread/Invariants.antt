use Rattle.std.proofs.Common.{◌≡◌, ◌-◌}
use Rattle.collector.specs.Reaching.{spread}
use Rattle.collector.proofs.reaching.Reaching.spread.Given as goal

abbrev pub invariant-loop-n : goal.invariant-loop-n
invariant-loop-n g l = spread (g.R.References.world l.references) (l.count - l.n) l.n l.self
    ≡ spread (g.R.References.world l.references) l.count 0 l.fn.self
