use Rattle.std.proofs.Common.{◌<◌, List}
use Rattle.model.specs.Worlds.{World}
use Rattle.exploring.specs.declared.explored.Move.{Move}
use Rattle.exploring.specs.Expansion.{ExpandsBelow, HasKnown, IsTraced}
use Rattle.exploring.proofs.search.Search.expand.Given as goal

-- so far what the turns of the first threads lead to was found
abbrev pub invariant-loop-place : goal.invariant-loop-place
invariant-loop-place l = (first : List Move) (known : List World)
    → HasKnown l.transitions.program l.transitions.limits first l.fn.self known
    → IsTraced l.transitions.program l.transitions.limits first l.fn.self.origins l.state
    → l.state.depth < l.transitions.limits.steps
    → ExpandsBelow l.transitions.program l.transitions.limits first l.bounds.no_room l.fn.self l.self known l.state.world
    l.place l.moved
