use Rattle.exploring.specs.Explorations.{Exploration}
use Rattle.exploring.proofs.ExplorationLemmas.{begins}
use Rattle.exploring.proofs.schedules.Exploration.new.Goals as goal

pub returns : goal.returns
returns c =
    λ first no_room met long.
    let s = c.args.transitions.now in
    let made : Exploration = record { search = c.in_ok-search.search; outcomes = c.new-outcomes.result } in
    begins s.program s.limits first no_room made c.args.start met (c.in_ok-search.ensures.known first met long)
    c.in_ok-search.ensures.waits c.new-outcomes.ensures
