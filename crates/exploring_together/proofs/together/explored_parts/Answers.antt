use Rattle.std.proofs.Common.{rules}
use Rattle.exploring_together.proofs.TogetherLemmas.{each_of_part}
use Rattle.exploring_together.proofs.together.explored_parts.Goals as goal

pub returns-in-Ok : goal.returns-in-Ok
returns-in-Ok g c =
    let s = c.args.transitions.now in
    each_of_part s.program s.limits c.args.bounds.no_room c.args.parts.now c.in-Ok.explored.items (search rules)
    (λ i d below. let one = (c.in-Ok.ensures.each i d below).1 in search rules)
