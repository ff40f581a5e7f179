use Rattle.frames.proofs.arguments.put_argument.Goals as goal

pub returns-clause-items : goal.returns-clause-items
returns-clause-items c = rw c.settled.ensures at c.put_held.ensures.items
