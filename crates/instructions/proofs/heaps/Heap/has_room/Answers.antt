use Rattle.instructions.proofs.AgreeLemmas.{taken_among}
use Rattle.instructions.proofs.heaps.Heap.has_room.Goals as goal

pub returns-clause-there : goal.returns-clause-there
returns-clause-there c = rw (← c.self.view_is) (taken_among _ _ _ c.self.invariant.agree.taken c.has_room.ensures.there)
