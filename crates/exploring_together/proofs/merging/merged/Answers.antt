use Rattle.exploring_together.proofs.merging.merged.Goals as goal

pub returns-clause-sound : goal.returns-clause-sound
returns-clause-sound c =
    λ program limits first some more.
    c.note_all.ensures.sound program limits first (rw (← c.all.view_is) at some) (rw (← c.more.view_is) at more)
