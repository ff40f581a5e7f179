-- The collector's turn on the state and its row: the state is joined to what the journal stands for again.
use Rattle.std.proofs.Common.{◌∙◌}
use Rattle.model.specs.declared.turns.Actor.TheVariants.{Collector}
use Rattle.scheduler.proofs.Noting.{noted_is, refusal_is, row_fits}
use Rattle.scheduler.proofs.worlds.World.collector_turn.Goals as goal

pub collect-requires : goal.collect-requires
collect-requires c =
    refusal_is c.self.inside.state c.self.inside.journal c.self.inside.next c.self.invariant Collector
    ∙ (rw (← c.self.view_is) at c.requires.allowed)

pub note-requires-clause-room : goal.note-requires-clause-room
note-requires-clause-room c =
    row_fits c.self.inside.state c.self.inside.journal c.self.inside.next c.self.invariant Collector c.args.worker
    (rw (← c.self.view_is) at c.requires.allowed)

pub invariant_of-self : goal.invariant_of-self
invariant_of-self c =
    rw (c.collect.ensures, c.note.ensures)
    (noted_is c.self.inside.state c.self.inside.journal c.self.inside.next c.self.invariant Collector c.args.worker
    (rw (← c.self.view_is) at c.requires.allowed))
