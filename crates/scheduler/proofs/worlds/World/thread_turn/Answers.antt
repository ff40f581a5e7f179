-- A thread's turn on the state and its row: the state is joined to what the journal stands for again.
use Rattle.std.proofs.Common.{◌∙◌, ap}
use Rattle.model.specs.declared.journals.Outcome.{Outcome}
use Rattle.model.specs.Machines.{noted}
use Rattle.scheduler.specs.Worlds.{recorded}
use Rattle.model.specs.declared.turns.Actor.TheVariants.{Thread}
use Rattle.scheduler.proofs.ErrorCells.{errors_stand}
use Rattle.scheduler.proofs.Noting.{noted_is, outcome_is, refusal_is, row_fits}
use Rattle.scheduler.proofs.worlds.World.thread_turn.Goals as goal

pub step-outcome-requires-clause-errors : goal.step-outcome-requires-clause-errors
step-outcome-requires-clause-errors c = errors_stand c.self.inside.state c.self.inside.journal c.self.inside.next
    c.self.invariant

pub step-outcome-requires-clause-allowed : goal.step-outcome-requires-clause-allowed
step-outcome-requires-clause-allowed c =
    refusal_is c.self.inside.state c.self.inside.journal c.self.inside.next c.self.invariant (Thread c.args.thread)
    ∙ (rw (← c.self.view_is) at c.requires.allowed)

pub note-requires-clause-room : goal.note-requires-clause-room
note-requires-clause-room c =
    row_fits c.self.inside.state c.self.inside.journal c.self.inside.next c.self.invariant (Thread c.args.thread)
    c.args.worker (rw (← c.self.view_is) at c.requires.allowed)

pub invariant_of-self : goal.invariant_of-self
invariant_of-self c =
    rw (c.step-outcome.ensures.turn, c.note.ensures, c.step-outcome.ensures.outcome)
    (noted_is c.self.inside.state c.self.inside.journal c.self.inside.next c.self.invariant (Thread c.args.thread)
    c.args.worker (rw (← c.self.view_is) at c.requires.allowed))

pub returns-clause-row : goal.returns-clause-row
returns-clause-row c =
    rw (c.step-outcome.ensures.turn, c.note.ensures, c.step-outcome.ensures.outcome, ← c.self.view_is)
    (ap (λ (o : Outcome). noted (recorded c.self.inside.state c.self.inside.journal)
    (record { actor = Thread c.args.thread; outcome = o; worker = c.args.worker }))
    (outcome_is c.self.inside.state c.self.inside.journal c.self.inside.next c.self.invariant (Thread c.args.thread)
    c.args.worker (rw (← c.self.view_is) at c.requires.allowed)))
