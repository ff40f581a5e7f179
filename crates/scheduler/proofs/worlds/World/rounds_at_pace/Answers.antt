use Rattle.std.proofs.Common.{ℕ, subst, sym}
use Rattle.scheduler.specs.Worlds.{IsOf}
use Rattle.scheduler.proofs.RoundsWithSweeps.{enters}
use Rattle.scheduler.proofs.worlds.World.rounds_at_pace.Goals as goal

pub rounds_plainly-rounds-requires-clause-rows : goal.rounds_plainly-rounds-requires-clause-rows
rounds_plainly-rounds-requires-clause-rows c = sym c.self.invariant.rows_are

pub rounds_plainly-rounds-requires-clause-limits : goal.rounds_plainly-rounds-requires-clause-limits
rounds_plainly-rounds-requires-clause-limits c = sym c.self.invariant.limits_are

pub invariant_of-self : goal.invariant_of-self
invariant_of-self c =
    let a = c.self.inside in
    let ran = c.rounds_plainly-rounds in
    let on = enters a.state a.journal a.next c.self.invariant c.args.pace.stops c.args.pace.worker c.args.pace.gc ran.result ran.new.self
    ran.new.journal ran.ensures.made in
    subst (λ (i : ℕ). IsOf ran.new.self ran.new.journal i) (sym c.start_after_rounds-self-inside.ensures) on.joined

pub returns-clause-rounds : goal.returns-clause-rounds
returns-clause-rounds c =
    let a = c.self.inside in
    let ran = c.rounds_plainly-rounds in
    rw (← c.self.view_is)
    (enters a.state a.journal a.next c.self.invariant c.args.pace.stops c.args.pace.worker c.args.pace.gc ran.result ran.new.self ran.new.journal
    ran.ensures.made).into

pub returns-clause-past : goal.returns-clause-past
returns-clause-past c =
    let a = c.self.inside in
    let ran = c.rounds_plainly-rounds in
    rw (← c.self.view_is)
    (enters a.state a.journal a.next c.self.invariant c.args.pace.stops c.args.pace.worker c.args.pace.gc ran.result ran.new.self
    ran.new.journal ran.ensures.made).past

pub returns-clause-workers : goal.returns-clause-workers
returns-clause-workers c =
    let a = c.self.inside in
    let ran = c.rounds_plainly-rounds in
    rw (← c.self.view_is)
    (enters a.state a.journal a.next c.self.invariant c.args.pace.stops c.args.pace.worker c.args.pace.gc ran.result ran.new.self ran.new.journal
    ran.ensures.made).workers
