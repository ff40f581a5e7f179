use Rattle.std.proofs.Common.{ℕ, ap, sym, ◌∙◌}
use Rattle.scheduler.specs.Rounds.{after_rounds as after_thread_rounds, rounds_answer as thread_rounds_answer}
use Rattle.hall.specs.Roles.{done_so_far}
use Rattle.hall.proofs.ManyRounds.{rounds-answer, rounds-world}
use Rattle.hall.proofs.shares.Shared.rounds.Goals as goal

pub returns-then-is_done-clause-world : goal.returns-then-is_done-clause-world
returns-then-is_done-clause-world g c =
    let first = c.carry_and_sweep-answer in
    let mid = first.new.self in
    c.carry_on.ensures.world
    ∙ ap (λ (worker : ℕ). after_thread_rounds mid worker c.args.gc c.args.extra) first.ensures.share.worker_is
    ∙ rounds-world c.args.self.now mid c.args.share.now.worker c.args.gc c.args.extra first.result first.ensures.answer
    first.ensures.world (sym c.is_done.ensures ∙ c.if-is_done.true)

pub returns-then-is_done-clause-answer : goal.returns-then-is_done-clause-answer
returns-then-is_done-clause-answer g c =
    let first = c.carry_and_sweep-answer in
    let mid = first.new.self in
    c.done_so_far.ensures ∙ ap done_so_far c.carry_on.ensures.answer
    ∙ ap (λ (worker : ℕ). done_so_far (thread_rounds_answer mid worker c.args.gc c.args.extra))
    first.ensures.share.worker_is
    ∙ rounds-answer c.args.self.now mid c.args.share.now.worker c.args.gc c.args.extra first.result first.ensures.answer
    first.ensures.world (sym c.is_done.ensures ∙ c.if-is_done.true)
