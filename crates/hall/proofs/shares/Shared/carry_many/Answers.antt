-- The journal is as long as the book's total before the rounds, and so with their rows.
use Rattle.std.proofs.Common.{◌-◌, length, ap, subst, ◌∙◌, arith}
use Rattle.model.specs.Journals.{JournalValue}
use Rattle.model.specs.Machines.{Recorded}
use Rattle.hall.specs.Shares.{CountsRows}
use Rattle.hall.proofs.Rows.{rounds_longer, rounds_counted}
use Rattle.hall.proofs.shares.Shared.carry_many.Goals as goal

pub overflow_sub-rows : goal.overflow_sub-rows
overflow_sub-rows g c =
    let first = c.len-before.ensures ∙ ap length c.rows.ensures.value ∙ ap (λ (j : JournalValue). length j.rows)
    c.journal.ensures in
    let last = c.len-rows.ensures ∙ ap length c.rows-2.ensures.value ∙ ap (λ (j : JournalValue). length j.rows)
    c.journal-2.ensures in
    let longer = rounds_longer c.self.inside.world c.rounds_by-answer.new.self c.worker.result c.args.gc c.args.extra
    c.rounds_by-answer.ensures.world in
    omega (arith, first, last, longer)

pub note_rows-requires : goal.note_rows-requires
note_rows-requires g c =
    let first = c.len-before.ensures ∙ ap length c.rows.ensures.value ∙ ap (λ (j : JournalValue). length j.rows)
    c.journal.ensures in
    let last = c.len-rows.ensures ∙ ap length c.rows-2.ensures.value ∙ ap (λ (j : JournalValue). length j.rows)
    c.journal-2.ensures in
    let longer = rounds_longer c.self.inside.world c.rounds_by-answer.new.self c.worker.result c.args.gc c.args.extra
    c.rounds_by-answer.ensures.world in
    let total = c.self.invariant in
    omega (arith, first, last, longer, total)

pub returns-clause-share : goal.returns-clause-share
returns-clause-share g c =
    let first = c.len-before.ensures ∙ ap length c.rows.ensures.value ∙ ap (λ (j : JournalValue). length j.rows)
    c.journal.ensures in
    let last = c.len-rows.ensures ∙ ap length c.rows-2.ensures.value ∙ ap (λ (j : JournalValue). length j.rows)
    c.journal-2.ensures in
    let longer = rounds_longer c.self.inside.world c.rounds_by-answer.new.self c.worker.result c.args.gc c.args.extra
    c.rounds_by-answer.ensures.world in
    let made = c.len-rows.result - c.len-before.result in
    subst (λ (v : Recorded). CountsRows v c.rounds_by-answer.new.self c.args.share.now c.note_rows.new.self)
    c.self.view_is
    (rounds_counted c.self.inside.world c.rounds_by-answer.new.self c.worker.result c.args.gc c.args.extra made
    c.args.share.now c.note_rows.new.self c.rounds_by-answer.ensures.world
    (omega (arith, first, last, longer)) c.note_rows.ensures.share)
