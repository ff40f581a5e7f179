-- The journal is as long as the book's total before the turn, and so with the turn's row, if it made one.
use Rattle.std.proofs.Common.{◌+◌, ℕ, length, ap, sym, subst, ◌∙◌}
use Rattle.model.specs.Journals.{JournalValue}
use Rattle.model.specs.Machines.{Recorded}
use Rattle.hall.specs.Shares.{CountsRows, rows_by}
use Rattle.hall.proofs.Rows.{pick_made, turn_length, turn_counts}
use Rattle.hall.proofs.shares.Shared.carry.Goals as goal

pub note-requires : goal.note-requires
note-requires g c =
    let t = c.turn_of_picked-answer.result in
    let adds = pick_made c.self.inside.world c.turn_of_picked-answer.new.self c.worker.result t
    c.turn_of_picked-answer.ensures.world c.turn_of_picked-answer.ensures.answer in
    ap (λ (n : ℕ). n + rows_by t) (sym c.self.invariant)
    ∙ turn_length c.self.inside.world c.turn_of_picked-answer.new.self c.worker.result t adds
    ∙ sym (c.len-rows.ensures ∙ ap length c.rows.ensures.value ∙ ap (λ (j : JournalValue). length j.rows)
    c.journal.ensures)

pub invariant_of-self : goal.invariant_of-self
invariant_of-self g c = sym (c.note.ensures.total ∙ c.len-rows.ensures ∙ ap length c.rows.ensures.value
    ∙ ap (λ (j : JournalValue). length j.rows) c.journal.ensures)

pub returns-clause-share : goal.returns-clause-share
returns-clause-share g c =
    let t = c.turn_of_picked-answer.result in
    let adds = pick_made c.self.inside.world c.turn_of_picked-answer.new.self c.worker.result t
    c.turn_of_picked-answer.ensures.world c.turn_of_picked-answer.ensures.answer in
    subst (λ (v : Recorded). CountsRows v c.turn_of_picked-answer.new.self c.args.share.now c.note.new.self)
    c.self.view_is
    (turn_counts c.self.inside.world c.turn_of_picked-answer.new.self c.worker.result t adds c.args.share.now
    c.note.new.self c.note.ensures.share)
