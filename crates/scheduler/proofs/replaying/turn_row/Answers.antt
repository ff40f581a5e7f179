use Rattle.std.proofs.Common.{◌∙◌, ap, length}
use Rattle.model.specs.Journals.{JournalValue}
use Rattle.scheduler.proofs.Making.{one_row_at_most, row_reported}
use Rattle.scheduler.proofs.replaying.turn_row.Goals as goal

pub row_after-requires : goal.row_after-requires
row_after-requires c =
    one_row_at_most c.args.world.now c.turn_by.new.self c.args.actor c.args.worker _ _ c.turn_by.ensures.world
    (c.rows-2.ensures.value ∙ ap (λ (j : JournalValue). j.rows) c.journal-2.ensures)
    (c.len-before.ensures ∙ ap length (c.rows.ensures.value ∙ ap (λ (j : JournalValue). j.rows) c.journal.ensures))

pub returns-clause-row : goal.returns-clause-row
returns-clause-row c =
    c.row_after.ensures
    ∙ row_reported c.args.world.now c.turn_by.new.self c.args.actor c.args.worker _ _ c.turn_by.ensures.world
    (c.rows-2.ensures.value ∙ ap (λ (j : JournalValue). j.rows) c.journal-2.ensures)
    (c.len-before.ensures ∙ ap length (c.rows.ensures.value ∙ ap (λ (j : JournalValue). j.rows) c.journal.ensures))
