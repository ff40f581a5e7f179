use Rattle.std.proofs.Common.{◌∙◌, sym}
use Rattle.linking.specs.Selections.{gathered}
use Rattle.linking.proofs.SelectionLemmas.{add-new}
use Rattle.linking.proofs.selection_rows.ClassRows.add.Goals as goal

pub returns-in_ok-insert : goal.returns-in_ok-insert
returns-in_ok-insert c =
    add-new (gathered c.args.self.now) (gathered (record { rows = c.insert.new.self })) c.args.name.now
    c.args.descriptor.now c.args.row
    (sym c.contains_key.ensures ∙ c.if-not-contains_key.true)
    (λ n d. c.in_ok-insert.ensures.updates.0 (
      record { ref_ptr = (0, 0); now = n },
      record { ref_ptr = (0, 0); now = d },
    ))
