use Rattle.std.proofs.Common.{arith}
use Rattle.std.proofs.lemmas.List.{append_assoc}
use Rattle.model.specs.JournalTexts.{journal_text}
use Rattle.journal_texts.proofs.writing.write_journal.Goals as goal

pub returns : goal.returns
unfolding journal_text
returns g c = grind (
  arith,
  append_assoc,
  c.in_ok-text.ensures.items,
  c.write_heap.ensures,
  c.write_limits.ensures,
  c.write_number.ensures,
  c.write_rows.ensures,
  c.write_end.ensures,
  c.shape.ensures,
  c.limits.ensures,
  c.workers.ensures,
  c.rows.ensures,
)
