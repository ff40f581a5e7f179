use Rattle.std.proofs.Common.{◌≡◌, ◌++◌, drop}
use Rattle.debug_texts.specs.Answers.{entries_text}
use Rattle.debug_texts.proofs.values.write_entries.Given as goal

-- the text so far, and those that are left
abbrev pub invariant-loop-entry : goal.invariant-loop-entry
invariant-loop-entry l = l.text.items ++ entries_text (drop l.entry-index l.entries) ≡ l.fn.text.items ++ entries_text l.entries
