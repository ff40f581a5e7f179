use Rattle.std.proofs.Common.{◌≡◌, ◌++◌, drop}
use Rattle.debug_texts.specs.Answers.{values_text}
use Rattle.debug_texts.proofs.values.write_values.Given as goal

-- the text so far, and those that are left
abbrev pub invariant-loop-value : goal.invariant-loop-value
invariant-loop-value l = l.text.items ++ values_text (drop l.value-index l.values) ≡ l.fn.text.items ++ values_text l.values
