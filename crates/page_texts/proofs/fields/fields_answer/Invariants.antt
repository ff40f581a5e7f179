use Rattle.std.proofs.Common.{◌≡◌, ◌++◌, drop}
use Rattle.debug_texts.specs.Answers.{fields_text}
use Rattle.page_texts.proofs.fields.fields_answer.Given as goal

-- the text so far, and the fields that are left
abbrev pub invariant-loop-field : goal.invariant-loop-field
invariant-loop-field l = l.text.items ++ fields_text (drop l.field-index l.fields) ≡ fields_text l.fields
