use Rattle.std.proofs.Common.{◌≡◌, Some, length}
use Rattle.model.specs.Texts.Heads.{declared, field_words}
use Rattle.jasmin.proofs.fields.field_words.Given as goal

-- the flags so far, and the words that follow
abbrev pub invariant-loop-next : goal.invariant-loop-next
invariant-loop-next l = declared (Some l.flags) l.name l.descriptor l.words ≡ field_words l.fn.words

abbrev pub decreases-loop-next : goal.decreases-loop-next
decreases-loop-next l = length l.words
