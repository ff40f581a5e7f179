use Rattle.std.proofs.Common.{◌≡◌, ◌++◌, drop}
use Rattle.page_texts.specs.Shown.{births_words}
use Rattle.page_texts.proofs.lists.write_births.Given as goal

-- the text so far, and those that are left
abbrev pub invariant-loop-birth : goal.invariant-loop-birth
invariant-loop-birth l = l.text.items ++ births_words (drop l.birth-index l.births) ≡ l.fn.text.items ++ births_words l.births
