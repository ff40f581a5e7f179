use Rattle.std.proofs.Common.{◌≡◌, ◌++◌, drop}
use Rattle.page_texts.specs.Shown.{classes_lines}
use Rattle.page_texts.proofs.methods.methods_answer.Given as goal

-- the text so far, and the classes that are left
abbrev pub invariant-loop-class : goal.invariant-loop-class
invariant-loop-class l = l.text.items ++ classes_lines (drop l.class-index l.program) ≡ classes_lines l.program
