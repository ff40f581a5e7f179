use Rattle.std.proofs.Common.{◌≡◌, ◌++◌, drop}
use Rattle.page_texts.specs.Shown.{methods_lines}
use Rattle.page_texts.proofs.methods.write_methods.Given as goal

-- the text so far, and what is left
abbrev pub invariant-loop-method : goal.invariant-loop-method
invariant-loop-method l = l.text.items ++ methods_lines (drop l.method-index l.methods) ≡ l.fn.text.items ++ methods_lines l.methods
