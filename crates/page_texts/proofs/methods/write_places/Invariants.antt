use Rattle.std.proofs.Common.{◌≡◌, ◌++◌, drop}
use Rattle.page_texts.specs.Shown.{places_text}
use Rattle.page_texts.proofs.methods.write_places.Given as goal

-- the text so far, and what is left
abbrev pub invariant-loop-placed : goal.invariant-loop-placed
invariant-loop-placed l = l.text.items ++ places_text (drop l.placed-index l.instructions) ≡ l.fn.text.items ++ places_text l.instructions
