-- The text of a listing is read back as its statements.
use Rattle.std.proofs.Common.{◌≡◌, ℕ, true, List, ap, ◌∙◌}
use Rattle.model.specs.ClassListings.{ClassListing}
use Rattle.model.specs.Texts.Disassembling.{text_of}
use Rattle.model.specs.Texts.Lines.{lines_of}
use Rattle.model.specs.Texts.Spelled.{is_spelled}
use Rattle.model.specs.Texts.Statements.{statements_of}
use Rattle.disasm.specs.Statements.{class_statements, statements_back}
use Rattle.disasm.proofs.PlainWords.{read_lines}
use Rattle.disasm.proofs.SpelledWords.{class_statements_said}
use Rattle.disasm.proofs.SpokenText.{text_is}

pub text_statements : (l : ClassListing) → is_spelled l ≡ true → statements_of (lines_of (text_of l))
    ≡ statements_back l
unfolding statements_back
text_statements l spelled = ap (λ (bytes : List ℕ). statements_of (lines_of bytes)) (text_is l)
    ∙ read_lines (class_statements l) (class_statements_said l spelled)
