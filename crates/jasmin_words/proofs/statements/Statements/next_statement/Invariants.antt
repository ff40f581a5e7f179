use Rattle.std.proofs.Common.{◌≡◌, length}
use Rattle.model.specs.Texts.Statements.{statements_of}
use Rattle.jasmin_words.proofs.statements.Statements.next_statement.Given as goal

-- the lines so far had no word
abbrev pub invariant-loop-line : goal.invariant-loop-line
invariant-loop-line l = statements_of l.self-inside.lines ≡ l.fn.self

abbrev pub decreases-loop-line : goal.decreases-loop-line
decreases-loop-line l = length l.self-inside.lines
