use Rattle.std.specs.Prelude.{ℕ, List}
use Rattle.model.specs.declared.trees.CatchRow.{CatchRow}
use Rattle.model.specs.declared.trees.TextLine.{TextLine}

-- a method's body as a text has it: its limits, its catch rows in order, and its labels and instructions in order
pub record Body : Type 0 where
  pub max_stack : ℕ
  pub max_locals : ℕ
  pub rows : List CatchRow
  pub lines : List TextLine
