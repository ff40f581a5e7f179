use Rattle.std.specs.Prelude.{ℕ, List}
use Rattle.model.specs.declared.listings.ExceptionRow.{ExceptionRow}
use Rattle.model.specs.declared.listings.Placed.{Placed}

-- a method's code (JVMS 4.7.3): its limits, its exception rows in order, and its instructions with their pcs
pub record CodeListing : Type 0 where
  pub max_stack : ℕ
  pub max_locals : ℕ
  pub rows : List ExceptionRow
  pub instructions : List Placed
