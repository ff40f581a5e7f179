use Rattle.std.specs.Prelude.{ℕ, List}
use Rattle.model.specs.declared.journals.Row.{Row}

-- rows, and how many of them there is memory for, whatever they are
pub record KeptRows : Type 0 where
  pub rows : List Row
  pub room : ℕ
