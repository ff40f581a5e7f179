use Rattle.std.specs.Prelude.{ℤ, List}

-- the operands of a tableswitch: a target for each int from low up, and one for all others
pub record Table (Target : Type 0) : Type 0 where
  pub low : ℤ
  pub targets : List Target
  pub default : Target

-- the operands of a lookupswitch: a target for each key, and one for all other ints
pub record Lookup (Target : Type 0) : Type 0 where
  pub pairs : List (ℤ × Target)
  pub default : Target
