use Rattle.std.specs.Prelude.{ℕ, List, []}
use Rattle.model.specs.declared.turns.Fault.{Fault}
use Rattle.model.specs.Worlds.{World, with_fault}

-- what a thread's turn comes to: the world after it, and the births that it wrote, in the order of writing
pub record Effect : Type 0 where
  pub after : World
  pub writes : List ℕ

-- a fault changes nothing but the recorded fault
abbrev pub faulted : World → ℕ → Fault → Effect
faulted w t fault = record { after = with_fault w t fault; writes = [] }
