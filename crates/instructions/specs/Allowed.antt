use Rattle.std.specs.Prelude.{◌≡◌, ◌<◌, ◌≤◌, ◌+◌, ℕ, length, None, IfSome, true}
use Rattle.model.specs.Worlds.{is_live}
use Rattle.model.specs.Turns.{print_of}
use Rattle.instructions.specs.Loaded.{Loaded}

-- nothing refuses a thread's turn
pub record IsAllowed (s : Loaded) (t : ℕ) : Type 0 where
  pub faultless : s.machine.world.fault ≡ None
  pub counted : s.machine.world.rows < s.limits.steps
  pub live : is_live s.machine.world t ≡ true
  pub fits : IfSome (print_of s.program s.machine.world t) (λ line. length s.machine.world.output + length
      line ≤ s.limits.output)
