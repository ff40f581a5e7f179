use Rattle.std.specs.Prelude.{◌≡◌, ℕ, ◌+◌, Bool, true, false, nat_lt}
use Rattle.model.specs.Machines.{Recorded}
use Rattle.scheduler.specs.Replaying.{IsMade}
use Rattle.scheduler.specs.Rounds.{after_rounds}
use Rattle.scheduler.specs.Workers.{with_workers}
use Rattle.hall.specs.Heads.{head_of}

-- what several carriers and a collector leave of a world: its program, shape and limits with a worker for each of them,
-- and a journal that a run of the program made
pub record IsShared (before : Recorded) (carriers : ℕ) (after : Recorded) : Type 0 where
  pub head_is : head_of after ≡ head_of (with_workers before (carriers + 1))
  pub made : IsMade after

-- one carrier makes rounds, as many as the limit of steps allows and one more
abbrev pub IsCarriedBy : Bool → Recorded → ℕ → ℕ → Recorded → Type 0
IsCarriedBy true before carriers gc after = IsShared before carriers after
IsCarriedBy false before carriers gc after = after ≡ after_rounds before 0 gc (before.journal.limits.steps + 1)

-- what `jvm run` leaves of a world that has made no turn, by so many carriers and so many collector turns after one of
-- a thread
abbrev pub IsCarried : Recorded → ℕ → ℕ → Recorded → Type 0
IsCarried before carriers gc after = IsCarriedBy (nat_lt 1 carriers) before carriers gc after
