-- What a worker brings to its thread, and what comes home.
use Rattle.std.specs.Prelude.{◌≡◌, ◌≤◌, List, [], ◌∷◌}
use Rattle.board.specs.declared.seats.BoardSeat.{BoardSeat}
use Rattle.board.specs.Seats.{IsSameSeat}
use Rattle.hall.specs.Shares.{ShareValue}

-- the share keeps its worker, role and burst, and its count didn't fall
pub record IsLater (before after : ShareValue) : Type 0 where
  pub worker_is : after.worker ≡ before.worker
  pub role_is : after.role ≡ before.role
  pub burst_is : after.burst ≡ before.burst
  pub risen : before.count ≤ after.count

-- a worker's share and seat, before and after
pub record IsHome (share share' : ShareValue) (seat seat' : BoardSeat) : Type 0 where
  pub later : IsLater share share'
  pub same : IsSameSeat seat seat'

-- two lists are as long, and R holds of the items at each place
abbrev pub Pairwise : {A : Type 0} → (A → A → Type 0) → List A → List A → Type 0
Pairwise R [] [] = Unit {0}
Pairwise R [] (y ∷ ys) = ⊥
Pairwise R (x ∷ xs) [] = ⊥
Pairwise R (x ∷ xs) (y ∷ ys) = R x y × Pairwise R xs ys
