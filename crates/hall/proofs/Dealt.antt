-- There are as many shares as roles.
use Rattle.std.proofs.Common.{◌≡◌, ◌+◌, ℕ, suc, List, [], ◌∷◌, length, refl, ap}
use Rattle.hall.specs.declared.roles.Burst.{Burst}
use Rattle.hall.specs.declared.roles.Role.{Role}
use Rattle.hall.specs.Shares.{dealt}

pub as_many : (burst : Burst) (worker : ℕ) (roles : List Role) → length (dealt burst worker roles) ≡ length roles
as_many burst worker [] = refl
as_many burst worker (role ∷ roles) = ap suc (as_many burst (worker + 1) roles)
