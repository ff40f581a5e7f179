use native.Mathlib.Omega.{arith}
use Rattle.std.proofs.Common.{◌≡◌, refl, ℕ, suc, List, [], ◌∷◌, Bool, true, false, ltb, ◌||◌, ◌==◌, if◌then◌else◌}
use Rattle.std.specs.List.{list_any}
use Rattle.model.specs.declared.listings.Placed.{Placed}
use Rattle.linking.specs.Offsets.{offset_from}

-- an offset is above 0 where an instruction begins
at_one : (n : ℕ) (same : Bool) (rest : ℕ) (begins : Bool) → ltb 0 rest ≡ begins → ltb 0 (if same then suc n else rest)
    ≡ (same || begins)
at_one n true rest begins following = grind arith
at_one n false rest begins following = following

pub begins-at : (n : ℕ) (instructions : List Placed) (pc : ℕ)
    → ltb 0 (offset_from (suc n) instructions pc) ≡ list_any (λ (i : Placed). i.pc == pc) instructions
begins-at n [] pc = refl
begins-at n (i ∷ is) pc =
    at_one n (i.pc == pc) (offset_from (suc (suc n)) is pc) (list_any (λ (x : Placed). x.pc == pc) is)
    (begins-at (suc n) is pc)
