-- the last of a list
use Rattle.std.proofs.Common.{◌≡◌, suc, ◌-◌, ◌<◌, List, [], ◌∷◌, ◌++◌, length, slice_set, take, drop, arith}
use Rattle.std.proofs.lemmas.List.{set_split, drop_all}

pub set_last : {X : Type 0} → (xs : List X) (x : X) → 0 < length xs → slice_set xs (length xs - 1) x
    ≡ take (length xs - 1) xs ++ x ∷ []
set_last xs x some =
    let split = set_split xs (length xs - 1) x (omega arith) in
    let none : drop (suc (length xs - 1)) xs ≡ [] = drop_all (suc (length xs - 1)) xs (omega arith) in
    cc
