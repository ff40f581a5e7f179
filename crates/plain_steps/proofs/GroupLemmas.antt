-- groups of values at the top of a stack
use Rattle.std.proofs.Common.{◌≡◌, ℕ, ◌+◌, ◌≤◌, List, [], ◌∷◌, length, take, drop, arith}
use Rattle.std.proofs.lemmas.List.{drop-drop}
use Rattle.model.specs.declared.values.Value.{Value}
use Rattle.model.specs.declared.values.Value.TheVariants.{Int, Long, Ref}
use Rattle.model.specs.Values.{units_of_all}

-- one value more is dropped
pub drop-one : (n : ℕ) (vs : List Value) → drop 1 (drop n vs) ≡ drop (n + 1) vs
drop-one n vs = drop-drop 1 n vs

-- two values take two units at least
pub two_units : (vs : List Value) → 2 ≤ length vs → 2 ≤ units_of_all (take 2 vs)
two_units [] h = absurd (omega arith)
two_units (v ∷ []) h = absurd (omega arith)
two_units (Int z ∷ Int y ∷ vs) h = omega arith
two_units (Int z ∷ Long y ∷ vs) h = omega arith
two_units (Int z ∷ Ref r ∷ vs) h = omega arith
two_units (Long z ∷ Int y ∷ vs) h = omega arith
two_units (Long z ∷ Long y ∷ vs) h = omega arith
two_units (Long z ∷ Ref r ∷ vs) h = omega arith
two_units (Ref s ∷ Int y ∷ vs) h = omega arith
two_units (Ref s ∷ Long y ∷ vs) h = omega arith
two_units (Ref s ∷ Ref r ∷ vs) h = omega arith

pub ruleset groups = (drop-one, two_units)
