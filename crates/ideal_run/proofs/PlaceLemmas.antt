-- the place of the first item that passes a test
use Rattle.std.proofs.Common.{◌≡◌, ◌≤◌, Bool, true, false, not, cond, List, length, nat_lt, position, Some, None, refl}
use Rattle.std.proofs.Common.{arith}
use Rattle.std.specs.List.{position_or_len}
use Rattle.std.specs.Option.{unwrap_or}
use Rattle.std.proofs.lemmas.List.Sums.{prefix_len-le-length}
use borrow.Author.Tests.{ltb-false}

-- the place that is none is how many there are
pub place-or : {A : Type 0} (test : A → Bool) (xs : List A) → unwrap_or (position test xs) (length xs)
    ≡ position_or_len test xs
place-or test xs = by (nat_lt (position_or_len test xs) (length xs)) refl where
  most : position_or_len test xs ≤ length xs
  most = prefix_len-le-length (λ x. not (test x)) xs

  by : (b : Bool) → nat_lt (position_or_len test xs) (length xs) ≡ b
      → unwrap_or (cond b (Some (position_or_len test xs)) None) (length xs) ≡ position_or_len test xs
  by true e = refl
  by false e = let past : length xs ≤ position_or_len test xs = ltb-false (position_or_len test xs) (length xs) e
      in omega (arith, most, past)
