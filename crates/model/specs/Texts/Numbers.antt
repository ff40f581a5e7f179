use Rattle.std.specs.Prelude.{ℕ, ◌+◌, ◌-◌, ◌*◌, ℤ, pos, neg_ℤ, int_le, Bool, false, not, ◌&&◌, ◌||◌, ◌==◌, nat_le, List}
use Rattle.std.specs.Prelude.{[], ◌∷◌, Option, Some, None, codes, if◌then◌else◌}
use Rattle.std.specs.List.{list_all}
use Rattle.std.specs.Option.{option_and_then}
use Rattle.std.specs.Str.{bytes_eq}

abbrev pub is_digit : ℕ → Bool
is_digit b = nat_le 48 b && nat_le b 57

-- digits of which the first is not 0
abbrev pub is_positive_numeral : List ℕ → Bool
is_positive_numeral [] = false
is_positive_numeral (d ∷ ds) = is_digit d && not (d == 48) && list_all is_digit ds

-- the number that digits spell in the decimal system, after digits that spell n
abbrev pub decimal_from : ℕ → List ℕ → ℕ
decimal_from n [] = n
decimal_from n (d ∷ ds) = decimal_from (10 * n + (d - 48)) ds

abbrev pub decimal : List ℕ → ℕ
decimal ds = decimal_from 0 ds

-- a number without a sign: 0, or digits of which the first is not 0
abbrev pub natural_of : List ℕ → Option ℕ
natural_of word = if bytes_eq word (codes "0") || is_positive_numeral word then Some (decimal word) else None

abbrev pub negative_of : List ℕ → Option ℤ
negative_of digits = if is_positive_numeral digits then Some (neg_ℤ (pos (decimal digits))) else None

abbrev pub nonnegative_of : Option ℕ → Option ℤ
nonnegative_of None = None
nonnegative_of (Some n) = Some (pos n)

-- a number: a minus sign stands before a positive one only
abbrev pub number_of : List ℕ → Option ℤ
number_of [] = None
number_of (b ∷ bs) = if b == 45 then negative_of bs else nonnegative_of (natural_of (b ∷ bs))

-- a number from low to high
abbrev pub number_in : ℤ → ℤ → List ℕ → Option ℤ
number_in low high word = option_and_then (λ z. if int_le low z && int_le z high then Some z else None) (number_of word)

-- a number without a sign, up to high
abbrev pub natural_to : ℕ → List ℕ → Option ℕ
natural_to high word = option_and_then (λ n. if nat_le n high then Some n else None) (natural_of word)
