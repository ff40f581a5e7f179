-- Worked switches. Stacks are written top first.
use Rattle.std.specs.Prelude.{◌≡◌, ℕ, pos, negsuc, List, [], ◌∷◌, Result, Some, refl}
use Rattle.model.specs.declared.values.Value.{Value}
use Rattle.model.specs.declared.values.Value.TheVariants.{Int, Long, Ref}
use Rattle.model.specs.declared.turns.Fault.TheVariants.{StackEmpty, WrongKind}
use Rattle.model.specs.declared.turns.Abrupt.{Abrupt}
use Rattle.model.specs.Switches.{Table, Lookup}
use Rattle.model.specs.Frames.{Moved}
use Rattle.model.specs.Table.Switches.{table_switched, lookup_switched}
use Rattle.model.proofs.TableRows.Worked.{frame, goes, fails}

-- ---- by a table: of the two greatest ints, and of three ints about 0

abbrev greatest : Table ℕ
greatest = record { low = pos 2147483646; targets = 20 ∷ 30 ∷ []; default = 40 }

abbrev about_zero : Table ℕ
about_zero = record { low = negsuc 0; targets = 20 ∷ 30 ∷ 20 ∷ []; default = 40 }

abbrev by_table : Table ℕ → List Value → Result Moved Abrupt
by_table table stack = table_switched table (frame 3 [] stack 4)

abbrev at : ℕ → List Value → Result Moved Abrupt
at target stack = goes (frame target [] stack 4) []

pub first_of_the_greatest : by_table greatest (Int (pos 2147483646) ∷ Int (pos 1) ∷ []) ≡ at 20 (Int (pos 1) ∷ [])
first_of_the_greatest = refl

pub second_of_the_greatest : by_table greatest (Int (pos 2147483647) ∷ []) ≡ at 30 []
second_of_the_greatest = refl

pub below_the_greatest : by_table greatest (Int (pos 2147483645) ∷ []) ≡ at 40 []
below_the_greatest = refl

pub least_to_default : by_table greatest (Int (negsuc 2147483647) ∷ []) ≡ at 40 []
least_to_default = refl

pub minus_one_first : by_table about_zero (Int (negsuc 0) ∷ []) ≡ at 20 []
minus_one_first = refl

pub zero_second : by_table about_zero (Int (pos 0) ∷ []) ≡ at 30 []
zero_second = refl

pub one_third : by_table about_zero (Int (pos 1) ∷ []) ≡ at 20 []
one_third = refl

pub two_past_the_table : by_table about_zero (Int (pos 2) ∷ []) ≡ at 40 []
two_past_the_table = refl

pub minus_two_before_the_table : by_table about_zero (Int (negsuc 1) ∷ []) ≡ at 40 []
minus_two_before_the_table = refl

pub table_of_nothing : by_table greatest [] ≡ fails StackEmpty
table_of_nothing = refl

pub table_of_a_long : by_table greatest (Long (pos 1) ∷ []) ≡ fails WrongKind
table_of_a_long = refl

-- ---- by keys

abbrev keys : Lookup ℕ
keys = record { pairs = (negsuc 4, 20) ∷ (pos 0, 30) ∷ (pos 2147483647, 50) ∷ []; default = 40 }

abbrev by_keys : List Value → Result Moved Abrupt
by_keys stack = lookup_switched keys (frame 3 [] stack 4)

pub minus_five_found : by_keys (Int (negsuc 4) ∷ Ref (Some 3) ∷ []) ≡ at 20 (Ref (Some 3) ∷ [])
minus_five_found = refl

pub zero_found : by_keys (Int (pos 0) ∷ []) ≡ at 30 []
zero_found = refl

pub greatest_found : by_keys (Int (pos 2147483647) ∷ []) ≡ at 50 []
greatest_found = refl

pub five_not_found : by_keys (Int (pos 5) ∷ []) ≡ at 40 []
five_not_found = refl

pub no_key_found : lookup_switched (record { pairs = []; default = 40 }) (frame 3 [] (Int (pos 0) ∷ []) 4) ≡ at 40 []
no_key_found = refl

pub lookup_of_nothing : by_keys [] ≡ fails StackEmpty
lookup_of_nothing = refl

pub lookup_of_a_reference : by_keys (Ref (Some 3) ∷ []) ≡ fails WrongKind
lookup_of_a_reference = refl
