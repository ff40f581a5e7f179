use Rattle.std.specs.Prelude.{ℕ, ℤ, pos, negsuc, ◌-ℤ◌, List, [], ◌∷◌, slice_index_or, Result, Ok, Err, if◌then◌else◌}
use Rattle.std.specs.Ordering.{int_eq}
use Rattle.model.specs.declared.turns.Fault.{Fault}
use Rattle.model.specs.declared.turns.Abrupt.{Abrupt}
use Rattle.model.specs.declared.turns.Abrupt.TheVariants.{Fault as Faulted}
use Rattle.model.specs.Switches.{Table, Lookup}
use Rattle.model.specs.Frames.{Frame, Moved, int_on, replaced}

-- the target at a distance from the first, the default where there is none
abbrev pub target_at : List ℕ → ℕ → ℤ → ℕ
target_at targets default (pos n) = slice_index_or targets n default
target_at targets default (negsuc n) = default

-- the targets are those of the ints from the low one up
abbrev pub table_target : Table ℕ → ℤ → ℕ
table_target table z = target_at table.targets table.default (z -ℤ table.low)

-- the target of a key, the default where it is none of the keys
abbrev pub target_of_key : List (ℤ × ℕ) → ℕ → ℤ → ℕ
target_of_key [] default z = default
target_of_key (pair ∷ pairs) default z = if int_eq pair.0 z then pair.1 else target_of_key pairs default z

abbrev pub lookup_target : Lookup ℕ → ℤ → ℕ
lookup_target lookup z = target_of_key lookup.pairs lookup.default z

abbrev pub table_switched_on : Table ℕ → Frame → Result ℤ Fault → Result Moved Abrupt
table_switched_on table f (Err e) = Err (Faulted e)
table_switched_on table f (Ok z) = Ok (replaced (table_target table z) f 1 [])

abbrev pub lookup_switched_on : Lookup ℕ → Frame → Result ℤ Fault → Result Moved Abrupt
lookup_switched_on lookup f (Err e) = Err (Faulted e)
lookup_switched_on lookup f (Ok z) = Ok (replaced (lookup_target lookup z) f 1 [])

-- tableswitch and lookupswitch (JVMS 6.5)
abbrev pub table_switched : Table ℕ → Frame → Result Moved Abrupt
table_switched table f = table_switched_on table f (int_on f.stack)

abbrev pub lookup_switched : Lookup ℕ → Frame → Result Moved Abrupt
lookup_switched lookup f = lookup_switched_on lookup f (int_on f.stack)
