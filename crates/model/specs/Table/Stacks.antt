use Rattle.std.specs.Prelude.{ℕ, List, [], ◌∷◌, ◌++◌, length, drop, Result, Ok, Err, ◌+◌}
use Rattle.model.specs.declared.values.Value.{Value}
use Rattle.model.specs.declared.values.Value.TheVariants.{Int, Long, Ref}
use Rattle.model.specs.declared.turns.Fault.{Fault}
use Rattle.model.specs.declared.turns.Fault.TheVariants.{WrongKind}
use Rattle.model.specs.declared.turns.Abrupt.{Abrupt}
use Rattle.model.specs.declared.turns.Abrupt.TheVariants.{Fault as Faulted}
use Rattle.model.specs.declared.instructions.StackOperation.{StackOperation}
use Rattle.model.specs.declared.instructions.StackOperation.TheVariants.{Pop, Pop2, Dup, DupX1, DupX2, Dup2, Dup2X1}
use Rattle.model.specs.declared.instructions.StackOperation.TheVariants.{Dup2X2, Swap}
use Rattle.model.specs.Frames.{Frame, Moved, top_of, both, replaced, replaced_if_room}

-- The forms that JVMS 6.5 gives each of these instructions differ in the categories of the values alone: what moves is
-- one unit or two, and two units are two values of category 1, or a long. So an instruction finds a group of values at
-- the top, and perhaps another group below it. A group stands bottom first.

-- ---- what they find

-- one unit: a value, but no long
abbrev pub as_unit : Result Value Fault → Result (List Value) Fault
as_unit (Err e) = Err e
as_unit (Ok (Int z)) = Ok (Int z ∷ [])
as_unit (Ok (Long z)) = Err WrongKind
as_unit (Ok (Ref r)) = Ok (Ref r ∷ [])

abbrev pub unit_on : List Value → Result (List Value) Fault
unit_on stack = as_unit (top_of stack)

-- a value over a group that was found
abbrev pub with_top : Value → Result (List Value) Fault → Result (List Value) Fault
with_top v (Err e) = Err e
with_top v (Ok group) = Ok (group ++ v ∷ [])

-- two units: a long, or another value over one unit
abbrev pub as_units : Result Value Fault → Result (List Value) Fault → Result (List Value) Fault
as_units (Err e) below = Err e
as_units (Ok (Int z)) below = with_top (Int z) below
as_units (Ok (Long z)) below = Ok (Long z ∷ [])
as_units (Ok (Ref r)) below = with_top (Ref r) below

abbrev pub units_on : List Value → Result (List Value) Fault
units_on stack = as_units (top_of stack) (unit_on (drop 1 stack))

-- whether an instruction moves one unit or two
pub data Units : Type 0 where
  One : Units
  Two : Units

abbrev pub group_on : Units → List Value → Result (List Value) Fault
group_on One stack = unit_on stack
group_on Two stack = units_on stack

-- below the group that was found another one
abbrev pub with_group_below : Units → List Value → Result (List Value) Fault → Result (List Value × List Value) Fault
with_group_below below stack (Err e) = Err e
with_group_below below stack (Ok upper) = both (Ok upper) (group_on below (drop (length upper) stack))

-- two groups, the upper one first
abbrev pub groups_on : Units → Units → List Value → Result (List Value × List Value) Fault
groups_on upper below stack = with_group_below below stack (group_on upper stack)

-- ---- what they leave

abbrev pub popped_on : ℕ → Frame → Result (List Value) Fault → Result Moved Abrupt
popped_on next f (Err e) = Err (Faulted e)
popped_on next f (Ok group) = Ok (replaced next f (length group) [])

-- the group twice
abbrev pub doubled_on : ℕ → Frame → Result (List Value) Fault → Result Moved Abrupt
doubled_on next f (Err e) = Err (Faulted e)
doubled_on next f (Ok group) = replaced_if_room next f (length group) (group ++ group)

-- the upper group below the lower one too
abbrev pub inserted_on : ℕ → Frame → Result (List Value × List Value) Fault → Result Moved Abrupt
inserted_on next f (Err e) = Err (Faulted e)
inserted_on next f (Ok groups) = replaced_if_room next f (length groups.0 + length groups.1) (groups.0 ++ groups.1
    ++ groups.0)

abbrev pub swapped_on : ℕ → Frame → Result (List Value × List Value) Fault → Result Moved Abrupt
swapped_on next f (Err e) = Err (Faulted e)
swapped_on next f (Ok groups) = Ok (replaced next f (length groups.0 + length groups.1) (groups.0 ++ groups.1))

-- pop, dup, swap and their kin (JVMS 6.5): faults of the values from the top, F1 and F3, then F2; each value that is
-- put back is written
abbrev pub rearranged : ℕ → StackOperation → Frame → Result Moved Abrupt
rearranged next Pop f = popped_on next f (group_on One f.stack)
rearranged next Pop2 f = popped_on next f (group_on Two f.stack)
rearranged next Dup f = doubled_on next f (group_on One f.stack)
rearranged next DupX1 f = inserted_on next f (groups_on One One f.stack)
rearranged next DupX2 f = inserted_on next f (groups_on One Two f.stack)
rearranged next Dup2 f = doubled_on next f (group_on Two f.stack)
rearranged next Dup2X1 f = inserted_on next f (groups_on Two One f.stack)
rearranged next Dup2X2 f = inserted_on next f (groups_on Two Two f.stack)
rearranged next Swap f = swapped_on next f (groups_on One One f.stack)
