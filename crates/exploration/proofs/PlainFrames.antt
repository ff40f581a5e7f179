use Rattle.std.proofs.Common.{◌≡◌, ℕ, ℤ, ◌+◌, List, [], ◌∷◌, ◌++◌, drop, length, nat_le, Bool, true, false, if◌then◌else◌}
use Rattle.std.proofs.Common.{Option, Some, None, Result, Ok, Err, refl}
use Rattle.model.specs.declared.listings.Placed.{Placed}
use Rattle.model.specs.declared.turns.Abrupt.{Abrupt}
use Rattle.model.specs.declared.turns.Abrupt.TheVariants.{Fault as Faulted, Throw as Throws}
use Rattle.model.specs.Completions.{raises}
use Rattle.model.specs.Completions.Completion.{Raises}
use Rattle.model.specs.Frames.{Frame, Moved, as_int, int_on, push_all, ref_on, replaced, replaced_if_room}
use Rattle.model.specs.Frames.{two_ints_on, two_longs_on, two_refs_on}
use Rattle.model.specs.Locals.{has_local, local_at, stored_if_local, value_on}
use Rattle.model.specs.Switches.{Lookup, Table}
use Rattle.model.specs.Values.{units_of_all}
use Rattle.model.specs.Arithmetic.{conversion_result, operator_result, width_of}
use Rattle.model.specs.Table.Locals.{increment_amount, increment_index, incremented_on, loaded_on, local, local_index}
use Rattle.model.specs.Table.Stacks.{doubled_on, group_on, groups_on, inserted_on, popped_on, rearranged, swapped_on}
use Rattle.model.specs.Table.Stacks.Units.{One, Two}
use Rattle.model.specs.Table.Numbers.{binary_on, compared_on, converted_on, negated_on, number, number_value, operand_of}
use Rattle.model.specs.Table.Numbers.{operands_of, operated, source_kind, target_kind}
use Rattle.model.specs.Table.Branches.{branched, branched_on, ints_test, null_test, refs_test, zero_test}
use Rattle.model.specs.Table.Switches.{lookup_switched_on, table_switched_on}
use Rattle.model.specs.declared.instructions.Conversion.{Conversion}
use Rattle.model.specs.declared.instructions.LocalAccess.{LocalAccess}
use Rattle.model.specs.declared.instructions.LocalAccess.TheVariants.{Load, Store, Increment as Incremented}
use Rattle.model.specs.declared.instructions.NumberKind.{NumberKind}
use Rattle.model.specs.declared.instructions.NumberOperation.{NumberOperation}
use Rattle.model.specs.declared.instructions.NumberOperation.TheVariants.{Binary, Negate, Convert, CompareLongs}
use Rattle.model.specs.declared.instructions.Operator.{Operator}
use Rattle.model.specs.declared.instructions.StackOperation.{StackOperation}
use Rattle.model.specs.declared.instructions.StackOperation.TheVariants.{Pop, Pop2, Dup, DupX1, DupX2, Dup2, Dup2X1}
use Rattle.model.specs.declared.instructions.StackOperation.TheVariants.{Dup2X2, Swap}
use Rattle.model.specs.declared.instructions.Test.{Test}
use Rattle.model.specs.declared.instructions.Test.TheVariants.{Always, Zero, Ints, Refs, Null}
use Rattle.model.specs.declared.turns.Fault.{Fault}
use Rattle.model.specs.declared.turns.Fault.TheVariants.{StackFull}
use Rattle.model.specs.declared.values.Kind.TheVariants.{Int as IntKind}
use Rattle.model.specs.declared.values.Value.{Value}
use Rattle.model.specs.Table.Returns.{past_invoke}

-- an instruction that changes the running frame alone leaves a frame of the same method; what it throws, if it throws,
-- wants a cell

abbrev pub Calm : Frame → Result Moved Abrupt → Type 0
Calm f (Ok m) = m.frame.method ≡ f.method
Calm f (Err (Faulted fault)) = Unit {0}
Calm f (Err (Throws exception)) = raises exception ≡ Raises exception

module _ (next : ℕ) (f : Frame) where
  pub calm_room : (n : ℕ) (vs : List Value) → Calm f (replaced_if_room next f n vs)
  calm_room n vs = by (nat_le (units_of_all (push_all vs (drop n f.stack))) f.room)
    where
      by : (b : Bool) → Calm f (if b then Ok (replaced next f n vs) else Err (Faulted StackFull))
      by true = refl
      by false = tt

  calm_load : (r : Result Value Fault) → Calm f (loaded_on next f r)
  calm_load (Err e) = tt
  calm_load (Ok v) = calm_room 0 (v ∷ [])

  calm_store : (index : ℕ) (has : Bool) (r : Result Value Fault) → Calm f (stored_if_local next f index has r)
  calm_store index has (Err e) = tt
  calm_store index true (Ok v) = refl
  calm_store index false (Ok v) = tt

  calm_increment : (index : ℕ) (amount : ℤ) (r : Result ℤ Fault) → Calm f (incremented_on next f index amount r)
  calm_increment index amount (Err e) = tt
  calm_increment index amount (Ok z) = refl

  pub calm_local : (access : LocalAccess) → Calm f (local next access f)
  calm_local (Load kind place) = calm_load (local_at kind f.locals (local_index place))
  calm_local (Store kind place) = calm_store (local_index place) (has_local kind f.locals (local_index place)) (value_on kind f.stack)
  calm_local (Incremented i) = calm_increment (increment_index i) (increment_amount i)
      (as_int (local_at IntKind f.locals (increment_index i)))

  calm_pop : (r : Result (List Value) Fault) → Calm f (popped_on next f r)
  calm_pop (Err e) = tt
  calm_pop (Ok group) = refl

  calm_double : (r : Result (List Value) Fault) → Calm f (doubled_on next f r)
  calm_double (Err e) = tt
  calm_double (Ok group) = calm_room (length group) (group ++ group)

  calm_insert : (r : Result (List Value × List Value) Fault) → Calm f (inserted_on next f r)
  calm_insert (Err e) = tt
  calm_insert (Ok groups) = calm_room (length groups.0 + length groups.1) (groups.0 ++ groups.1 ++ groups.0)

  calm_swap : (r : Result (List Value × List Value) Fault) → Calm f (swapped_on next f r)
  calm_swap (Err e) = tt
  calm_swap (Ok groups) = refl

  pub calm_stack : (operation : StackOperation) → Calm f (rearranged next operation f)
  calm_stack Pop = calm_pop (group_on One f.stack)
  calm_stack Pop2 = calm_pop (group_on Two f.stack)
  calm_stack Dup = calm_double (group_on One f.stack)
  calm_stack DupX1 = calm_insert (groups_on One One f.stack)
  calm_stack DupX2 = calm_insert (groups_on One Two f.stack)
  calm_stack Dup2 = calm_double (group_on Two f.stack)
  calm_stack Dup2X1 = calm_insert (groups_on Two One f.stack)
  calm_stack Dup2X2 = calm_insert (groups_on Two Two f.stack)
  calm_stack Swap = calm_swap (groups_on One One f.stack)

  calm_result : (kind : NumberKind) (o : Option ℤ) → Calm f (operated next f kind o)
  calm_result kind (Some z) = refl
  calm_result kind None = refl

  calm_binary : (kind : NumberKind) (op : Operator) (r : Result (ℤ × ℤ) Fault) → Calm f (binary_on next f kind op r)
  calm_binary kind op (Err e) = tt
  calm_binary kind op (Ok operands) = calm_result kind (operator_result (width_of kind) op operands.1 operands.0)

  calm_negate : (kind : NumberKind) (r : Result ℤ Fault) → Calm f (negated_on next f kind r)
  calm_negate kind (Err e) = tt
  calm_negate kind (Ok z) = refl

  calm_convert : (c : Conversion) (r : Result ℤ Fault) → Calm f (converted_on next f c r)
  calm_convert c (Err e) = tt
  calm_convert c (Ok z) = calm_room 1 (number_value (target_kind c) (conversion_result c z) ∷ [])

  calm_compare : (r : Result (ℤ × ℤ) Fault) → Calm f (compared_on next f r)
  calm_compare (Err e) = tt
  calm_compare (Ok operands) = refl

  pub calm_number : (operation : NumberOperation) → Calm f (number next operation f)
  calm_number (Binary kind op) = calm_binary kind op (operands_of kind op f.stack)
  calm_number (Negate kind) = calm_negate kind (operand_of kind f.stack)
  calm_number (Convert c) = calm_convert c (operand_of (source_kind c) f.stack)
  calm_number CompareLongs = calm_compare (two_longs_on f.stack)

  calm_test : (target n : ℕ) (r : Result Bool Fault) → Calm f (branched_on next target f n r)
  calm_test target n (Err e) = tt
  calm_test target n (Ok taken) = refl

  pub calm_branch : (test : Test) (target : ℕ) → Calm f (branched next test target f)
  calm_branch (Always width) target = refl
  calm_branch (Zero comparison) target = calm_test target 1 (zero_test comparison (int_on f.stack))
  calm_branch (Ints comparison) target = calm_test target 2 (ints_test comparison (two_ints_on f.stack))
  calm_branch (Refs identity) target = calm_test target 2 (refs_test identity (two_refs_on f.stack))
  calm_branch (Null identity) target = calm_test target 1 (null_test identity (ref_on f.stack))

pub calm_table : (table : Table ℕ) (f : Frame) (r : Result ℤ Fault) → Calm f (table_switched_on table f r)
calm_table table f (Err e) = tt
calm_table table f (Ok z) = refl

pub calm_lookup : (lookup : Lookup ℕ) (f : Frame) (r : Result ℤ Fault) → Calm f (lookup_switched_on lookup f r)
calm_lookup lookup f (Err e) = tt
calm_lookup lookup f (Ok z) = refl

pub past_calm : (f : Frame) (v : Option Value) (i : Option Placed) → Calm f (past_invoke f v i)
past_calm f None None = tt
past_calm f (Some v) None = tt
past_calm f None (Some i) = refl
past_calm f (Some v) (Some i) = calm_room i.next f 0 (v ∷ [])
