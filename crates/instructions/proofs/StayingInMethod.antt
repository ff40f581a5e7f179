-- A move of the running frame leaves its method and its mark.
use Rattle.std.proofs.Common.{◌≡◌, ◌+◌, ◌++◌, ℕ, ℤ, length, List, Bool, true, false, Option, Some, None, Result, Ok}
use Rattle.std.proofs.Common.{Err, IfSome, IfOk, refl, [], ◌∷◌}
use Rattle.std.specs.Prelude.{drop, nat_le, if◌then◌else◌}
use Rattle.model.specs.declared.values.Kind.TheVariants as kind
use Rattle.model.specs.declared.values.Value.{Value}
use Rattle.model.specs.declared.instructions.Comparison.TheVariants as comparison
use Rattle.model.specs.declared.instructions.Constant.{Constant}
use Rattle.model.specs.declared.instructions.Constant.TheVariants as constant
use Rattle.model.specs.declared.instructions.Conversion.TheVariants as conversion
use Rattle.model.specs.declared.instructions.Identity.TheVariants as identity
use Rattle.model.specs.declared.instructions.Increment.TheVariants as increment
use Rattle.model.specs.declared.instructions.Local.TheVariants as «local»
use Rattle.model.specs.declared.instructions.Instruction.TheVariants as instruction
use Rattle.model.specs.declared.instructions.LocalAccess.{LocalAccess}
use Rattle.model.specs.declared.instructions.LocalAccess.TheVariants as access
use Rattle.model.specs.declared.instructions.NumberKind.{NumberKind}
use Rattle.model.specs.declared.instructions.NumberKind.TheVariants as number
use Rattle.model.specs.declared.instructions.NumberOperation.{NumberOperation}
use Rattle.model.specs.declared.instructions.NumberOperation.TheVariants as computes
use Rattle.model.specs.declared.instructions.Operator.TheVariants as operator
use Rattle.model.specs.declared.instructions.StackOperation.{StackOperation}
use Rattle.model.specs.declared.instructions.StackOperation.TheVariants as stack
use Rattle.model.specs.declared.instructions.Test.{Test}
use Rattle.model.specs.declared.instructions.Test.TheVariants as test
use Rattle.model.specs.declared.instructions.Width.TheVariants as width
use Rattle.model.specs.declared.turns.Abrupt.{Abrupt}
use Rattle.model.specs.declared.turns.Abrupt.TheVariants.{Fault as Faulted}
use Rattle.model.specs.declared.turns.Fault.{Fault}
use Rattle.model.specs.declared.turns.Fault.TheVariants.{StackFull}
use Rattle.model.specs.Switches.{Lookup, Table}
use Rattle.model.specs.Arithmetic.{conversion_result, operator_result, width_of}
use Rattle.model.specs.Frames.{Frame, Moved, as_int, int_on, push_all, ref_on, replaced, replaced_if_room, two_ints_on}
use Rattle.model.specs.Frames.{two_longs_on, two_refs_on}
use Rattle.model.specs.Locals.{has_local, local_at, stored_if_local, value_on}
use Rattle.model.specs.Values.{units_of_all}
use Rattle.model.specs.Table.Branches.{branched, branched_on, ints_test, null_test, refs_test, zero_test}
use Rattle.model.specs.Table.Constants.{constant as pushed, constant_value}
use Rattle.model.specs.Table.Locals.{incremented_on, increment_amount, increment_index, loaded_on, local as accessed}
use Rattle.model.specs.Table.Locals.{local_index}
use Rattle.model.specs.Table.Numbers.{binary_on, compared_on, converted_on, negated_on, number as computed}
use Rattle.model.specs.Table.Numbers.{number_value, operand_of, operands_of, operated, source_kind, target_kind}
use Rattle.model.specs.Table.Stacks.{doubled_on, group_on, groups_on, inserted_on, popped_on, rearranged, swapped_on}
use Rattle.model.specs.Table.Stacks.Units.{One, Two}
use Rattle.model.specs.Table.Next.{Listed}
use Rattle.model.specs.Table.Switches.{lookup_switched_on, table_switched_on}
use Rattle.linking.specs.declared.operations.Operation.{Operation}
use Rattle.linking.specs.declared.operations.Operation.TheVariants as operation
use Rattle.plain_steps.specs.PlainMoves.{plain_move}
use Rattle.instructions.specs.Aside.{aside_move}

abbrev pub IsInMethod : Frame → Frame → Type 0
IsInMethod f g = (g.method ≡ f.method) × (g.mark ≡ f.mark)

module _ (next : ℕ) (f : Frame) where
  -- where there is a move, it does
  abbrev pub Stays : Result Moved Abrupt → Type 0
  Stays r = IfOk r (λ (m : Moved). IsInMethod f m.frame)

  room-stays : (at n : ℕ) (vs : List Value) → Stays (replaced_if_room at f n vs)
  room-stays at n vs = by (nat_le (units_of_all (push_all vs (drop n f.stack))) f.room)
    where
      by : (b : Bool) → Stays (if b then Ok (replaced at f n vs) else Err (Faulted StackFull))
      by true = (refl, refl)
      by false = tt

  loaded-stays : (r : Result Value Fault) → Stays (loaded_on next f r)
  loaded-stays (Err e) = tt
  loaded-stays (Ok v) = room-stays next 0 (v ∷ [])

  stored-stays : (index : ℕ) (has : Bool) (r : Result Value Fault) → Stays (stored_if_local next f index has r)
  stored-stays index has (Err e) = tt
  stored-stays index true (Ok v) = (refl, refl)
  stored-stays index false (Ok v) = tt

  incremented-stays : (index : ℕ) (amount : ℤ) (r : Result ℤ Fault) → Stays (incremented_on next f index amount r)
  incremented-stays index amount (Err e) = tt
  incremented-stays index amount (Ok z) = (refl, refl)

  pushed-stays : (c : Constant ℤ ℤ) → Stays (pushed next c f)
  pushed-stays c = room-stays next 0 (constant_value c ∷ [])

  accessed-stays : (a : LocalAccess) → Stays (accessed next a f)
  accessed-stays (access.Load kind place) = loaded-stays (local_at kind f.locals (local_index place))
  accessed-stays (access.Store kind place) = stored-stays (local_index place)
      (has_local kind f.locals (local_index place)) (value_on kind f.stack)
  accessed-stays (access.Increment i) = incremented-stays (increment_index i) (increment_amount i)
      (as_int (local_at kind.Int f.locals (increment_index i)))

  operated-stays : (kind : NumberKind) (o : Option ℤ) → Stays (operated next f kind o)
  operated-stays kind None = tt
  operated-stays kind (Some z) = (refl, refl)

  computed-stays : (op : NumberOperation) → Stays (computed next op f)
  computed-stays (computes.Binary kind op) = by (operands_of kind op f.stack)
    where
      by : (r : Result (ℤ × ℤ) Fault) → Stays (binary_on next f kind op r)
      by (Err e) = tt
      by (Ok operands) = operated-stays kind (operator_result (width_of kind) op operands.1 operands.0)
  computed-stays (computes.Negate kind) = by (operand_of kind f.stack)
    where
      by : (r : Result ℤ Fault) → Stays (negated_on next f kind r)
      by (Err e) = tt
      by (Ok z) = (refl, refl)
  computed-stays (computes.Convert c) = by (operand_of (source_kind c) f.stack)
    where
      by : (r : Result ℤ Fault) → Stays (converted_on next f c r)
      by (Err e) = tt
      by (Ok z) = room-stays next 1 (number_value (target_kind c) (conversion_result c z) ∷ [])
  computed-stays computes.CompareLongs = by (two_longs_on f.stack)
    where
      by : (r : Result (ℤ × ℤ) Fault) → Stays (compared_on next f r)
      by (Err e) = tt
      by (Ok operands) = (refl, refl)

  branched_on-stays : (target n : ℕ) (r : Result Bool Fault) → Stays (branched_on next target f n r)
  branched_on-stays target n (Err e) = tt
  branched_on-stays target n (Ok taken) = (refl, refl)

  branched-stays : (target : ℕ) (t : Test) → Stays (branched next t target f)
  branched-stays target (test.Always width) = (refl, refl)
  branched-stays target (test.Zero comparison) = branched_on-stays target 1 (zero_test comparison (int_on f.stack))
  branched-stays target (test.Ints comparison) = branched_on-stays target 2 (ints_test comparison (two_ints_on f.stack))
  branched-stays target (test.Refs identity) = branched_on-stays target 2 (refs_test identity (two_refs_on f.stack))
  branched-stays target (test.Null identity) = branched_on-stays target 1 (null_test identity (ref_on f.stack))

  popped-stays : (r : Result (List Value) Fault) → Stays (popped_on next f r)
  popped-stays (Err e) = tt
  popped-stays (Ok group) = (refl, refl)

  doubled-stays : (r : Result (List Value) Fault) → Stays (doubled_on next f r)
  doubled-stays (Err e) = tt
  doubled-stays (Ok group) = room-stays next (length group) (group ++ group)

  inserted-stays : (r : Result (List Value × List Value) Fault) → Stays (inserted_on next f r)
  inserted-stays (Err e) = tt
  inserted-stays (Ok groups) = room-stays next (length groups.0 + length groups.1) (groups.0 ++ groups.1 ++ groups.0)

  swapped-stays : (r : Result (List Value × List Value) Fault) → Stays (swapped_on next f r)
  swapped-stays (Err e) = tt
  swapped-stays (Ok groups) = (refl, refl)

  rearranged-stays : (op : StackOperation) → Stays (rearranged next op f)
  rearranged-stays stack.Pop = popped-stays (group_on One f.stack)
  rearranged-stays stack.Pop2 = popped-stays (group_on Two f.stack)
  rearranged-stays stack.Dup = doubled-stays (group_on One f.stack)
  rearranged-stays stack.DupX1 = inserted-stays (groups_on One One f.stack)
  rearranged-stays stack.DupX2 = inserted-stays (groups_on One Two f.stack)
  rearranged-stays stack.Dup2 = doubled-stays (group_on Two f.stack)
  rearranged-stays stack.Dup2X1 = inserted-stays (groups_on Two One f.stack)
  rearranged-stays stack.Dup2X2 = inserted-stays (groups_on Two Two f.stack)
  rearranged-stays stack.Swap = swapped-stays (groups_on One One f.stack)

  switched-stays : (table : Table ℕ) (r : Result ℤ Fault) → Stays (table_switched_on table f r)
  switched-stays table (Err e) = tt
  switched-stays table (Ok z) = (refl, refl)

  looked_up-stays : (lookup : Lookup ℕ) (r : Result ℤ Fault) → Stays (lookup_switched_on lookup f r)
  looked_up-stays lookup (Err e) = tt
  looked_up-stays lookup (Ok z) = (refl, refl)

  -- one that stands aside
  pub aside-stays : (instruction : Listed) → IfSome (aside_move next instruction f) Stays
  aside-stays (instruction.Constant c) = pushed-stays c
  aside-stays (instruction.TableSwitch table) = switched-stays table (int_on f.stack)
  aside-stays (instruction.LookupSwitch lookup) = looked_up-stays lookup (int_on f.stack)
  aside-stays _ = tt

  -- an operation that changes the running frame alone
  pub moved-stays : (op : Operation) → IfSome (plain_move next op f) Stays
  unfolding plain_move
  moved-stays operation.Nop = (refl, refl)
  moved-stays operation.AconstNull = pushed-stays constant.Null
  moved-stays (operation.Iconst z) = pushed-stays (constant.Int width.Narrow z)
  moved-stays (operation.Lconst z) = pushed-stays (constant.Long z)
  moved-stays (operation.Iload index) = accessed-stays (access.Load kind.Int («local».Wide index))
  moved-stays (operation.Lload index) = accessed-stays (access.Load kind.Long («local».Wide index))
  moved-stays (operation.Aload index) = accessed-stays (access.Load kind.Ref («local».Wide index))
  moved-stays (operation.Istore index) = accessed-stays (access.Store kind.Int («local».Wide index))
  moved-stays (operation.Lstore index) = accessed-stays (access.Store kind.Long («local».Wide index))
  moved-stays (operation.Astore index) = accessed-stays (access.Store kind.Ref («local».Wide index))
  moved-stays (operation.Iinc index amount) = accessed-stays (access.Increment (increment.Wide index amount))
  moved-stays operation.Pop = rearranged-stays stack.Pop
  moved-stays operation.Pop2 = rearranged-stays stack.Pop2
  moved-stays operation.Dup = rearranged-stays stack.Dup
  moved-stays operation.DupX1 = rearranged-stays stack.DupX1
  moved-stays operation.DupX2 = rearranged-stays stack.DupX2
  moved-stays operation.Dup2 = rearranged-stays stack.Dup2
  moved-stays operation.Dup2X1 = rearranged-stays stack.Dup2X1
  moved-stays operation.Dup2X2 = rearranged-stays stack.Dup2X2
  moved-stays operation.Swap = rearranged-stays stack.Swap
  moved-stays operation.Iadd = computed-stays (computes.Binary number.Int operator.Add)
  moved-stays operation.Isub = computed-stays (computes.Binary number.Int operator.Sub)
  moved-stays operation.Imul = computed-stays (computes.Binary number.Int operator.Mul)
  moved-stays operation.Idiv = computed-stays (computes.Binary number.Int operator.Div)
  moved-stays operation.Irem = computed-stays (computes.Binary number.Int operator.Rem)
  moved-stays operation.Ishl = computed-stays (computes.Binary number.Int operator.Shl)
  moved-stays operation.Ishr = computed-stays (computes.Binary number.Int operator.Shr)
  moved-stays operation.Iushr = computed-stays (computes.Binary number.Int operator.Ushr)
  moved-stays operation.Iand = computed-stays (computes.Binary number.Int operator.And)
  moved-stays operation.Ior = computed-stays (computes.Binary number.Int operator.Or)
  moved-stays operation.Ixor = computed-stays (computes.Binary number.Int operator.Xor)
  moved-stays operation.Ladd = computed-stays (computes.Binary number.Long operator.Add)
  moved-stays operation.Lsub = computed-stays (computes.Binary number.Long operator.Sub)
  moved-stays operation.Lmul = computed-stays (computes.Binary number.Long operator.Mul)
  moved-stays operation.Ldiv = computed-stays (computes.Binary number.Long operator.Div)
  moved-stays operation.Lrem = computed-stays (computes.Binary number.Long operator.Rem)
  moved-stays operation.Lshl = computed-stays (computes.Binary number.Long operator.Shl)
  moved-stays operation.Lshr = computed-stays (computes.Binary number.Long operator.Shr)
  moved-stays operation.Lushr = computed-stays (computes.Binary number.Long operator.Ushr)
  moved-stays operation.Land = computed-stays (computes.Binary number.Long operator.And)
  moved-stays operation.Lor = computed-stays (computes.Binary number.Long operator.Or)
  moved-stays operation.Lxor = computed-stays (computes.Binary number.Long operator.Xor)
  moved-stays operation.Ineg = computed-stays (computes.Negate number.Int)
  moved-stays operation.Lneg = computed-stays (computes.Negate number.Long)
  moved-stays operation.I2l = computed-stays (computes.Convert conversion.IntToLong)
  moved-stays operation.L2i = computed-stays (computes.Convert conversion.LongToInt)
  moved-stays operation.I2b = computed-stays (computes.Convert conversion.IntToByte)
  moved-stays operation.I2c = computed-stays (computes.Convert conversion.IntToChar)
  moved-stays operation.I2s = computed-stays (computes.Convert conversion.IntToShort)
  moved-stays operation.Lcmp = computed-stays computes.CompareLongs
  moved-stays (operation.Goto target) = branched-stays target (test.Always width.Narrow)
  moved-stays (operation.Ifeq target) = branched-stays target (test.Zero comparison.Equal)
  moved-stays (operation.Ifne target) = branched-stays target (test.Zero comparison.NotEqual)
  moved-stays (operation.Iflt target) = branched-stays target (test.Zero comparison.Less)
  moved-stays (operation.Ifge target) = branched-stays target (test.Zero comparison.GreaterOrEqual)
  moved-stays (operation.Ifgt target) = branched-stays target (test.Zero comparison.Greater)
  moved-stays (operation.Ifle target) = branched-stays target (test.Zero comparison.LessOrEqual)
  moved-stays (operation.IfIcmpeq target) = branched-stays target (test.Ints comparison.Equal)
  moved-stays (operation.IfIcmpne target) = branched-stays target (test.Ints comparison.NotEqual)
  moved-stays (operation.IfIcmplt target) = branched-stays target (test.Ints comparison.Less)
  moved-stays (operation.IfIcmpge target) = branched-stays target (test.Ints comparison.GreaterOrEqual)
  moved-stays (operation.IfIcmpgt target) = branched-stays target (test.Ints comparison.Greater)
  moved-stays (operation.IfIcmple target) = branched-stays target (test.Ints comparison.LessOrEqual)
  moved-stays (operation.IfAcmpeq target) = branched-stays target (test.Refs identity.Same)
  moved-stays (operation.IfAcmpne target) = branched-stays target (test.Refs identity.Different)
  moved-stays (operation.Ifnull target) = branched-stays target (test.Null identity.Same)
  moved-stays (operation.Ifnonnull target) = branched-stays target (test.Null identity.Different)
  moved-stays _ = tt
