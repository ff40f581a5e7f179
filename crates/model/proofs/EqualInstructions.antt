use Rattle.std.proofs.Common.{rules, refl, sym, ap, subst, ◌∙◌, Option, None, Some, ℕ, ℤ, ◌≡◌, true, Bool, List, []}
use Rattle.std.proofs.Common.{◌∷◌}
use Rattle.std.specs.Cmp.{first_so, second_so}
use Rattle.std.specs.Cmp.Lexicographic.{pointwise}
use Rattle.model.specs.declared.instructions.Constant.{Constant as Pushed}
use Rattle.model.specs.declared.instructions.Constant.TheVariants.{Null, SmallInt, SmallLong, Byte, Short, Int, Long}
use Rattle.model.specs.declared.instructions.ArrayOperation.{ArrayOperation}
use Rattle.model.specs.declared.instructions.LocalAccess.{LocalAccess}
use Rattle.model.specs.declared.instructions.StackOperation.{StackOperation}
use Rattle.model.specs.declared.instructions.NumberOperation.{NumberOperation}
use Rattle.model.specs.declared.instructions.Test.{Test}
use Rattle.model.specs.declared.values.Kind.{Kind}
use Rattle.model.specs.declared.instructions.Access.{Access}
use Rattle.model.specs.declared.names.Member.{Member}
use Rattle.model.specs.declared.instructions.ClassOperation.{ClassOperation}
use Rattle.model.specs.declared.instructions.Invocation.{Invocation}
use Rattle.model.specs.declared.instructions.MonitorOperation.{MonitorOperation}
use Rattle.model.specs.declared.instructions.NumberOperation.TheVariants.{Binary, Negate, Convert, CompareLongs}
use Rattle.std.specs.Option.{option_eq}
use Rattle.model.specs.Switches.{Table, Lookup}
use Rattle.model.specs.Table.Next.{Listed}
use Rattle.model.specs.declared.instructions.Instruction.TheVariants.{Nop, Constant, Local, Stack, Number, Branch}
use Rattle.model.specs.declared.instructions.Instruction.TheVariants.{TableSwitch, LookupSwitch, Return, Static, Field}
use Rattle.model.specs.declared.instructions.Instruction.TheVariants.{Array, Class, Invoke, Throw, Monitor}
use Rattle.model.specs.contracts.listings.PlacedPartialEq.TheImpl as placed
use Rattle.model.proofs.EqualOperands.{same_kind, same_small_int, same_small_long, same_width, same_local_access}
use Rattle.model.proofs.EqualOperands.{same_stack_operation, same_number_operation, same_test, same_access}
use Rattle.model.proofs.EqualOperands.{same_primitive, same_element_kind, same_class_operation, same_invocation}
use Rattle.model.proofs.EqualOperands.{same_monitor_operation, same_member}

-- Instructions that `==` calls equal are one.

module _ {A : Type 0} (eq : A → A → Bool) (same : (a b : A) → eq a b ≡ true → a ≡ b) where
  pub same_list : (xs ys : List A) → pointwise eq xs ys ≡ true → xs ≡ ys
  same_list [] [] h = refl
  same_list [] (y ∷ ys) h = search rules
  same_list (x ∷ xs) [] h = search rules
  same_list (x ∷ xs) (y ∷ ys) h = rw (
    same x y (first_so (eq x y) (pointwise eq xs ys) h),
    same_list xs ys (second_so (eq x y) (pointwise eq xs ys) h),
  ) refl

  pub same_option : (a b : Option A) → option_eq eq a b ≡ true → a ≡ b
  same_option None None h = refl
  same_option None (Some y) h = search rules
  same_option (Some x) None h = search rules
  same_option (Some x) (Some y) h = ap Some (same x y h)

-- whether `==` calls two instructions equal, read off instructions that stand at one pc
abbrev pub is_same : Listed → Listed → Bool
is_same i j = (placed.ghosts).eq (record { pc = 0; next = 0; instruction = i }) (record {
  pc = 0;
  next = 0;
  instruction = j;
})

same_constant : (a b : Pushed ℤ ℤ) → is_same (Constant a) (Constant b) ≡ true → a ≡ b
same_constant Null b h = search rules
same_constant (SmallInt x) b h = search (rules, same_small_int)
same_constant (SmallLong x) b h = search (rules, same_small_long)
same_constant (Byte x) b h = search rules
same_constant (Short x) b h = search rules
same_constant (Int w x) b h = search (rules, same_width)
same_constant (Long x) b h = search rules

same_table : (a b : Table ℕ) → is_same (TableSwitch a) (TableSwitch b) ≡ true → a ≡ b
same_table a b h = search (rules, same_list)

same_array : (a b : ArrayOperation (List ℕ)) → is_same (Array a) (Array b) ≡ true → a ≡ b
same_array a b h = search (rules, same_primitive, same_element_kind)

shown : (i j k : Listed) → j ≡ k → is_same i j ≡ true → is_same i k ≡ true
shown i j k e h = subst (λ (x : Listed). is_same i x ≡ true) e h

is_constant : (a : Pushed ℤ ℤ) (j : Listed) → is_same (Constant a) j ≡ true → (b : Pushed ℤ ℤ) × (j ≡ Constant b)
is_constant Null j h = search rules
is_constant (SmallInt x) j h = search rules
is_constant (SmallLong x) j h = search rules
is_constant (Byte x) j h = search rules
is_constant (Short x) j h = search rules
is_constant (Int w x) j h = search rules
is_constant (Long x) j h = search rules

constant_is : (a : Pushed ℤ ℤ) (j : Listed) → is_same (Constant a) j ≡ true → Constant a ≡ j
constant_is a j h = let k = is_constant a j h
    in ap Constant (same_constant a k.0 (shown (Constant a) j (Constant k.0) k.1 h)) ∙ sym k.1

is_local : (a : LocalAccess) (j : Listed) → is_same (Local a) j ≡ true → (b : LocalAccess) × (j ≡ Local b)
is_local a j h = search rules

is_number : (a : NumberOperation) (j : Listed) → is_same (Number a) j ≡ true → (b : NumberOperation) × (j ≡ Number b)
is_number (Binary k o) j h = search rules
is_number (Negate k) j h = search rules
is_number (Convert c) j h = search rules
is_number CompareLongs j h = search rules

local_is : (a : LocalAccess) (j : Listed) → is_same (Local a) j ≡ true → Local a ≡ j
local_is a j h = let k = is_local a j h in ap Local (same_local_access a k.0 (shown (Local a) j (Local k.0) k.1 h))
    ∙ sym k.1

number_is : (a : NumberOperation) (j : Listed) → is_same (Number a) j ≡ true → Number a ≡ j
number_is a j h = let k = is_number a j h
    in ap Number (same_number_operation a k.0 (shown (Number a) j (Number k.0) k.1 h)) ∙ sym k.1

stack_is : (a : StackOperation) (j : Listed) → is_same (Stack a) j ≡ true → Stack a ≡ j
stack_is a j h = search (rules, same_stack_operation)

branch_is : (a : Test) (t : ℕ) (j : Listed) → is_same (Branch a t) j ≡ true → Branch a t ≡ j
branch_is a t j h = search (rules, same_test)

table_is : (a : Table ℕ) (j : Listed) → is_same (TableSwitch a) j ≡ true → TableSwitch a ≡ j
table_is a j h = search (rules, same_table)

lookup_is : (a : Lookup ℕ) (j : Listed) → is_same (LookupSwitch a) j ≡ true → LookupSwitch a ≡ j
lookup_is a j h = search (rules, same_list)

return_is : (a : Option Kind) (j : Listed) → is_same (Return a) j ≡ true → Return a ≡ j
return_is a j h = search (rules, same_kind)

static_is : (a : Access) (m : Member) (j : Listed) → is_same (Static a m) j ≡ true → Static a m ≡ j
static_is a m j h = search (rules, same_access, same_member)

array_is : (a : ArrayOperation (List ℕ)) (j : Listed) → is_same (Array a) j ≡ true → Array a ≡ j
array_is a j h = search (rules, same_array)

class_is : (a : ClassOperation) (m : List ℕ) (j : Listed) → is_same (Class a m) j ≡ true → Class a m ≡ j
class_is a m j h = search (rules, same_class_operation)

invoke_is : (a : Invocation) (m : Member) (j : Listed) → is_same (Invoke a m) j ≡ true → Invoke a m ≡ j
invoke_is a m j h = search (rules, same_invocation, same_member)

monitor_is : (a : MonitorOperation) (j : Listed) → is_same (Monitor a) j ≡ true → Monitor a ≡ j
monitor_is a j h = search (rules, same_monitor_operation)

pub same_instruction : (i j : Listed) → is_same i j ≡ true → i ≡ j
same_instruction Nop j h = search rules
same_instruction (Constant a) j h = constant_is a j h
same_instruction (Local a) j h = local_is a j h
same_instruction (Stack a) j h = stack_is a j h
same_instruction (Number a) j h = number_is a j h
same_instruction (Branch a t) j h = branch_is a t j h
same_instruction (TableSwitch a) j h = table_is a j h
same_instruction (LookupSwitch a) j h = lookup_is a j h
same_instruction (Return a) j h = return_is a j h
same_instruction (Static a m) j h = static_is a m j h
same_instruction (Field a m) j h = search (rules, same_access, same_member)
same_instruction (Array a) j h = array_is a j h
same_instruction (Class a m) j h = class_is a m j h
same_instruction (Invoke a m) j h = invoke_is a m j h
same_instruction Throw j h = search rules
same_instruction (Monitor a) j h = monitor_is a j h
