use Rattle.model.specs.contracts.flags.ClassFlagsPartialEq.TheImpl as class_flags
use Rattle.model.specs.contracts.flags.FieldFlagsPartialEq.TheImpl as field_flags
use Rattle.model.specs.contracts.flags.MethodFlagsPartialEq.TheImpl as method_flags
use Rattle.model.specs.contracts.instructions.AccessPartialEq.TheImpl as access
use Rattle.model.specs.contracts.instructions.ClassOperationPartialEq.TheImpl as class_operation
use Rattle.model.specs.contracts.instructions.ComparisonPartialEq.TheImpl as comparison
use Rattle.model.specs.contracts.instructions.ConversionPartialEq.TheImpl as conversion
use Rattle.model.specs.contracts.instructions.ElementKindPartialEq.TheImpl as element_kind
use Rattle.model.specs.contracts.instructions.FirstLocalPartialEq.TheImpl as first_local
use Rattle.model.specs.contracts.instructions.IdentityPartialEq.TheImpl as identity
use Rattle.model.specs.contracts.instructions.IncrementPartialEq.TheImpl as increment
use Rattle.model.specs.contracts.instructions.InvocationPartialEq.TheImpl as invocation
use Rattle.model.specs.contracts.instructions.LocalAccessPartialEq.TheImpl as local_access
use Rattle.model.specs.contracts.instructions.LocalPartialEq.TheImpl as local
use Rattle.model.specs.contracts.instructions.MonitorOperationPartialEq.TheImpl as monitor_operation
use Rattle.model.specs.contracts.instructions.NumberKindPartialEq.TheImpl as number_kind
use Rattle.model.specs.contracts.instructions.NumberOperationPartialEq.TheImpl as number_operation
use Rattle.model.specs.contracts.instructions.OperatorPartialEq.TheImpl as operator
use Rattle.model.specs.contracts.instructions.PrimitivePartialEq.TheImpl as primitive
use Rattle.model.specs.contracts.instructions.SmallIntPartialEq.TheImpl as small_int
use Rattle.model.specs.contracts.instructions.SmallLongPartialEq.TheImpl as small_long
use Rattle.model.specs.contracts.instructions.StackOperationPartialEq.TheImpl as stack_operation
use Rattle.model.specs.contracts.instructions.TestPartialEq.TheImpl as test
use Rattle.model.specs.contracts.instructions.WidthPartialEq.TheImpl as width
use Rattle.model.specs.contracts.listings.ConstantPartialEq.TheImpl as constant
use Rattle.model.specs.contracts.listings.ExceptionRowPartialEq.TheImpl as exception_row
use Rattle.model.specs.contracts.listings.FieldPartialEq.TheImpl as field
use Rattle.model.specs.contracts.names.MemberPartialEq.TheImpl as member
use Rattle.model.specs.contracts.values.KindPartialEq.TheImpl as kind
use Rattle.model.specs.declared.flags.ClassFlags.{ClassFlags}
use Rattle.model.specs.declared.flags.FieldFlags.{FieldFlags}
use Rattle.model.specs.declared.flags.MethodFlags.{MethodFlags}
use Rattle.model.specs.declared.instructions.Access.{Access}
use Rattle.model.specs.declared.instructions.ClassOperation.{ClassOperation}
use Rattle.model.specs.declared.instructions.Comparison.{Comparison}
use Rattle.model.specs.declared.instructions.Conversion.{Conversion}
use Rattle.model.specs.declared.instructions.ElementKind.{ElementKind}
use Rattle.model.specs.declared.instructions.FirstLocal.{FirstLocal}
use Rattle.model.specs.declared.instructions.Identity.{Identity}
use Rattle.model.specs.declared.instructions.Increment.{Increment}
use Rattle.model.specs.declared.instructions.Invocation.{Invocation}
use Rattle.model.specs.declared.instructions.Local.{Local}
use Rattle.model.specs.declared.instructions.LocalAccess.{LocalAccess}
use Rattle.model.specs.declared.instructions.MonitorOperation.{MonitorOperation}
use Rattle.model.specs.declared.instructions.NumberKind.{NumberKind}
use Rattle.model.specs.declared.instructions.NumberOperation.{NumberOperation}
use Rattle.model.specs.declared.instructions.Operator.{Operator}
use Rattle.model.specs.declared.instructions.Primitive.{Primitive}
use Rattle.model.specs.declared.instructions.SmallInt.{SmallInt}
use Rattle.model.specs.declared.instructions.SmallLong.{SmallLong}
use Rattle.model.specs.declared.instructions.StackOperation.{StackOperation}
use Rattle.model.specs.declared.instructions.Test.{Test}
use Rattle.model.specs.declared.instructions.Width.{Width}
use Rattle.model.specs.declared.listings.Constant.{Constant}
use Rattle.model.specs.declared.listings.ExceptionRow.{ExceptionRow}
use Rattle.model.specs.declared.listings.Field.{Field}
use Rattle.model.specs.declared.names.Member.{Member}
use Rattle.model.specs.declared.values.Kind.{Kind}
use Rattle.std.proofs.Common.{rules, ◌≡◌, true}

-- What `==` on the parts of listings tells: where it is true, the two are one.

pub same_kind : (a b : Kind) → (kind.ghosts).eq a b ≡ true → a ≡ b
same_kind a b h = search rules

pub same_small_int : (a b : SmallInt) → (small_int.ghosts).eq a b ≡ true → a ≡ b
same_small_int a b h = search rules

pub same_small_long : (a b : SmallLong) → (small_long.ghosts).eq a b ≡ true → a ≡ b
same_small_long a b h = search rules

pub same_width : (a b : Width) → (width.ghosts).eq a b ≡ true → a ≡ b
same_width a b h = search rules

pub same_first_local : (a b : FirstLocal) → (first_local.ghosts).eq a b ≡ true → a ≡ b
same_first_local a b h = search rules

pub same_local : (a b : Local) → (local.ghosts).eq a b ≡ true → a ≡ b
same_local a b h = search (rules, same_first_local)

pub same_increment : (a b : Increment) → (increment.ghosts).eq a b ≡ true → a ≡ b
same_increment a b h = search rules

pub same_local_access : (a b : LocalAccess) → (local_access.ghosts).eq a b ≡ true → a ≡ b
same_local_access a b h = search (rules, same_kind, same_local, same_increment)

pub same_stack_operation : (a b : StackOperation) → (stack_operation.ghosts).eq a b ≡ true → a ≡ b
same_stack_operation a b h = search rules

pub same_number_kind : (a b : NumberKind) → (number_kind.ghosts).eq a b ≡ true → a ≡ b
same_number_kind a b h = search rules

pub same_operator : (a b : Operator) → (operator.ghosts).eq a b ≡ true → a ≡ b
same_operator a b h = search rules

pub same_conversion : (a b : Conversion) → (conversion.ghosts).eq a b ≡ true → a ≡ b
same_conversion a b h = search rules

pub same_number_operation : (a b : NumberOperation) → (number_operation.ghosts).eq a b ≡ true → a ≡ b
same_number_operation a b h = search (rules, same_number_kind, same_operator, same_conversion)

pub same_comparison : (a b : Comparison) → (comparison.ghosts).eq a b ≡ true → a ≡ b
same_comparison a b h = search rules

pub same_identity : (a b : Identity) → (identity.ghosts).eq a b ≡ true → a ≡ b
same_identity a b h = search rules

pub same_test : (a b : Test) → (test.ghosts).eq a b ≡ true → a ≡ b
same_test a b h = search (rules, same_width, same_comparison, same_identity)

pub same_access : (a b : Access) → (access.ghosts).eq a b ≡ true → a ≡ b
same_access a b h = search rules

pub same_primitive : (a b : Primitive) → (primitive.ghosts).eq a b ≡ true → a ≡ b
same_primitive a b h = search rules

pub same_element_kind : (a b : ElementKind) → (element_kind.ghosts).eq a b ≡ true → a ≡ b
same_element_kind a b h = search rules

pub same_class_operation : (a b : ClassOperation) → (class_operation.ghosts).eq a b ≡ true → a ≡ b
same_class_operation a b h = search rules

pub same_invocation : (a b : Invocation) → (invocation.ghosts).eq a b ≡ true → a ≡ b
same_invocation a b h = search rules

pub same_monitor_operation : (a b : MonitorOperation) → (monitor_operation.ghosts).eq a b ≡ true → a ≡ b
same_monitor_operation a b h = search rules

pub same_member : (a b : Member) → (member.ghosts).eq a b ≡ true → a ≡ b
same_member a b h = search rules

pub same_class_flags : (a b : ClassFlags) → (class_flags.ghosts).eq a b ≡ true → a ≡ b
same_class_flags a b h = search rules

pub same_field_flags : (a b : FieldFlags) → (field_flags.ghosts).eq a b ≡ true → a ≡ b
same_field_flags a b h = search rules

pub same_method_flags : (a b : MethodFlags) → (method_flags.ghosts).eq a b ≡ true → a ≡ b
same_method_flags a b h = search rules

pub same_constant : (a b : Constant) → (constant.ghosts).eq a b ≡ true → a ≡ b
same_constant a b h = search rules

pub same_field : (a b : Field) → (field.ghosts).eq a b ≡ true → a ≡ b
same_field a b h = search (rules, same_field_flags, same_constant)

pub same_exception_row : (a b : ExceptionRow) → (exception_row.ghosts).eq a b ≡ true → a ≡ b
same_exception_row a b h = search rules
