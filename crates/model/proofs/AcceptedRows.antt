-- Worked rows: which small lists of listings are programs, and what the others are refused for.
use Rattle.std.specs.Prelude.{◌≡◌, ℕ, List, [], ◌∷◌, Option, Some, None, codes, refl}
use Rattle.model.specs.declared.instructions.Instruction.TheVariants.{Invoke, Monitor, Nop, Return, Throw}
use Rattle.model.specs.declared.instructions.Invocation.TheVariants.{Virtual}
use Rattle.model.specs.declared.instructions.MonitorOperation.TheVariants.{Enter}
use Rattle.model.specs.declared.listings.Method.{Method}
use Rattle.model.specs.declared.names.Member.{Member}
use Rattle.model.specs.declared.refusals.LoadRule.{LoadRule}
use Rattle.model.specs.declared.refusals.LoadRule.TheVariants.{ClassTwice, MissingSuperclass, Cycle, WrongSuperclass}
use Rattle.model.specs.declared.refusals.LoadRule.TheVariants.{MemberTwice, LimitPassed, NoMain, RefusedMember}
use Rattle.model.specs.declared.refusals.LoadRule.TheVariants.{UnresolvedReference, BuiltinName}
use Rattle.model.specs.CodeListings.{CodeListing}
use Rattle.model.specs.ClassListings.{ClassListing}
use Rattle.model.specs.Table.Next.{Listed}
use Rattle.model.specs.WellNamed.{is_well_named}
use Rattle.model.specs.Classes.Search.{interfaces_from, upwards}
use Rattle.model.specs.Classes.Builtin.{builtin_classes}
use Rattle.model.specs.Classes.Subclasses.{is_within}
use Rattle.model.specs.Accepted.BuiltinNames.{has_builtin_name}
use Rattle.model.specs.Accepted.Superclasses.{is_class_twice, has_missing_parent, has_wrong_parent}
use Rattle.model.specs.Accepted.Cycles.{is_on_cycle}
use Rattle.model.specs.Accepted.MembersTwice.{has_member_twice}
use Rattle.model.specs.Accepted.RefusedMembers.{has_refused_member}
use Rattle.model.specs.Accepted.References.{has_unresolved}
use Rattle.model.specs.Accepted.ExceptionRows.{has_bad_row}
use Rattle.model.specs.Accepted.LimitsOfClasses.{fields_within, is_too_large, first_past_limits}
use Rattle.model.specs.Accepted.Refusals.{LoadRefusal, refusal_of}

-- ---- listings

abbrev object : List ℕ
object = codes "java/lang/Object"

abbrev class_over : List ℕ → List ℕ → ℕ → List Method → ClassListing
class_over superclass name flags methods = record {
  name = name;
  flags = record { 0 = flags };
  superclass = superclass;
  interfaces = [];
  fields = [];
  methods = methods;
}

-- this instruction and a return
abbrev code_of : ℕ → ℕ → Listed → CodeListing
code_of stack locals first = record {
  max_stack = stack;
  max_locals = locals;
  rows = [];
  instructions = record { pc = 0; next = 1; instruction = first } ∷ record {
    pc = 1;
    next = 2;
    instruction = Return None;
  } ∷ [];
}

abbrev method : ℕ → List ℕ → List ℕ → CodeListing → Method
method flags name descriptor code = record {
  flags = record { 0 = flags };
  name = name;
  descriptor = descriptor;
  code = Some code;
}

-- a static main that does nothing
abbrev main : Method
main = method 9 (codes "main") (codes "()V") (code_of 0 0 Nop)

-- a class over Object with main and these methods after it
abbrev program_with : List ℕ → List Method → ClassListing
program_with name methods = class_over object name 1 (main ∷ methods)

abbrev started : Member
started = record { class = codes "java/lang/Thread"; name = codes "start"; descriptor = codes "()V" }

abbrev cloned : Member
cloned = record { class = codes "[I"; name = codes "clone"; descriptor = codes "()Ljava/lang/Object;" }

abbrev names_class : LoadRule → List ℕ → Option LoadRefusal
names_class rule name = Some (record { rule = rule; class = Some name })

-- ---- what they are refused for

-- a class with main is a program
one_class : refusal_of (program_with (codes "E") [] ∷ []) ≡ None
unfolding is_well_named builtin_classes is_within has_builtin_name is_class_twice has_missing_parent has_wrong_parent
    is_on_cycle has_member_twice has_refused_member has_unresolved has_bad_row fields_within is_too_large
    first_past_limits refusal_of
one_class = refl

-- no class at all
no_class : refusal_of ([]) ≡ Some (record { rule = NoMain; class = None })
unfolding is_well_named builtin_classes is_within has_builtin_name is_class_twice has_missing_parent has_wrong_parent
    is_on_cycle has_member_twice has_refused_member has_unresolved has_bad_row fields_within is_too_large
    first_past_limits refusal_of
no_class = refl

-- a first class without main
no_main : refusal_of (class_over object (codes "X") 1 [] ∷ program_with (codes "E") [] ∷ [])
    ≡ names_class NoMain (codes "X")
unfolding is_well_named builtin_classes is_within has_builtin_name is_class_twice has_missing_parent has_wrong_parent
    is_on_cycle has_member_twice has_refused_member has_unresolved has_bad_row fields_within is_too_large
    first_past_limits refusal_of
no_main = refl

-- a main that is not static
instance_main : refusal_of (class_over object (codes "X") 1 (method 1 (codes "main") (codes "()V") (code_of 0 1 Nop)
    ∷ []) ∷ []) ≡ names_class NoMain (codes "X")
unfolding is_well_named builtin_classes is_within has_builtin_name is_class_twice has_missing_parent has_wrong_parent
    is_on_cycle has_member_twice has_refused_member has_unresolved has_bad_row fields_within is_too_large
    first_past_limits refusal_of
instance_main = refl

-- the name of one of the machine's own classes
builtin_name : refusal_of (program_with (codes "E") [] ∷ program_with (codes "vm/Sys") [] ∷ [])
    ≡ names_class BuiltinName (codes "vm/Sys")
unfolding is_well_named builtin_classes is_within has_builtin_name is_class_twice has_missing_parent has_wrong_parent
    is_on_cycle has_member_twice has_refused_member has_unresolved has_bad_row fields_within is_too_large
    first_past_limits refusal_of
builtin_name = refl

-- two classes of one name: the first of all that have it
class_twice : refusal_of (program_with (codes "X") [] ∷ program_with (codes "Y") [] ∷ program_with (codes "Y") []
    ∷ program_with (codes "X") [] ∷ []) ≡ names_class ClassTwice (codes "X")
unfolding is_well_named builtin_classes is_within has_builtin_name is_class_twice has_missing_parent has_wrong_parent
    is_on_cycle has_member_twice has_refused_member has_unresolved has_bad_row fields_within is_too_large
    first_past_limits refusal_of
class_twice = refl

-- a superclass that is not there
missing_superclass : refusal_of (class_over (codes "Y") (codes "X") 1 (main ∷ []) ∷ [])
    ≡ names_class MissingSuperclass (codes "X")
unfolding is_well_named builtin_classes is_within has_builtin_name is_class_twice has_missing_parent has_wrong_parent
    is_on_cycle has_member_twice has_refused_member has_unresolved has_bad_row fields_within is_too_large
    first_past_limits refusal_of
missing_superclass = refl

-- two classes above each other, and one below them, which is on no cycle
cycle : refusal_of (class_over (codes "X") (codes "E") 1 (main ∷ []) ∷ class_over (codes "Y") (codes "X") 1 []
    ∷ class_over (codes "X") (codes "Y") 1 [] ∷ []) ≡ names_class Cycle (codes "X")
unfolding is_well_named builtin_classes is_within has_builtin_name is_class_twice has_missing_parent has_wrong_parent
    is_on_cycle has_member_twice has_refused_member has_unresolved has_bad_row fields_within is_too_large
    first_past_limits refusal_of
cycle = refl

-- an interface as a superclass
interface_extended : refusal_of (class_over (codes "J") (codes "X") 1 (main ∷ []) ∷ class_over object (codes "J") 0x0600
    [] ∷ []) ≡ names_class WrongSuperclass (codes "X")
unfolding is_well_named builtin_classes is_within has_builtin_name is_class_twice has_missing_parent has_wrong_parent
    is_on_cycle has_member_twice has_refused_member has_unresolved has_bad_row fields_within is_too_large
    first_past_limits refusal_of
interface_extended = refl

-- a final class as a superclass
final_class_extended : refusal_of (class_over (codes "F") (codes "X") 1 (main ∷ []) ∷ class_over object (codes "F")
    0x0010 [] ∷ []) ≡ names_class WrongSuperclass (codes "X")
unfolding is_well_named builtin_classes is_within has_builtin_name is_class_twice has_missing_parent has_wrong_parent
    is_on_cycle has_member_twice has_refused_member has_unresolved has_bad_row fields_within is_too_large
    first_past_limits refusal_of
final_class_extended = refl

-- two methods of one name and descriptor
method_twice : refusal_of (program_with (codes "X") (main ∷ []) ∷ []) ≡ names_class MemberTwice (codes "X")
unfolding is_well_named builtin_classes is_within has_builtin_name is_class_twice has_missing_parent has_wrong_parent
    is_on_cycle has_member_twice has_refused_member has_unresolved has_bad_row fields_within is_too_large
    first_past_limits refusal_of
method_twice = refl

-- a class initializer that is no static one
class_initializer : refusal_of (program_with (codes "X") (method 0 (codes "<clinit>") (codes "()V") (code_of 0 1 Nop)
    ∷ []) ∷ []) ≡ names_class RefusedMember (codes "X")
unfolding is_well_named builtin_classes is_within has_builtin_name is_class_twice has_missing_parent has_wrong_parent
    is_on_cycle has_member_twice has_refused_member has_unresolved has_bad_row fields_within is_too_large
    first_past_limits refusal_of
class_initializer = refl

-- a synchronized `run()V` of a thread
synchronized_run : refusal_of (program_with (codes "E") [] ∷ class_over (codes "java/lang/Thread") (codes "X") 1
    (method 0x21 (codes "run") (codes "()V") (code_of 0 1 Nop) ∷ []) ∷ []) ≡ names_class RefusedMember (codes "X")
unfolding is_well_named builtin_classes is_within has_builtin_name is_class_twice has_missing_parent has_wrong_parent
    is_on_cycle has_member_twice has_refused_member has_unresolved has_bad_row fields_within is_too_large
    first_past_limits refusal_of
synchronized_run = refl

-- and the same of another class
no_thread : refusal_of (program_with (codes "X") (method 0x21 (codes "run") (codes "()V") (code_of 0 1 Nop) ∷ []) ∷ [])
    ≡ None
unfolding is_well_named builtin_classes is_within has_builtin_name is_class_twice has_missing_parent has_wrong_parent
    is_on_cycle has_member_twice has_refused_member has_unresolved has_bad_row fields_within is_too_large
    first_past_limits refusal_of
no_thread = refl

-- entry into a monitor
entering : refusal_of (program_with (codes "X") (method 9 (codes "f") (codes "()V") (code_of 1 0 (Monitor Enter)) ∷ [])
    ∷ []) ≡ None
unfolding is_well_named builtin_classes is_within has_builtin_name is_class_twice has_missing_parent has_wrong_parent
    is_on_cycle has_member_twice has_refused_member has_unresolved has_bad_row fields_within is_too_large
    first_past_limits refusal_of
entering = refl

-- a throw
throwing : refusal_of (program_with (codes "X") (method 9 (codes "f") (codes "()V") (code_of 1 0 Throw) ∷ []) ∷ [])
    ≡ None
unfolding is_well_named builtin_classes is_within has_builtin_name is_class_twice has_missing_parent has_wrong_parent
    is_on_cycle has_member_twice has_refused_member has_unresolved has_bad_row fields_within is_too_large
    first_past_limits refusal_of
throwing = refl

-- a class initializer that is static
static_initializer : refusal_of (program_with (codes "X") (method 8 (codes "<clinit>") (codes "()V") (code_of 0 0 Nop)
    ∷ []) ∷ []) ≡ None
unfolding is_well_named builtin_classes is_within has_builtin_name is_class_twice has_missing_parent has_wrong_parent
    is_on_cycle has_member_twice has_refused_member has_unresolved has_bad_row fields_within is_too_large
    first_past_limits refusal_of
static_initializer = refl

-- a start of a thread
thread_started : refusal_of
    (program_with (codes "X") (method 9 (codes "f") (codes "()V") (code_of 1 0 (Invoke Virtual started)) ∷ []) ∷ [])
    ≡ None
unfolding is_well_named builtin_classes is_within has_builtin_name is_class_twice has_missing_parent has_wrong_parent
    is_on_cycle has_member_twice has_refused_member has_unresolved has_bad_row fields_within is_too_large
    first_past_limits refusal_of upwards interfaces_from
thread_started = refl

-- a call of a method of an array
array_member : refusal_of
    (program_with (codes "X") (method 9 (codes "f") (codes "()V") (code_of 1 0 (Invoke Virtual cloned)) ∷ []) ∷ [])
    ≡ names_class UnresolvedReference (codes "X")
unfolding is_well_named builtin_classes is_within has_builtin_name is_class_twice has_missing_parent has_wrong_parent
    is_on_cycle has_member_twice has_refused_member has_unresolved has_bad_row fields_within is_too_large
    first_past_limits refusal_of
array_member = refl

-- a class with the name of an array
array_class : refusal_of (program_with (codes "X") [] ∷ class_over object (codes "[X") 1 [] ∷ [])
    ≡ names_class RefusedMember (codes "[X")
unfolding is_well_named builtin_classes is_within has_builtin_name is_class_twice has_missing_parent has_wrong_parent
    is_on_cycle has_member_twice has_refused_member has_unresolved has_bad_row fields_within is_too_large
    first_past_limits refusal_of
array_class = refl

-- a frame of 4,096 units, and one of 4,097
frame_of_4096_units : refusal_of (program_with (codes "X") (method 9 (codes "f") (codes "()V") (code_of 96 4000 Nop)
    ∷ []) ∷ []) ≡ None
unfolding is_well_named builtin_classes is_within has_builtin_name is_class_twice has_missing_parent has_wrong_parent
    is_on_cycle has_member_twice has_refused_member has_unresolved has_bad_row fields_within is_too_large
    first_past_limits refusal_of
frame_of_4096_units = refl

-- past the limit
frame_of_4097_units : refusal_of (program_with (codes "X") (method 9 (codes "f") (codes "()V") (code_of 97 4000 Nop)
    ∷ []) ∷ []) ≡ names_class LimitPassed (codes "X")
unfolding is_well_named builtin_classes is_within has_builtin_name is_class_twice has_missing_parent has_wrong_parent
    is_on_cycle has_member_twice has_refused_member has_unresolved has_bad_row fields_within is_too_large
    first_past_limits refusal_of
frame_of_4097_units = refl

-- locals for an object, a long, an int, an array of longs and one of objects of a class `JJ`, and one too few
few_locals : refusal_of (program_with (codes "X") (method 1 (codes "f") (codes "(JI[[J[LJJ;)V") (code_of 0 6 Nop) ∷ [])
    ∷ []) ≡ None
unfolding is_well_named builtin_classes is_within has_builtin_name is_class_twice has_missing_parent has_wrong_parent
    is_on_cycle has_member_twice has_refused_member has_unresolved has_bad_row fields_within is_too_large
    first_past_limits refusal_of
few_locals = refl

-- one too few
too_few_locals : refusal_of (program_with (codes "X") (method 1 (codes "f") (codes "(JI[[J[LJJ;)V") (code_of 0 5 Nop)
    ∷ []) ∷ []) ≡ names_class LimitPassed (codes "X")
unfolding is_well_named builtin_classes is_within has_builtin_name is_class_twice has_missing_parent has_wrong_parent
    is_on_cycle has_member_twice has_refused_member has_unresolved has_bad_row fields_within is_too_large
    first_past_limits refusal_of
too_few_locals = refl
