use Rattle.std.specs.Prelude.{ℕ, ◌+◌, ◌==◌, List, Bool, true, false, ◌&&◌, ◌||◌, not, nat_lt, codes, Option, Some, None}
use Rattle.std.specs.List.{list_any}
use Rattle.std.specs.Str.{bytes_eq}
use Rattle.model.specs.declared.names.Member.{Member}
use Rattle.model.specs.declared.listings.ExceptionRow.{ExceptionRow}
use Rattle.model.specs.declared.listings.Field.{Field as FieldListing}
use Rattle.model.specs.declared.listings.Method.{Method}
use Rattle.model.specs.declared.listings.Placed.{Placed}
use Rattle.model.specs.declared.instructions.ArrayOperation.{ArrayOperation}
use Rattle.model.specs.declared.instructions.ArrayOperation.TheVariants.{New as NewArray, NewOf, Length, Load, Store}
use Rattle.model.specs.declared.instructions.ClassOperation.{ClassOperation}
use Rattle.model.specs.declared.instructions.ClassOperation.TheVariants.{New, CheckCast, InstanceOf}
use Rattle.model.specs.declared.instructions.Invocation.{Invocation}
use Rattle.model.specs.declared.instructions.Invocation.TheVariants.{Virtual, Special, Static, Interface}
use Rattle.model.specs.declared.instructions.Instruction.TheVariants.{Nop, Constant, Local, Stack, Number, Branch}
use Rattle.model.specs.declared.instructions.Instruction.TheVariants.{TableSwitch, LookupSwitch, Return}
use Rattle.model.specs.declared.instructions.Instruction.TheVariants.{Static as StaticField, Field, Array, Class}
use Rattle.model.specs.declared.instructions.Instruction.TheVariants.{Invoke, Throw, Monitor}
use Rattle.model.specs.CodeListings.{CodeListing}
use Rattle.model.specs.ClassListings.{ClassListing}
use Rattle.model.specs.Table.Next.{Listed}
use Rattle.model.specs.Classes.Flags.{is_abstract, is_interface, is_static_field, is_static}
use Rattle.model.specs.Classes.Named.{class_named}
use Rattle.model.specs.Classes.Types.{dimensions, is_type}
use Rattle.model.specs.Classes.Search.{Declared}
use Rattle.model.specs.Classes.Resolution.{is_initializer, resolved_field, resolved_method}
use Rattle.model.specs.Signatures.{argument_units}

-- ---- members, static where that is wanted and else not

abbrev pub is_static_found : Option (Declared FieldListing) → Bool
is_static_found None = false
is_static_found (Some f) = is_static_field f.member

abbrev pub is_instance_found : Option (Declared FieldListing) → Bool
is_instance_found None = false
is_instance_found (Some f) = not (is_static_field f.member)

abbrev pub is_static_method_found : Option (Declared Method) → Bool
is_static_method_found None = false
is_static_method_found (Some m) = is_static m.member

abbrev pub is_instance_method_found : Option (Declared Method) → Bool
is_instance_method_found None = false
is_instance_method_found (Some m) = not (is_static m.member)

-- ---- classes: an interface where one is wanted, and else none

abbrev pub is_class_found : Option ClassListing → Bool
is_class_found None = false
is_class_found (Some c) = not (is_interface c)

abbrev pub is_interface_found : Option ClassListing → Bool
is_interface_found None = false
is_interface_found (Some c) = is_interface c

-- a class of which there can be objects
abbrev pub is_concrete_found : Option ClassListing → Bool
is_concrete_found None = false
is_concrete_found (Some c) = not (is_interface c || is_abstract c)

-- ---- what instructions refer to (JVMS 5.4.3, 6.5). A member of an array type is found nowhere

abbrev pub names_class : List ClassListing → Member → Bool
names_class program m = is_class_found (class_named program m.class)

abbrev pub finds_static : List ClassListing → Member → Bool
finds_static program m = names_class program m && not (is_initializer m.name)
    && is_static_method_found (resolved_method program m)

abbrev pub finds_instance : List ClassListing → Member → Bool
finds_instance program m = is_instance_method_found (resolved_method program m)

-- an instance initializer is called by invokespecial alone, a class initializer by no instruction; the count of
-- invokeinterface is that of the arguments' units and the object's
abbrev pub invocation_resolves : List ClassListing → Invocation → Member → Bool
invocation_resolves program Virtual m = names_class program m && not (is_initializer m.name) && finds_instance program m
invocation_resolves program Special m = names_class program m && not (bytes_eq m.name (codes "<clinit>"))
    && finds_instance program m
invocation_resolves program Static m = finds_static program m
invocation_resolves program (Interface count) m =
    is_interface_found (class_named program m.class) && not (is_initializer m.name) && finds_instance program m
    && count == argument_units m.descriptor + 1

-- an array of 255 dimensions is no element
abbrev pub array_resolves : List ClassListing → ArrayOperation (List ℕ) → Bool
array_resolves program (NewArray primitive) = true
array_resolves program (NewOf name) = is_type program name && nat_lt (dimensions name) 255
array_resolves program Length = true
array_resolves program (Load kind) = true
array_resolves program (Store kind) = true

abbrev pub class_resolves : List ClassListing → ClassOperation → List ℕ → Bool
class_resolves program New name = is_concrete_found (class_named program name)
class_resolves program CheckCast name = is_type program name
class_resolves program InstanceOf name = is_type program name

abbrev pub resolves : List ClassListing → Listed → Bool
resolves program Nop = true
resolves program (Constant c) = true
resolves program (Local access) = true
resolves program (Stack operation) = true
resolves program (Number operation) = true
resolves program (Branch test target) = true
resolves program (TableSwitch table) = true
resolves program (LookupSwitch lookup) = true
resolves program (Return kind) = true
resolves program (StaticField access m) = is_static_found (resolved_field program m)
resolves program (Field access m) = is_instance_found (resolved_field program m)
resolves program (Array operation) = array_resolves program operation
resolves program (Class operation name) = class_resolves program operation name
resolves program (Invoke invocation m) = invocation_resolves program invocation m
resolves program Throw = true
resolves program (Monitor operation) = true

-- ---- and what exception rows do

abbrev pub catch_resolves : List ClassListing → Option (List ℕ) → Bool
catch_resolves program None = true
catch_resolves program (Some name) = is_type program name

abbrev pub is_unresolved_in : List ClassListing → Option CodeListing → Bool
is_unresolved_in program None = false
is_unresolved_in program (Some code) =
    list_any (λ (i : Placed). not (resolves program i.instruction)) code.instructions
    || list_any (λ (row : ExceptionRow). not (catch_resolves program row.class)) code.rows

-- L6: an instruction or an exception row of the class refers to what can't be resolved
unfoldable pub has_unresolved : List ClassListing → ClassListing → Bool
has_unresolved program c = list_any (λ (m : Method). is_unresolved_in program m.code) c.methods
