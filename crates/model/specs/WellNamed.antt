use Rattle.std.specs.Prelude.{ℕ, List, Bool, true, ◌&&◌, Option, Some, None}
use Rattle.std.specs.List.{list_all}
use Rattle.model.specs.declared.instructions.ArrayOperation.{ArrayOperation}
use Rattle.model.specs.declared.instructions.ArrayOperation.TheVariants.{New as NewArray, NewOf, Length, Load, Store}
use Rattle.model.specs.declared.instructions.ClassOperation.{ClassOperation}
use Rattle.model.specs.declared.instructions.ClassOperation.TheVariants.{New, CheckCast, InstanceOf}
use Rattle.model.specs.declared.instructions.Instruction.TheVariants.{Nop, Constant, Local, Stack, Number, Branch}
use Rattle.model.specs.declared.instructions.Instruction.TheVariants.{TableSwitch, LookupSwitch, Return}
use Rattle.model.specs.declared.instructions.Instruction.TheVariants.{Static as StaticField, Field, Array, Class}
use Rattle.model.specs.declared.instructions.Instruction.TheVariants.{Invoke, Throw, Monitor}
use Rattle.model.specs.declared.listings.Method.{Method}
use Rattle.model.specs.declared.listings.Placed.{Placed}
use Rattle.model.specs.ClassFiles.References.{names_class}
use Rattle.model.specs.ClassListings.{ClassListing}
use Rattle.model.specs.CodeListings.{CodeListing}
use Rattle.model.specs.Table.Next.{Listed}
use Rattle.model.specs.Texts.Names.{is_class_name}

-- Names that are names (JVMS 4.2.1, 4.4.1): a class's name is no array's descriptor, and a type is named by a class's
-- name or an array's descriptor. So it is in the listing of every text and of every class file.

-- the type of which arrays are made
abbrev pub array_is_named : ArrayOperation (List ℕ) → Bool
array_is_named (NewArray primitive) = true
array_is_named (NewOf name) = names_class name
array_is_named Length = true
array_is_named (Load kind) = true
array_is_named (Store kind) = true

-- the type that an object is tested against
abbrev pub class_is_named : ClassOperation → List ℕ → Bool
class_is_named New name = true
class_is_named CheckCast name = names_class name
class_is_named InstanceOf name = names_class name

abbrev pub type_is_named : Listed → Bool
type_is_named Nop = true
type_is_named (Constant c) = true
type_is_named (Local access) = true
type_is_named (Stack operation) = true
type_is_named (Number operation) = true
type_is_named (Branch test target) = true
type_is_named (TableSwitch table) = true
type_is_named (LookupSwitch lookup) = true
type_is_named (Return kind) = true
type_is_named (StaticField access member) = true
type_is_named (Field access member) = true
type_is_named (Array operation) = array_is_named operation
type_is_named (Class operation name) = class_is_named operation name
type_is_named (Invoke invocation member) = true
type_is_named Throw = true
type_is_named (Monitor operation) = true

abbrev pub types_are_named_in : Option CodeListing → Bool
types_are_named_in None = true
types_are_named_in (Some code) = list_all (λ (i : Placed). type_is_named i.instruction) code.instructions

abbrev pub types_are_named : List Method → Bool
types_are_named methods = list_all (λ (m : Method). types_are_named_in m.code) methods

-- the class has a class's name, and its code names types
unfoldable pub is_well_named : ClassListing → Bool
is_well_named c = is_class_name c.name && types_are_named c.methods
