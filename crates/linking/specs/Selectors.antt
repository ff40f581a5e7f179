use Rattle.std.specs.Prelude.{ℕ, List, [], ◌∷◌, ◌++◌, Bool, ◌&&◌, fold, if◌then◌else◌, position, Option, Some, None}
use Rattle.std.specs.List.{list_any}
use Rattle.std.specs.Str.{bytes_eq}
use Rattle.model.specs.declared.listings.Method.{Method}
use Rattle.model.specs.declared.listings.Placed.{Placed}
use Rattle.model.specs.declared.instructions.Instruction.TheVariants.{Nop, Constant, Local, Stack, Number, Branch}
use Rattle.model.specs.declared.instructions.Instruction.TheVariants.{TableSwitch, LookupSwitch, Return}
use Rattle.model.specs.declared.instructions.Instruction.TheVariants.{Static as StaticField, Field, Array, Class}
use Rattle.model.specs.declared.instructions.Instruction.TheVariants.{Invoke, Throw, Monitor}
use Rattle.model.specs.declared.instructions.Invocation.{Invocation}
use Rattle.model.specs.declared.instructions.Invocation.TheVariants.{Virtual, Special, Static, Interface}
use Rattle.model.specs.declared.names.Member.{Member}
use Rattle.model.specs.ClassListings.{ClassListing}
use Rattle.model.specs.CodeListings.{CodeListing}
use Rattle.model.specs.Table.Next.{Listed}

-- Selectors: numbers for the names and descriptors that a program calls on objects.

-- a name and a descriptor
abbrev pub Signature : Type 0
Signature = List ℕ × List ℕ

abbrev pub is_signature : Signature → Signature → Bool
is_signature s t = bytes_eq s.0 t.0 && bytes_eq s.1 t.1

-- the signatures with one more at the end, where it isn't among them
abbrev pub with_signature : List Signature → Signature → List Signature
with_signature ss s = if list_any (is_signature s) ss then ss else ss ++ s ∷ []

-- what an invokevirtual or an invokeinterface names (JVMS 6.5)
abbrev pub with_member : List Signature → Invocation → Member → List Signature
with_member ss Virtual member = with_signature ss (member.name, member.descriptor)
with_member ss (Interface count) member = with_signature ss (member.name, member.descriptor)
with_member ss Special member = ss
with_member ss Static member = ss

abbrev pub with_called : List Signature → Listed → List Signature
with_called ss (Invoke invocation member) = with_member ss invocation member
with_called ss Nop = ss
with_called ss (Constant constant) = ss
with_called ss (Number operation) = ss
with_called ss (Return kind) = ss
with_called ss (Local access) = ss
with_called ss (Stack operation) = ss
with_called ss (Branch test target) = ss
with_called ss (TableSwitch table) = ss
with_called ss (LookupSwitch lookup) = ss
with_called ss (StaticField access member) = ss
with_called ss (Field access member) = ss
with_called ss (Array operation) = ss
with_called ss (Class operation name) = ss
with_called ss Throw = ss
with_called ss (Monitor operation) = ss

abbrev pub with_instructions : List Signature → List Placed → List Signature
with_instructions ss instructions = fold (λ (called : List Signature) (i : Placed). with_called called i.instruction) ss
    instructions

abbrev pub with_code : List Signature → Option CodeListing → List Signature
with_code ss None = ss
with_code ss (Some code) = with_instructions ss code.instructions

abbrev pub with_methods : List Signature → List Method → List Signature
with_methods ss methods = fold (λ (called : List Signature) (m : Method). with_code called m.code) ss methods

abbrev pub with_classes : List Signature → List ClassListing → List Signature
with_classes ss classes = fold (λ (called : List Signature) (c : ClassListing). with_methods called c.methods) ss
    classes

-- what the invokevirtuals and invokeinterfaces of a program name, each once, in the order of its classes, methods and
-- instructions
abbrev pub selectors : List ClassListing → List Signature
selectors program = with_classes [] program

-- the selector of a name and descriptor: their place among these
abbrev pub selector_of : List ClassListing → List ℕ → List ℕ → Option ℕ
selector_of program name descriptor = position (is_signature (name, descriptor)) (selectors program)
