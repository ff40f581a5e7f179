-- What no text can say, though a class file may: nothing else of a class file's listing stands in the way of its text.
use Rattle.std.specs.Prelude.{ℕ, Bool, true, not, ◌&&◌, ◌||◌, nat_le, List, codes, Option, Some, None}
use Rattle.std.specs.List.{list_all}
use Rattle.std.specs.Str.{bytes_eq}
use Rattle.model.specs.declared.instructions.Instruction.TheVariants as instruction
use Rattle.model.specs.declared.instructions.Invocation.{Invocation}
use Rattle.model.specs.declared.instructions.Invocation.TheVariants as invocation
use Rattle.model.specs.declared.listings.Method.{Method}
use Rattle.model.specs.ClassListings.{ClassListing}
use Rattle.model.specs.CodeListings.{CodeListing}
use Rattle.model.specs.Table.Next.{Listed}
use Rattle.model.specs.Texts.Flags.{has}
use Rattle.model.specs.Texts.Names.{is_class_name}
use Rattle.model.specs.Texts.Spelled.{row_is_spelled}

-- the count of invokeinterface isn't 0
abbrev pub count_is_sayable : Invocation → Bool
count_is_sayable invocation.Virtual = true
count_is_sayable invocation.Special = true
count_is_sayable invocation.Static = true
count_is_sayable (invocation.Interface count) = nat_le 1 count

-- a field or a method is one of a class, and not of an array
abbrev pub operand_is_sayable : Listed → Bool
operand_is_sayable instruction.Nop = true
operand_is_sayable (instruction.Constant c) = true
operand_is_sayable (instruction.Local a) = true
operand_is_sayable (instruction.Stack op) = true
operand_is_sayable (instruction.Number op) = true
operand_is_sayable (instruction.Branch t target) = true
operand_is_sayable (instruction.TableSwitch t) = true
operand_is_sayable (instruction.LookupSwitch l) = true
operand_is_sayable (instruction.Return kind) = true
operand_is_sayable (instruction.Static a m) = is_class_name m.class
operand_is_sayable (instruction.Field a m) = is_class_name m.class
operand_is_sayable (instruction.Array op) = true
operand_is_sayable (instruction.Class op c) = true
operand_is_sayable (instruction.Invoke how m) = is_class_name m.class && count_is_sayable how
operand_is_sayable instruction.Throw = true
operand_is_sayable (instruction.Monitor op) = true

-- an exception row begins and ends at an instruction or at the code's end, its handler stands at an instruction, and it
-- takes anything or a class that is neither an array nor named `all`
abbrev pub code_is_sayable : CodeListing → Bool
code_is_sayable c = list_all (λ p. operand_is_sayable p.instruction) c.instructions
    && list_all (row_is_spelled c.instructions) c.rows

abbrev pub body_is_sayable : Option CodeListing → Bool
body_is_sayable None = true
body_is_sayable (Some c) = code_is_sayable c

abbrev pub method_is_sayable : Method → Bool
method_is_sayable m = body_is_sayable m.code

-- an interface's superclass is java/lang/Object
abbrev pub superclass_is_sayable : ℕ → List ℕ → Bool
superclass_is_sayable flags superclass = not (has flags 0x0200) || bytes_eq superclass (codes "java/lang/Object")

-- whether a text can say what the listing of a class file says
unfoldable pub is_sayable : ClassListing → Bool
is_sayable l = superclass_is_sayable l.flags.0 l.superclass && list_all method_is_sayable l.methods

-- ---- what is left of this in programs

-- no class named `all` is taken
abbrev pub catch_is_plain : Option (List ℕ) → Bool
catch_is_plain None = true
catch_is_plain (Some name) = not (bytes_eq name (codes "all"))

abbrev pub body_is_plain : Option CodeListing → Bool
body_is_plain None = true
body_is_plain (Some c) = list_all (λ r. catch_is_plain r.class) c.rows

-- an interface's superclass is java/lang/Object, and no exception row takes a class named `all`
unfoldable pub is_plain : ClassListing → Bool
is_plain l = superclass_is_sayable l.flags.0 l.superclass && list_all (λ m. body_is_plain m.code) l.methods

abbrev pub are_named : List ClassListing → Bool
are_named classes = list_all (λ c. is_class_name c.name) classes
