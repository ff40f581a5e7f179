-- The text of listings, worked, and the words of instructions against the tables that texts are read by.
use Rattle.std.specs.Prelude.{◌≡◌, ℕ, pos, negsuc, map, List, [], ◌∷◌, refl, codes, Option, Some, None}
use Rattle.std.specs.Fmt.{digits}
use Rattle.model.specs.declared.instructions.Access.TheVariants as field_access
use Rattle.model.specs.declared.instructions.Constant.TheVariants as constant
use Rattle.model.specs.declared.instructions.FirstLocal.TheVariants as first
use Rattle.model.specs.declared.instructions.Identity.TheVariants as identity
use Rattle.model.specs.declared.instructions.Increment.TheVariants as increment
use Rattle.model.specs.declared.instructions.Instruction.TheVariants as instruction
use Rattle.model.specs.declared.instructions.Invocation.TheVariants as invocation
use Rattle.model.specs.declared.instructions.Local.TheVariants as «local»
use Rattle.model.specs.declared.instructions.LocalAccess.TheVariants as access
use Rattle.model.specs.declared.instructions.Test.TheVariants as test
use Rattle.model.specs.declared.instructions.Width.TheVariants.{Wide}
use Rattle.model.specs.declared.listings.Constant.TheVariants as value
use Rattle.model.specs.declared.listings.ExceptionRow.{ExceptionRow}
use Rattle.model.specs.declared.listings.Placed.{Placed}
use Rattle.model.specs.declared.mnemonics.Mnemonic.{Mnemonic}
use Rattle.model.specs.declared.mnemonics.Mnemonic.TheVariants as mnemonic
use Rattle.model.specs.declared.values.Kind.TheVariants as kind
use Rattle.model.specs.ClassListings.{ClassListing}
use Rattle.model.specs.CodeListings.{CodeListing}
use Rattle.model.specs.Texts.Disassembling.{Listed, text_of, interface_line, table_head, default_text, lookup_head}
use Rattle.model.specs.Texts.Disassembling.{stack_line, locals_line, method_flag_words, method_line, end_line}
use Rattle.model.specs.Texts.Disassembling.{instruction_text, stack_name, number_name, return_text, invocation_name}
use Rattle.model.specs.Texts.Disassembling.{primitive_name}
use Rattle.model.specs.Texts.Mnemonics.{stack_mnemonics, number_mnemonics, call_mnemonics}
use Rattle.model.specs.Texts.Operands.{primitives}

-- ---- each word of a table is the word of what the table has under it

-- the first word of what has a mnemonic of one of these tables
abbrev word_of : Mnemonic → List ℕ
word_of (mnemonic.Stack o) = stack_name o
word_of (mnemonic.Number o) = number_name o
word_of (mnemonic.Invoke i) = invocation_name i
word_of mnemonic.InvokeInterface = invocation_name (invocation.Interface 1)
word_of (mnemonic.Return k) = return_text k
word_of m = []

abbrev words_of : List (List ℕ × Mnemonic) → List (List ℕ)
words_of rows = map (λ row. word_of row.1) rows

abbrev first_words : List (List ℕ × Mnemonic) → List (List ℕ)
first_words rows = map (λ row. row.0) rows

pub stack_words : words_of stack_mnemonics ≡ first_words stack_mnemonics
stack_words = refl

pub number_words : words_of number_mnemonics ≡ first_words number_mnemonics
number_words = refl

pub call_words : words_of call_mnemonics ≡ first_words call_mnemonics
call_words = refl

pub primitive_words : map (λ row. primitive_name row.1) primitives ≡ map (λ row. row.0) primitives
primitive_words = refl

-- ---- listings

abbrev main_with : List ℕ → CodeListing → ClassListing
main_with name code = record {
  name = name;
  flags = record { 0 = 0x0001 };
  superclass = codes "java/lang/Object";
  interfaces = [];
  fields = [];
  methods = record { flags = record { 0 = 0x0009 }; name = codes "main"; descriptor = codes "()V"; code = Some code }
      ∷ [];
}

-- the smallest program
pub smallest : text_of (main_with (codes "E") (record {
  max_stack = 0;
  max_locals = 0;
  rows = [];
  instructions = record { pc = 0; next = 1; instruction = instruction.Return None } ∷ [];
})) ≡ codes ".class public E\n.super java/lang/Object\n.method public static main()V\n.limit stack 0\n.limit locals 0\nreturn\n.end method\n"
unfolding text_of interface_line table_head default_text lookup_head stack_line locals_line method_flag_words
    method_line end_line digits
smallest = refl

abbrev row : ℕ → ℕ → ℕ → Option (List ℕ) → ExceptionRow
row start end handler class = record { start = start; end = end; handler = handler; class = class }

abbrev at : ℕ → ℕ → Listed → Placed
at pc next i = record { pc = pc; next = next; instruction = i }

-- rows, both switches and branches name pcs, the end of the code among them
pub labels : text_of (main_with (codes "A") (record {
  max_stack = 1;
  max_locals = 2;
  rows = row 0 24 60 (Some (codes "java/lang/Exception")) ∷ row 4 61 60 None ∷ [];
  instructions =
      at 0 1 (instruction.Local (access.Load kind.Int («local».First first.Zero)))
      ∷ at 1 24 (instruction.TableSwitch (record { low = negsuc 0; targets = 24 ∷ 60 ∷ []; default = 56 }))
      ∷ at 24 25 (instruction.Local (access.Load kind.Int («local».First first.One)))
      ∷ at 25 56 (instruction.LookupSwitch (record { pairs = (negsuc 4, 0) ∷ (pos 7, 60) ∷ []; default = 59 }))
      ∷ at 56 59 (instruction.Branch (test.Null identity.Different) 60)
      ∷ at 59 60 (instruction.Constant constant.Null)
      ∷ at 60 61 instruction.Throw ∷ [];
})) ≡ codes ".class public A\n.super java/lang/Object\n.method public static main()V\n.limit stack 1\n.limit locals 2\n.catch java/lang/Exception from L0 to L24 using L60\n.catch all from L4 to L61 using L60\nL0:\niload_0\ntableswitch -1\nL24\nL60\ndefault : L56\nL24:\niload_1\nlookupswitch\n-5 : L0\n7 : L60\ndefault : L59\nL56:\nifnonnull L60\nL59:\naconst_null\nL60:\nathrow\nL61:\n.end method\n"
unfolding text_of interface_line table_head default_text lookup_head stack_line locals_line method_flag_words
    method_line end_line digits
labels = refl

-- wide forms carry `wide`
pub wide_store : instruction_text (instruction.Local (access.Store kind.Long («local».Wide 3))) ≡ codes "wide lstore 3"
unfolding digits
wide_store = refl

pub narrow_load : instruction_text (instruction.Local (access.Load kind.Ref («local».Byte 200))) ≡ codes "aload 200"
unfolding digits
narrow_load = refl

pub wide_increment : instruction_text (instruction.Local (access.Increment (increment.Wide 256 (negsuc 128))))
    ≡ codes "wide iinc 256 -129"
unfolding digits
wide_increment = refl

pub far : instruction_text (instruction.Branch (test.Always Wide) 70) ≡ codes "goto_w L70"
unfolding digits
far = refl

pub interface_call : instruction_text (instruction.Invoke (invocation.Interface 3) (record {
  class = codes "a/I";
  name = codes "m";
  descriptor = codes "(J)I";
})) ≡ codes "invokeinterface a/I/m(J)I 3"
unfolding digits
interface_call = refl

pub a_field : instruction_text (instruction.Static field_access.Put (record {
  class = codes "a/B";
  name = codes "f";
  descriptor = codes "[I";
})) ≡ codes "putstatic a/B/f [I"
a_field = refl

-- an interface with values, and a method without code
pub interface : text_of (record {
  name = codes "a/I";
  flags = record { 0 = 0x0601 };
  superclass = codes "java/lang/Object";
  interfaces = codes "a/J" ∷ codes "K" ∷ [];
  fields =
      record {
        flags = record { 0 = 0x0019 };
        name = codes "least";
        descriptor = codes "J";
        constant = Some (value.Long (negsuc 9223372036854775807));
      }
      ∷ record { flags = record { 0 = 0x0099 }; name = codes "none"; descriptor = codes "La/I;"; constant = None }
      ∷ record {
        flags = record { 0 = 0x0019 };
        name = codes "c";
        descriptor = codes "C";
        constant = Some (value.Int (pos 65));
      } ∷ [];
  methods = record { flags = record { 0 = 0x0401 }; name = codes "m"; descriptor = codes "(J)I"; code = None } ∷ [];
}) ≡ codes ".interface public a/I\n.super java/lang/Object\n.implements a/J\n.implements K\n.field public static final least J = -9223372036854775808\n.field public static final transient none La/I;\n.field public static final c C = 65\n.method public abstract m(J)I\n.end method\n"
unfolding text_of interface_line table_head default_text lookup_head stack_line locals_line method_flag_words
    method_line end_line digits
interface = refl
