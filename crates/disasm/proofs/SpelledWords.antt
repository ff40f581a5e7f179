-- The statements of a listing that some text has are said by plain words.
use Rattle.std.proofs.Common.{◌≡◌, ℕ, ℤ, Bool, true, false, not, ◌&&◌, List, [], ◌∷◌, ◌++◌, length, map, Option, Some}
use Rattle.std.proofs.Common.{None, refl}
use Rattle.std.specs.Prelude.{nat_le, codes, if◌then◌else◌}
use Rattle.std.specs.List.{AllByRecursion, flat_map, list_all}
use Rattle.std.specs.Str.{bytes_eq}
use Rattle.std.proofs.lemmas.Bool.{and_parts}
use Rattle.model.specs.declared.instructions.Access.{Access}
use Rattle.model.specs.declared.instructions.Access.TheVariants as field_access
use Rattle.model.specs.declared.instructions.ArrayOperation.{ArrayOperation}
use Rattle.model.specs.declared.instructions.ArrayOperation.TheVariants as array
use Rattle.model.specs.declared.instructions.ClassOperation.{ClassOperation}
use Rattle.model.specs.declared.instructions.ClassOperation.TheVariants as class
use Rattle.model.specs.declared.instructions.Comparison.{Comparison}
use Rattle.model.specs.declared.instructions.Comparison.TheVariants as comparison
use Rattle.model.specs.declared.instructions.Constant.{Constant}
use Rattle.model.specs.declared.instructions.Constant.TheVariants as constant
use Rattle.model.specs.declared.instructions.Conversion.{Conversion}
use Rattle.model.specs.declared.instructions.Conversion.TheVariants as conversion
use Rattle.model.specs.declared.instructions.ElementKind.{ElementKind}
use Rattle.model.specs.declared.instructions.ElementKind.TheVariants as element
use Rattle.model.specs.declared.instructions.FirstLocal.{FirstLocal}
use Rattle.model.specs.declared.instructions.FirstLocal.TheVariants as first
use Rattle.model.specs.declared.instructions.Identity.{Identity}
use Rattle.model.specs.declared.instructions.Identity.TheVariants as identity
use Rattle.model.specs.declared.instructions.Increment.{Increment}
use Rattle.model.specs.declared.instructions.Increment.TheVariants as increment
use Rattle.model.specs.declared.instructions.Instruction.TheVariants.{Nop, Constant as ConstantOf, Local as LocalOf}
use Rattle.model.specs.declared.instructions.Instruction.TheVariants.{Stack, Number, Branch, TableSwitch, LookupSwitch}
use Rattle.model.specs.declared.instructions.Instruction.TheVariants.{Return, Static, Field, Array, Class, Invoke}
use Rattle.model.specs.declared.instructions.Instruction.TheVariants.{Throw, Monitor}
use Rattle.model.specs.declared.instructions.Invocation.{Invocation}
use Rattle.model.specs.declared.instructions.Invocation.TheVariants as invocation
use Rattle.model.specs.declared.instructions.Local.{Local}
use Rattle.model.specs.declared.instructions.Local.TheVariants as «local»
use Rattle.model.specs.declared.instructions.LocalAccess.{LocalAccess}
use Rattle.model.specs.declared.instructions.LocalAccess.TheVariants as access
use Rattle.model.specs.declared.instructions.MonitorOperation.{MonitorOperation}
use Rattle.model.specs.declared.instructions.MonitorOperation.TheVariants as monitor
use Rattle.model.specs.declared.instructions.NumberKind.{NumberKind}
use Rattle.model.specs.declared.instructions.NumberKind.TheVariants as number_kind
use Rattle.model.specs.declared.instructions.NumberOperation.{NumberOperation}
use Rattle.model.specs.declared.instructions.NumberOperation.TheVariants as number
use Rattle.model.specs.declared.instructions.Operator.{Operator}
use Rattle.model.specs.declared.instructions.Operator.TheVariants as operator
use Rattle.model.specs.declared.instructions.Primitive.{Primitive}
use Rattle.model.specs.declared.instructions.Primitive.TheVariants as primitive
use Rattle.model.specs.declared.instructions.SmallInt.{SmallInt}
use Rattle.model.specs.declared.instructions.SmallInt.TheVariants as small_int
use Rattle.model.specs.declared.instructions.SmallLong.{SmallLong}
use Rattle.model.specs.declared.instructions.SmallLong.TheVariants as small_long
use Rattle.model.specs.declared.instructions.StackOperation.{StackOperation}
use Rattle.model.specs.declared.instructions.StackOperation.TheVariants as stack
use Rattle.model.specs.declared.instructions.Test.{Test}
use Rattle.model.specs.declared.instructions.Test.TheVariants as test
use Rattle.model.specs.declared.instructions.Width.TheVariants.{Narrow, Wide}
use Rattle.model.specs.declared.listings.Constant.{Constant as FieldValue}
use Rattle.model.specs.declared.listings.ExceptionRow.{ExceptionRow}
use Rattle.model.specs.declared.listings.Field.{Field as FieldOf}
use Rattle.model.specs.declared.listings.Method.{Method}
use Rattle.model.specs.declared.listings.Placed.{Placed}
use Rattle.model.specs.declared.names.Member.{Member}
use Rattle.model.specs.declared.values.Kind.{Kind}
use Rattle.model.specs.declared.values.Kind.TheVariants as kind
use Rattle.model.specs.ClassFiles.Fields.{are_field_flags}
use Rattle.model.specs.ClassFiles.Methods.{are_method_flags, wants_code, units_fit}
use Rattle.model.specs.ClassFiles.References.{fits_units, is_field, is_method}
use Rattle.model.specs.ClassListings.{ClassListing}
use Rattle.model.specs.CodeListings.{CodeListing}
use Rattle.model.specs.Switches.{Table, Lookup}
use Rattle.model.specs.Texts.Descriptors.{arguments_of, is_field_descriptor}
use Rattle.model.specs.Texts.Disassembling as text
use Rattle.model.specs.Texts.Disassembling.{Listed, label, targets}
use Rattle.model.specs.Texts.Flags.{has, class_flags, interface_flags, field_flags, method_flags}
use Rattle.model.specs.Texts.Names.{is_class_name, is_field_name, is_method_name}
use Rattle.model.specs.Texts.Spelled as spelled
use Rattle.model.specs.Texts.Widths.{different}
use Rattle.disasm.specs.Statements as said
use Rattle.disasm.proofs.NumberWords.{decimal_plain, signed_plain, label_plain}
use Rattle.disasm.proofs.PlainWords.{IsSaid}
use Rattle.model.proofs.PlainNames.{is_ink, is_plain, IsPlain, inks_of, plain_append, class_name_plain}
use Rattle.model.proofs.PlainNames.{field_name_plain, method_name_plain, field_descriptor_plain, class_word_plain}
use Rattle.model.proofs.PlainNames.{called_descriptor_plain, own_descriptor_plain}

-- each of a list of words is plain, and each of a list of statements is said
abbrev ArePlain : List (List ℕ) → Type 0
ArePlain ws = AllByRecursion IsPlain ws

abbrev pub AreSaid : List (List (List ℕ)) → Type 0
AreSaid ss = AllByRecursion IsSaid ss

-- ---- lists

all_append : {A : Type 0} (P : A → Type 0) (xs ys : List A) → AllByRecursion P xs → AllByRecursion P ys
    → AllByRecursion P (xs ++ ys)
all_append P [] ys hx hy = hy
all_append P (x ∷ xs) ys hx hy = (hx.0, all_append P xs ys hx.1 hy)

all_mapped : {A B : Type 0} (P : B → Type 0) (f : A → B) → ((x : A) → P (f x)) → (xs : List A)
    → AllByRecursion P (map f xs)
all_mapped P f h [] = tt
all_mapped P f h (x ∷ xs) = (h x, all_mapped P f h xs)

all_mapped_if : {A B : Type 0} (P : B → Type 0) (f : A → B) (t : A → Bool) → ((x : A) → t x ≡ true → P (f x))
    → (xs : List A) → list_all t xs ≡ true → AllByRecursion P (map f xs)
all_mapped_if P f t h [] e = tt
all_mapped_if P f t h (x ∷ xs) e = let p = and_parts (t x) (list_all t xs) e in (h x p.0, all_mapped_if P f t h xs p.1)

all_parts_if : {A B : Type 0} (P : B → Type 0) (f : A → List B) (t : A → Bool)
    → ((x : A) → t x ≡ true → AllByRecursion P (f x)) → (xs : List A) → list_all t xs ≡ true
    → AllByRecursion P (flat_map f xs)
all_parts_if P f t h [] e = tt
all_parts_if P f t h (x ∷ xs) e =
    let p = and_parts (t x) (list_all t xs) e
    in all_append P (f x) (flat_map f xs) (h x p.0) (all_parts_if P f t h xs p.1)

-- ---- mnemonics

small_int_plain : (n : SmallInt) → IsPlain (text.small_int_name n)
small_int_plain small_int.MinusOne = refl
small_int_plain small_int.Zero = refl
small_int_plain small_int.One = refl
small_int_plain small_int.Two = refl
small_int_plain small_int.Three = refl
small_int_plain small_int.Four = refl
small_int_plain small_int.Five = refl

small_long_plain : (n : SmallLong) → IsPlain (text.small_long_name n)
small_long_plain small_long.Zero = refl
small_long_plain small_long.One = refl

first_inks : (n : FirstLocal) → list_all is_ink (text.first_name n) ≡ true
first_inks first.Zero = refl
first_inks first.One = refl
first_inks first.Two = refl
first_inks first.Three = refl

kind_plain : (k : Kind) → IsPlain (text.kind_letter k)
kind_plain kind.Int = refl
kind_plain kind.Long = refl
kind_plain kind.Ref = refl

element_plain : (k : ElementKind) → IsPlain (text.element_letter k)
element_plain element.Int = refl
element_plain element.Long = refl
element_plain element.Ref = refl
element_plain element.Byte = refl
element_plain element.Char = refl
element_plain element.Short = refl

stack_plain : (o : StackOperation) → IsPlain (text.stack_name o)
stack_plain stack.Pop = refl
stack_plain stack.Pop2 = refl
stack_plain stack.Dup = refl
stack_plain stack.DupX1 = refl
stack_plain stack.DupX2 = refl
stack_plain stack.Dup2 = refl
stack_plain stack.Dup2X1 = refl
stack_plain stack.Dup2X2 = refl
stack_plain stack.Swap = refl

letter_plain : (k : NumberKind) → IsPlain (text.number_letter k)
letter_plain number_kind.Int = refl
letter_plain number_kind.Long = refl

operator_inks : (o : Operator) → list_all is_ink (text.operator_name o) ≡ true
operator_inks operator.Add = refl
operator_inks operator.Sub = refl
operator_inks operator.Mul = refl
operator_inks operator.Div = refl
operator_inks operator.Rem = refl
operator_inks operator.Shl = refl
operator_inks operator.Shr = refl
operator_inks operator.Ushr = refl
operator_inks operator.And = refl
operator_inks operator.Or = refl
operator_inks operator.Xor = refl

conversion_plain : (c : Conversion) → IsPlain (text.conversion_name c)
conversion_plain conversion.IntToLong = refl
conversion_plain conversion.LongToInt = refl
conversion_plain conversion.IntToByte = refl
conversion_plain conversion.IntToChar = refl
conversion_plain conversion.IntToShort = refl

number_plain : (o : NumberOperation) → IsPlain (text.number_name o)
number_plain (number.Binary k o) = plain_append (text.number_letter k) (text.operator_name o) (letter_plain k)
    (operator_inks o)
number_plain (number.Negate k) = plain_append (text.number_letter k) (codes "neg") (letter_plain k) refl
number_plain (number.Convert c) = conversion_plain c
number_plain number.CompareLongs = refl

comparison_inks : (c : Comparison) → list_all is_ink (text.comparison_name c) ≡ true
comparison_inks comparison.Equal = refl
comparison_inks comparison.NotEqual = refl
comparison_inks comparison.Less = refl
comparison_inks comparison.GreaterOrEqual = refl
comparison_inks comparison.Greater = refl
comparison_inks comparison.LessOrEqual = refl

references_plain : (i : Identity) → IsPlain (text.references_name i)
references_plain identity.Same = refl
references_plain identity.Different = refl

null_plain : (i : Identity) → IsPlain (text.null_name i)
null_plain identity.Same = refl
null_plain identity.Different = refl

test_plain : (t : Test) → IsPlain (text.test_name t)
test_plain (test.Always Narrow) = refl
test_plain (test.Always Wide) = refl
test_plain (test.Zero c) = comparison_inks c
test_plain (test.Ints c) = comparison_inks c
test_plain (test.Refs i) = references_plain i
test_plain (test.Null i) = null_plain i

access_plain : (a : Access) → IsPlain (text.access_name a)
access_plain field_access.Get = refl
access_plain field_access.Put = refl

class_plain : (o : ClassOperation) → IsPlain (text.class_name o)
class_plain class.New = refl
class_plain class.CheckCast = refl
class_plain class.InstanceOf = refl

monitor_plain : (o : MonitorOperation) → IsPlain (text.monitor_name o)
monitor_plain monitor.Enter = refl
monitor_plain monitor.Exit = refl

invocation_plain : (i : Invocation) → IsPlain (text.invocation_name i)
invocation_plain invocation.Virtual = refl
invocation_plain invocation.Special = refl
invocation_plain invocation.Static = refl
invocation_plain (invocation.Interface n) = refl

primitive_plain : (p : Primitive) → IsPlain (text.primitive_name p)
primitive_plain primitive.Char = refl
primitive_plain primitive.Byte = refl
primitive_plain primitive.Short = refl
primitive_plain primitive.Int = refl
primitive_plain primitive.Long = refl

return_plain : (k : Option Kind) → IsPlain (text.return_text k)
return_plain None = refl
return_plain (Some k) = plain_append (text.kind_letter k) (codes "return") (kind_plain k) refl

-- ---- instructions

constant_said : (c : Constant ℤ ℤ) → IsSaid (said.constant_words c)
constant_said constant.Null = (refl, tt)
constant_said (constant.SmallInt n) = (small_int_plain n, tt)
constant_said (constant.SmallLong n) = (small_long_plain n, tt)
constant_said (constant.Byte z) = (refl, (signed_plain z, tt))
constant_said (constant.Short z) = (refl, (signed_plain z, tt))
constant_said (constant.Int Narrow z) = (refl, (signed_plain z, tt))
constant_said (constant.Int Wide z) = (refl, (signed_plain z, tt))
constant_said (constant.Long z) = (refl, (signed_plain z, tt))

with_local_said : (name : List ℕ) (l : Local) → IsPlain name → IsSaid (said.with_local_words name l)
with_local_said name («local».First n) plain = (plain_append name (text.first_name n) plain (first_inks n), tt)
with_local_said name («local».Byte n) plain = (plain, (decimal_plain n, tt))
with_local_said name («local».Wide n) plain = (refl, (plain, (decimal_plain n, tt)))

increment_said : (i : Increment) → IsSaid (said.increment_words i)
increment_said (increment.Byte n z) = (refl, (decimal_plain n, (signed_plain z, tt)))
increment_said (increment.Wide n z) = (refl, (refl, (decimal_plain n, (signed_plain z, tt))))

local_said : (a : LocalAccess) → IsSaid (said.local_words a)
local_said (access.Load k l) = with_local_said (text.kind_letter k ++ codes "load") l
    (plain_append (text.kind_letter k) (codes "load") (kind_plain k) refl)
local_said (access.Store k l) = with_local_said (text.kind_letter k ++ codes "store") l
    (plain_append (text.kind_letter k) (codes "store") (kind_plain k) refl)
local_said (access.Increment i) = increment_said i

default_said : (pc : ℕ) → IsSaid (said.default_words pc)
default_said pc = (refl, (refl, (label_plain pc, tt)))

table_said : (t : Table ℕ) → AreSaid (said.table_statements t)
table_said t = (
  (refl, (signed_plain t.low, tt)),
  all_append IsSaid (map said.target_words t.targets) (said.default_words t.default
      ∷ []) (all_mapped IsSaid said.target_words (λ pc. (label_plain pc, tt)) t.targets) (default_said t.default, tt),
)

lookup_said : (l : Lookup ℕ) → AreSaid (said.lookup_statements l)
lookup_said l = (
  (refl, tt),
  all_append IsSaid (map said.pair_words l.pairs) (said.default_words l.default ∷ [])
      (all_mapped IsSaid said.pair_words (λ p. (signed_plain p.0, (refl, (label_plain p.1, tt)))) l.pairs)
      (default_said l.default, tt),
)

-- a member's class and name in one word
path_plain : (class name : List ℕ) → IsPlain class → IsPlain name → IsPlain (class ++ (codes "/" ++ name))
path_plain class name c n = plain_append class (codes "/" ++ name) c (inks_of name n)

field_operand_said : (name kind : List ℕ) (m : Member) → IsPlain (name ++ kind) → spelled.field_is_named m ≡ true
    → IsSaid ((name ++ kind) ∷ said.field_path m ∷ m.descriptor ∷ [])
field_operand_said name kind m plain h =
    let p = and_parts (is_class_name m.class) (is_field m.name m.descriptor) h in
    let q = and_parts (is_field_name m.name) (is_field_descriptor m.descriptor) p.1 in (
      plain,
      (
        path_plain m.class m.name (class_name_plain m.class p.0).plain (field_name_plain m.name q.0).plain,
        ((field_descriptor_plain m.descriptor q.1).plain, tt),
      ),
    )

array_said : (a : ArrayOperation (List ℕ)) → spelled.array_is_spelled a ≡ true → IsSaid (said.array_words a)
array_said (array.New p) h = (refl, (primitive_plain p, tt))
array_said (array.NewOf c) h = (refl, ((class_word_plain c h).plain, tt))
array_said array.Length h = (refl, tt)
array_said (array.Load k) h = (plain_append (text.element_letter k) (codes "aload") (element_plain k) refl, tt)
array_said (array.Store k) h = (plain_append (text.element_letter k) (codes "astore") (element_plain k) refl, tt)

operand_plain : (o : ClassOperation) (c : List ℕ) → spelled.class_is_spelled o c ≡ true → IsPlain c
operand_plain class.New c h = (class_name_plain c h).plain
operand_plain class.CheckCast c h = (class_word_plain c h).plain
operand_plain class.InstanceOf c h = (class_word_plain c h).plain

count_plain : (i : Invocation) → ArePlain (said.count_words i)
count_plain invocation.Virtual = tt
count_plain invocation.Special = tt
count_plain invocation.Static = tt
count_plain (invocation.Interface n) = (decimal_plain n, tt)

method_plain : (m : Member) → spelled.method_is_named m ≡ true → IsPlain (text.method_word m)
method_plain m h =
    let p = and_parts (is_class_name m.class) (is_method m.name m.descriptor) h in
    let q = and_parts (is_method_name m.name) (fits_units (arguments_of m.descriptor)) p.1 in
    path_plain m.class (m.name ++ m.descriptor) (class_name_plain m.class p.0).plain
    (plain_append m.name m.descriptor (method_name_plain m.name q.0).plain
    (inks_of m.descriptor (called_descriptor_plain m.descriptor q.1).plain))

instruction_said : (i : Listed) → spelled.operands_are_spelled i ≡ true → AreSaid (said.instruction_statements i)
instruction_said Nop h = ((refl, tt), tt)
instruction_said (ConstantOf c) h = (constant_said c, tt)
instruction_said (LocalOf a) h = (local_said a, tt)
instruction_said (Stack o) h = ((stack_plain o, tt), tt)
instruction_said (Number o) h = ((number_plain o, tt), tt)
instruction_said (Branch t pc) h = ((test_plain t, (label_plain pc, tt)), tt)
instruction_said (TableSwitch t) h = table_said t
instruction_said (LookupSwitch l) h = lookup_said l
instruction_said (Return k) h = ((return_plain k, tt), tt)
instruction_said (Static a m) h = (
  field_operand_said (text.access_name a) (codes "static") m (plain_append (text.access_name a) (codes "static")
      (access_plain a) refl) h,
  tt,
)
instruction_said (Field a m) h = (
  field_operand_said (text.access_name a) (codes "field") m (plain_append (text.access_name a) (codes "field")
      (access_plain a) refl) h,
  tt,
)
instruction_said (Array a) h = (array_said a h, tt)
instruction_said (Class o c) h = ((class_plain o, (operand_plain o c h, tt)), tt)
instruction_said (Invoke i m) h = (
  (
    invocation_plain i,
    (
      method_plain m (and_parts (spelled.count_is_spelled i) (spelled.method_is_named m) h).1,
      count_plain i,
    ),
  ),
  tt,
)
instruction_said Throw h = ((refl, tt), tt)
instruction_said (Monitor o) h = ((monitor_plain o, tt), tt)

-- ---- code

label_said : (named : Bool) (pc : ℕ) → AreSaid (said.label_statements named pc)
label_said false pc = tt
label_said true pc = ((plain_append (label pc) (codes ":") (label_plain pc) refl, tt), tt)

instructions_said : (among : List Placed) (pcs : List ℕ) (end : ℕ) (ps : List Placed)
    → list_all (spelled.instruction_is_spelled among) ps ≡ true → AreSaid (said.statements_from pcs end ps)
instructions_said among pcs end [] h = label_said (text.is_named pcs end) end
instructions_said among pcs end (p ∷ ps) h =
    let each = and_parts (spelled.instruction_is_spelled among p) (list_all (spelled.instruction_is_spelled among) ps) h
    in
    let own = and_parts (spelled.operands_are_spelled p.instruction)
    (list_all (spelled.is_pc among) (targets p.instruction)) each.0 in
    all_append IsSaid (said.placed_statements pcs p) (said.statements_from pcs p.next ps)
    (all_append IsSaid (said.label_statements (text.is_named pcs p.pc) p.pc) (said.instruction_statements p.instruction)
    (label_said (text.is_named pcs p.pc) p.pc) (instruction_said p.instruction own.0))
    (instructions_said among pcs p.next ps each.1)

catch_plain : (c : Option (List ℕ)) → spelled.catch_is_spelled c ≡ true → IsPlain (text.catch_name c)
catch_plain None h = refl
catch_plain (Some name) h = (class_name_plain name (and_parts (is_class_name name) (not (bytes_eq name (codes "all")))
    h).0).plain

row_said : (among : List Placed) (r : ExceptionRow) → spelled.row_is_spelled among r ≡ true → IsSaid (said.row_words r)
row_said among r h =
    let p = and_parts ((spelled.is_bound among r.start && spelled.is_bound among r.end)
    && spelled.is_pc among r.handler) (spelled.catch_is_spelled r.class) h in (
      refl,
      (
        catch_plain r.class p.1,
        (refl, (label_plain r.start, (refl, (label_plain r.end, (refl, (label_plain r.handler, tt)))))),
      ),
    )

code_said : (c : CodeListing) → spelled.code_is_spelled c ≡ true → AreSaid (said.code_statements c)
code_said c h =
    let each : Placed → Bool = spelled.instruction_is_spelled c.instructions in
    let row : ExceptionRow → Bool = spelled.row_is_spelled c.instructions in
    let limits = (spelled.is_u2 c.max_stack && spelled.is_u2 c.max_locals) && spelled.stand_from 0 c.instructions in
    let rows = and_parts (limits && list_all each c.instructions) (list_all row c.rows) h in
    let instructions = and_parts limits (list_all each c.instructions) rows.0 in (
      (refl, (refl, (decimal_plain c.max_stack, tt))),
      (
        (refl, (refl, (decimal_plain c.max_locals, tt))),
        all_append IsSaid (map said.row_words c.rows) (said.statements_from (text.named_pcs c) 0 c.instructions)
            (all_mapped_if IsSaid said.row_words row (row_said c.instructions) c.rows rows.1)
            (instructions_said c.instructions (text.named_pcs c) 0 c.instructions instructions.1),
      ),
    )

-- ---- a class

flag_plain : (set : Bool) (word : List ℕ) → IsPlain word → ArePlain (if set then word ∷ [] else [])
flag_plain true word plain = (plain, tt)
flag_plain false word plain = tt

flags_plain : (flags : ℕ) (table : List (List ℕ × ℕ)) → list_all (λ row. is_plain row.0) table ≡ true
    → ArePlain (said.flags_words table flags)
flags_plain flags table h = all_parts_if IsPlain (said.flag_words flags) (λ row. is_plain row.0)
    (λ row e. flag_plain (has flags row.1) row.0 e) table h

class_said : (interface : Bool) (flags : ℕ) (name : List ℕ) → IsPlain name
    → IsSaid (said.class_words interface flags name)
class_said false flags name plain = (
  refl,
  all_append IsPlain (said.flags_words class_flags flags) (name ∷ [])
      (flags_plain flags class_flags refl) (plain, tt),
)
class_said true flags name plain = (
  refl,
  all_append IsPlain (said.flags_words interface_flags flags) (name ∷ [])
      (flags_plain flags interface_flags refl) (plain, tt),
)

value_plain : (v : Option FieldValue) → ArePlain (said.value_words v)
value_plain None = tt
value_plain (Some v) = (refl, (signed_plain (text.number_of_value v), tt))

field_said : (class : ℕ) (f : FieldOf) → spelled.field_is_spelled class f ≡ true → IsSaid (said.field_words f)
field_said class f h =
    let flags = spelled.is_u2 f.flags.0 && are_field_flags class f.flags.0 in
    let p = and_parts ((flags && is_field_name f.name) && is_field_descriptor f.descriptor)
    (spelled.value_is_spelled (has f.flags.0 0x0008) f.descriptor f.constant) h in
    let q = and_parts (flags && is_field_name f.name) (is_field_descriptor f.descriptor) p.0 in
    let r = and_parts flags (is_field_name f.name) q.0 in (
      refl,
      all_append IsPlain (said.flags_words field_flags f.flags.0) (f.name ∷ f.descriptor ∷ said.value_words f.constant)
          (flags_plain f.flags.0 field_flags refl) (
            (field_name_plain f.name r.1).plain,
            (
              (field_descriptor_plain f.descriptor q.1).plain,
              value_plain f.constant,
            ),
          ),
    )

body_said : (wanted : Bool) (c : Option CodeListing) → spelled.body_is_spelled wanted c ≡ true
    → AreSaid (said.body_statements c)
body_said wanted None h = tt
body_said wanted (Some c) h = code_said c (and_parts wanted (spelled.code_is_spelled c) h).1

method_said : (class : ℕ) (m : Method) → spelled.method_is_spelled class m ≡ true → AreSaid (said.method_statements m)
method_said class m h =
    let flags = spelled.is_u2 m.flags.0 && are_method_flags class m.flags.0 in
    let fit = units_fit (has m.flags.0 0x0008) (arguments_of m.descriptor) in
    let p = and_parts ((flags && is_method_name m.name) && fit) (spelled.body_is_spelled (wants_code m.flags.0) m.code)
    h in
    let q = and_parts (flags && is_method_name m.name) fit p.0 in
    let r = and_parts flags (is_method_name m.name) q.0 in
    let word = plain_append m.name m.descriptor (method_name_plain m.name r.1).plain
    (inks_of m.descriptor (own_descriptor_plain (has m.flags.0 0x0008) m.descriptor q.1).plain) in (
      (
        refl,
        all_append IsPlain (said.flags_words method_flags m.flags.0) ((m.name ++ m.descriptor) ∷ [])
            (flags_plain m.flags.0 method_flags refl) (word, tt),
      ),
      all_append IsSaid (said.body_statements m.code) (said.end_words ∷ []) (body_said (wants_code m.flags.0) m.code
          p.1) ((refl, (refl, tt)), tt),
    )

-- the statements of a listing that some text has
pub class_statements_said : (l : ClassListing) → spelled.is_spelled l ≡ true → AreSaid (said.class_statements l)
unfolding spelled.is_spelled
class_statements_said l h =
    let flags = l.flags.0 in
    let head = spelled.head_is_spelled flags l.superclass in
    let fields = list_all (spelled.field_is_spelled flags) l.fields in
    let methods = list_all (spelled.method_is_spelled flags) l.methods in
    let interfaces = list_all is_class_name l.interfaces in
    let a = and_parts (((((head && is_class_name l.name) && is_class_name l.superclass) && interfaces) && fields)
    && methods) (nat_le (length (different (spelled.ldc_numbers l.methods))) 255) h in
    let b = and_parts ((((head && is_class_name l.name) && is_class_name l.superclass) && interfaces) && fields) methods
    a.0 in
    let c = and_parts (((head && is_class_name l.name) && is_class_name l.superclass) && interfaces) fields b.0 in
    let d = and_parts ((head && is_class_name l.name) && is_class_name l.superclass) interfaces c.0 in
    let e = and_parts (head && is_class_name l.name) (is_class_name l.superclass) d.0 in
    let f = and_parts head (is_class_name l.name) e.0 in (
      class_said (has flags 0x0200) flags l.name (class_name_plain l.name f.1).plain,
      (
        (refl, ((class_name_plain l.superclass e.1).plain, tt)),
        all_append IsSaid (map said.interface_words l.interfaces) (map said.field_words l.fields
            ++ flat_map said.method_statements l.methods)
            (all_mapped_if IsSaid said.interface_words is_class_name
            (λ name plain. (refl, ((class_name_plain name plain).plain, tt))) l.interfaces d.1)
            (all_append IsSaid (map said.field_words l.fields) (flat_map said.method_statements l.methods)
            (all_mapped_if IsSaid said.field_words (spelled.field_is_spelled flags) (field_said flags) l.fields c.1)
            (all_parts_if IsSaid said.method_statements (spelled.method_is_spelled flags) (method_said flags) l.methods
            b.1)),
      ),
    )
