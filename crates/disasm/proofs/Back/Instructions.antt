-- Each instruction but a switch is read back from its words.
use Rattle.std.proofs.Common.{◌≡◌, ℕ, ℤ, pos, negsuc, Bool, true, false, not, ◌||◌, nat_le, int_le, List, [], ◌∷◌, ◌++◌}
use Rattle.std.proofs.Common.{map, codes, decimal, bytes_eq, Option, Some, None, refl, ap, ap₂, ◌∙◌, arith, leb-true}
use Rattle.std.proofs.Common.{le-leb}
use Rattle.std.specs.Fmt.{signed_decimal}
use Rattle.std.specs.List.{list_all}
use Rattle.std.specs.Option.{option_map, option_and_then}
use Rattle.std.proofs.lemmas.Bool.{and_parts, and_from}
use Rattle.model.specs.declared.instructions.ArrayOperation.{ArrayOperation}
use Rattle.model.specs.declared.instructions.ArrayOperation.TheVariants as array
use Rattle.model.specs.declared.instructions.ClassOperation.{ClassOperation}
use Rattle.model.specs.declared.instructions.ClassOperation.TheVariants as class
use Rattle.model.specs.declared.instructions.Constant.{Constant}
use Rattle.model.specs.declared.instructions.Constant.TheVariants as constant
use Rattle.model.specs.declared.instructions.Increment.TheVariants as increment
use Rattle.model.specs.declared.instructions.Instruction.TheVariants as instruction
use Rattle.model.specs.declared.instructions.Invocation.{Invocation}
use Rattle.model.specs.declared.instructions.Invocation.TheVariants as invocation
use Rattle.model.specs.declared.instructions.Local.TheVariants as «local»
use Rattle.model.specs.declared.instructions.LocalAccess.{LocalAccess}
use Rattle.model.specs.declared.instructions.LocalAccess.TheVariants as access
use Rattle.model.specs.declared.instructions.Primitive.{Primitive}
use Rattle.model.specs.declared.instructions.Primitive.TheVariants as primitive
use Rattle.model.specs.declared.instructions.Test.{Test}
use Rattle.model.specs.declared.instructions.Width.TheVariants as width
use Rattle.model.specs.declared.mnemonics.LocalMnemonic.TheVariants as accessed
use Rattle.model.specs.declared.mnemonics.Mnemonic.{Mnemonic}
use Rattle.model.specs.declared.mnemonics.Mnemonic.TheVariants as mnemonic
use Rattle.model.specs.declared.names.Member.{Member}
use Rattle.model.specs.declared.trees.TextLine.TheVariants.{Instruction}
use Rattle.model.specs.Switches.{Table, Lookup}
use Rattle.model.specs.Table.Next.{Listed}
use Rattle.model.specs.ClassFiles.References.{names_class}
use Rattle.model.specs.Texts.Disassembling.{label, method_word, primitive_name, targets, test_name, stack_name}
use Rattle.model.specs.Texts.Disassembling.{number_name, return_text, access_name, class_name, monitor_name}
use Rattle.model.specs.Texts.Instructions.{Written, instruction_by, wide_by, operand_of, interface_call}
use Rattle.model.specs.Texts.Labels.{with_targets}
use Rattle.model.specs.Texts.Locals.{local_form, increment_with}
use Rattle.model.specs.Texts.Methods.{part, code_line, said_by, part_before, parts_by, parts_from}
use Rattle.model.specs.Texts.Numbers.{natural_to}
use Rattle.model.specs.Texts.Operands.{type_named, primitives}
use Rattle.model.specs.Texts.Spelled.{operands_are_spelled, class_is_spelled, method_is_named, count_is_spelled, is_u2}
use Rattle.model.specs.Texts.Spelled.{is_short, is_byte, table_is_spelled, lookup_is_spelled}
use Rattle.model.specs.Texts.Statements.{Statement}
use Rattle.model.specs.Texts.Tables.{named}
use Rattle.disasm.specs.Statements.{instruction_statements, constant_words, local_words, field_path, static_words}
use Rattle.disasm.specs.Statements.{object_words, array_words, call_words}
use Rattle.disasm.proofs.Back.Mnemonics as begin
use Rattle.disasm.proofs.Back.Mnemonics.{Begins, is_other}
use Rattle.disasm.proofs.Back.Numbers.{natural_to_back, signed_back, count_back}
use Rattle.disasm.proofs.Back.Words.{label_back, method_back, field_back}

-- the words of one statement say an instruction
abbrev pub Says : Option Written → List (List ℕ) → Type 0
Says i words = said_by words ≡ option_map (λ w. part (code_line (Instruction w))) i

-- what is no other word is none of each
record Plain (word : List ℕ) : Type 0 where
  pub limit : bytes_eq word (codes ".limit") ≡ false
  pub catch : bytes_eq word (codes ".catch") ≡ false
  pub table : bytes_eq word (codes "tableswitch") ≡ false
  pub lookup : bytes_eq word (codes "lookupswitch") ≡ false
  pub wide : bytes_eq word (codes "wide") ≡ false

plain_from : (a b c d e : Bool) → not (a || b || c || d || e) ≡ true → (a ≡ false) × (b ≡ false) × (c ≡ false)
    × (d ≡ false) × (e ≡ false)
plain_from false false false false false h = (refl, refl, refl, refl, refl)
plain_from true b c d e h = absurd cc
plain_from false true c d e h = absurd cc
plain_from false false true d e h = absurd cc
plain_from false false false true e h = absurd cc
plain_from false false false false true h = absurd cc

is_plain : (word : List ℕ) → not (is_other word) ≡ true → Plain word
is_plain word e =
    let p = plain_from (bytes_eq word (codes ".limit")) (bytes_eq word (codes ".catch"))
    (bytes_eq word (codes "tableswitch")) (bytes_eq word (codes "lookupswitch")) (bytes_eq word (codes "wide")) e
    in
    record { limit = p.0; catch = p.1; table = p.2; lookup = p.3; wide = p.4 }

-- an instruction after its mnemonic
said_plainly : (word : List ℕ) (words : List (List ℕ)) (m : Mnemonic) → Begins word m
    → Says (instruction_by m words) (word ∷ words)
said_plainly word words m b =
    let p = is_plain word b.plain in
    rw (p.limit, p.catch, p.table, p.lookup, b.unlabelled, p.wide, b.means) (lifted (instruction_by m words))
  where
    lifted : (o : Option Written) → option_map (λ line. part (code_line line)) (option_map Instruction o)
        ≡ option_map (λ w. part (code_line (Instruction w))) o
    lifted None = refl
    lifted (Some w) = refl

-- an instruction in the wide form
said_widely : (word : List ℕ) (words : List (List ℕ)) (m : Mnemonic) → Begins word m
    → Says (wide_by m words) (codes "wide" ∷ word ∷ words)
said_widely word words m b = ap (λ o. option_map (λ line. part (code_line line))
    (option_map Instruction (option_and_then (λ m. wide_by m words) o))) b.means ∙ lifted (wide_by m words)
  where
    lifted : (o : Option Written) → option_map (λ line. part (code_line line)) (option_map Instruction o)
        ≡ option_map (λ w. part (code_line (Instruction w))) o
    lifted None = refl
    lifted (Some w) = refl

-- an instruction's word and its operands
one_said : (word : List ℕ) (words : List (List ℕ)) (m : Mnemonic) (i : Written) → Begins word m → instruction_by m words
    ≡ Some i → Says (Some i) (word ∷ words)
one_said word words m i b e = said_plainly word words m b ∙ ap (option_map (λ w. part (code_line (Instruction w)))) e

wide_said : (word : List ℕ) (words : List (List ℕ)) (m : Mnemonic) (i : Written) → Begins word m → wide_by m words
    ≡ Some i → Says (Some i) (codes "wide" ∷ word ∷ words)
wide_said word words m i b e = said_widely word words m b ∙ ap (option_map (λ w. part (code_line (Instruction w)))) e

-- ---- operands

abbrev W : Listed → Written
W i = with_targets label i

primitive_back : (p : Primitive) → named primitives (primitive_name p) ≡ Some p
primitive_back primitive.Char = refl
primitive_back primitive.Byte = refl
primitive_back primitive.Short = refl
primitive_back primitive.Int = refl
primitive_back primitive.Long = refl

type_back : (c : List ℕ) → names_class c ≡ true → type_named c ≡ Some c
type_back [] e = absurd cc
type_back (b ∷ bs) e = rw e refl

class_operand : (o : ClassOperation) (c : List ℕ) → class_is_spelled o c ≡ true → operand_of o c ≡ Some c
class_operand class.New c e = rw e refl
class_operand class.CheckCast c e = type_back c e
class_operand class.InstanceOf c e = type_back c e

-- ---- constants

constant_back : (c : Constant ℤ ℤ) → operands_are_spelled (instruction.Constant c) ≡ true
    → Says (Some (instruction.Constant c)) (constant_words c)
constant_back constant.Null e = one_said (codes "aconst_null") [] mnemonic.Null (instruction.Constant constant.Null)
    begin.null_begins refl
constant_back (constant.SmallInt n) e = said_plainly _ [] (mnemonic.SmallInt n) (begin.small_int_begins n)
constant_back (constant.SmallLong n) e = said_plainly _ [] (mnemonic.SmallLong n) (begin.small_long_begins n)
constant_back (constant.Byte z) e =
    one_said (codes "bipush") (signed_decimal z ∷ []) mnemonic.Byte (instruction.Constant (constant.Byte z))
    begin.byte_begins
    (ap (option_map (λ n. instruction.Constant (constant.Byte n))) (signed_back 127 127 z (omega arith) (omega arith)
    e))
constant_back (constant.Short z) e =
    one_said (codes "sipush") (signed_decimal z ∷ []) mnemonic.Short (instruction.Constant (constant.Short z))
    begin.short_begins
    (ap (option_map (λ n. instruction.Constant (constant.Short n))) (signed_back 32767 32767 z (omega arith)
    (omega arith) e))
constant_back (constant.Int width.Narrow z) e =
    one_said (codes "ldc") (signed_decimal z ∷ []) (mnemonic.Int width.Narrow)
    (instruction.Constant (constant.Int width.Narrow z)) begin.narrow_begins
    (ap (option_map (λ n. instruction.Constant (constant.Int width.Narrow n)))
    (signed_back 2147483647 2147483647 z (omega arith) (omega arith) e))
constant_back (constant.Int width.Wide z) e =
    one_said (codes "ldc_w") (signed_decimal z ∷ []) (mnemonic.Int width.Wide)
    (instruction.Constant (constant.Int width.Wide z)) begin.wide_begins
    (ap (option_map (λ n. instruction.Constant (constant.Int width.Wide n)))
    (signed_back 2147483647 2147483647 z (omega arith) (omega arith) e))
constant_back (constant.Long z) e =
    one_said (codes "ldc2_w") (signed_decimal z ∷ []) mnemonic.Long (instruction.Constant (constant.Long z))
    begin.long_begins
    (ap (option_map (λ n. instruction.Constant (constant.Long n))) (signed_back 9223372036854775807 9223372036854775807
    z (omega arith) (omega arith) e))

-- ---- locals

byte_index : (n : ℕ) → nat_le n 255 ≡ true → natural_to 65535 (decimal n) ≡ Some n
byte_index n e =
    let small = leb-true n 255 e in
    natural_to_back 65535 n (omega arith) (le-leb n 65535 (omega arith))

local_back : (a : LocalAccess) → operands_are_spelled (instruction.Local a) ≡ true
    → Says (Some (instruction.Local a)) (local_words a)
local_back (access.Load k («local».First n)) e = said_plainly _ []
    (mnemonic.FirstLocal (access.Load k («local».First n))) (begin.first_load_begins k n)
local_back (access.Load k («local».Byte n)) e =
    one_said _ (decimal n ∷ []) (mnemonic.Local (accessed.Load k)) (instruction.Local (access.Load k («local».Byte n)))
    (begin.load_begins k)
    (ap (λ o. option_map instruction.Local (option_map (λ m. access.Load k (local_form width.Narrow m)) o))
    (byte_index n e) ∙ rw e refl)
local_back (access.Load k («local».Wide n)) e =
    wide_said _ (decimal n ∷ []) (mnemonic.Local (accessed.Load k)) (instruction.Local (access.Load k («local».Wide n)))
    (begin.load_begins k)
    (ap (λ o. option_map instruction.Local (option_map (λ m. access.Load k (local_form width.Wide m)) o))
    (natural_to_back 65535 n (omega arith) e))
local_back (access.Store k («local».First n)) e = said_plainly _ []
    (mnemonic.FirstLocal (access.Store k («local».First n))) (begin.first_store_begins k n)
local_back (access.Store k («local».Byte n)) e =
    one_said _ (decimal n ∷ []) (mnemonic.Local (accessed.Store k))
    (instruction.Local (access.Store k («local».Byte n))) (begin.store_begins k)
    (ap (λ o. option_map instruction.Local (option_map (λ m. access.Store k (local_form width.Narrow m)) o))
    (byte_index n e) ∙ rw e refl)
local_back (access.Store k («local».Wide n)) e =
    wide_said _ (decimal n ∷ []) (mnemonic.Local (accessed.Store k))
    (instruction.Local (access.Store k («local».Wide n))) (begin.store_begins k)
    (ap (λ o. option_map instruction.Local (option_map (λ m. access.Store k (local_form width.Wide m)) o))
    (natural_to_back 65535 n (omega arith) e))
local_back (access.Increment (increment.Byte n z)) e =
    let parts = and_parts (nat_le n 255) (is_byte z) e in
    let ends = and_parts (int_le (negsuc 127) z) (int_le z (pos 127)) parts.1 in
    one_said (codes "iinc") (decimal n ∷ signed_decimal z ∷ []) (mnemonic.Local accessed.Increment)
    (instruction.Local (access.Increment (increment.Byte n z))) begin.increment_begins
    (ap₂ (λ a b. option_map instruction.Local (option_map access.Increment (increment_with width.Narrow a b)))
    (byte_index n parts.0) (signed_back 32767 32767 z (omega arith) (omega arith) (short_from z parts.1))
    ∙ rw (parts.0, ends.0, ends.1) refl)
  where
    short_from : (z : ℤ) → is_byte z ≡ true → is_short z ≡ true
    short_from (pos n) e = let small = leb-true n 127 e in le-leb n 32767 (omega arith)
    short_from (negsuc n) e = let small = leb-true n 127 (and_parts (nat_le n 127) true e).0
        in and_from (nat_le n 32767) true (le-leb n 32767 (omega arith)) refl
local_back (access.Increment (increment.Wide n z)) e =
    let parts = and_parts (is_u2 n) (is_short z) e in
    wide_said (codes "iinc") (decimal n ∷ signed_decimal z ∷ []) (mnemonic.Local accessed.Increment)
    (instruction.Local (access.Increment (increment.Wide n z))) begin.increment_begins
    (ap₂ (λ a b. option_map instruction.Local (option_map access.Increment (increment_with width.Wide a b)))
    (natural_to_back 65535 n (omega arith) parts.0) (signed_back 32767 32767 z (omega arith) (omega arith) parts.1))

-- ---- the other instructions

array_back : (o : ArrayOperation (List ℕ)) → operands_are_spelled (instruction.Array o) ≡ true
    → Says (Some (instruction.Array o)) (array_words o)
array_back (array.New p) e =
    one_said (codes "newarray") (primitive_name p ∷ []) mnemonic.NewArray (instruction.Array (array.New p))
    begin.new_array_begins
    (ap (option_map (λ q. instruction.Array (array.New q))) (primitive_back p))
array_back (array.NewOf c) e =
    one_said (codes "anewarray") (c ∷ []) mnemonic.NewArrayOf (instruction.Array (array.NewOf c))
    begin.new_array_of_begins
    (ap (option_map (λ d. instruction.Array (array.NewOf d))) (type_back c e))
array_back array.Length e = said_plainly (codes "arraylength") [] mnemonic.ArrayLength begin.array_length_begins
array_back (array.Load k) e = said_plainly _ [] (mnemonic.ArrayLoad k) (begin.array_load_begins k)
array_back (array.Store k) e = said_plainly _ [] (mnemonic.ArrayStore k) (begin.array_store_begins k)

call_back : (how : Invocation) (m : Member) → count_is_spelled how ≡ true → method_is_named m ≡ true
    → Says (Some (instruction.Invoke how m)) (call_words how m)
call_back invocation.Virtual m c e =
    one_said (codes "invokevirtual") (method_word m ∷ []) (mnemonic.Invoke invocation.Virtual) (instruction.Invoke
    invocation.Virtual m) begin.virtual_begins
    (ap (option_map (λ n. instruction.Invoke invocation.Virtual n)) (method_back m e))
call_back invocation.Special m c e =
    one_said (codes "invokespecial") (method_word m ∷ []) (mnemonic.Invoke invocation.Special) (instruction.Invoke
    invocation.Special m) begin.special_begins
    (ap (option_map (λ n. instruction.Invoke invocation.Special n)) (method_back m e))
call_back invocation.Static m c e =
    one_said (codes "invokestatic") (method_word m ∷ []) (mnemonic.Invoke invocation.Static) (instruction.Invoke
    invocation.Static m) begin.static_call_begins
    (ap (option_map (λ n. instruction.Invoke invocation.Static n)) (method_back m e))
call_back (invocation.Interface n) m c e =
    one_said (codes "invokeinterface") (method_word m ∷ decimal n ∷ []) mnemonic.InvokeInterface
    (instruction.Invoke (invocation.Interface n) m) begin.interface_begins
    (ap₂ interface_call (method_back m e) (count_back 1 255 n (omega arith) c))

branch_back : (t : Test) (pc : ℕ) → nat_le pc 65535 ≡ true
    → Says (Some (instruction.Branch t (label pc))) (test_name t ∷ label pc ∷ [])
branch_back t pc e =
    let small = leb-true pc 65535 e in
    one_said (test_name t) (label pc ∷ []) (mnemonic.Branch t) (instruction.Branch t (label pc)) (begin.test_begins t)
    (ap (option_map (λ l. instruction.Branch t l)) (label_back pc (omega (arith, small))))

-- what a statement says, and then the others
pub one_part : (w : Written) (words : List (List ℕ)) (ss : List Statement) → Says (Some w) words
    → parts_from (Some words ∷ ss) None ≡ part_before (code_line (Instruction w)) (parts_from ss None)
one_part w words ss e = ap (λ o. parts_by o (parts_from ss)) e

abbrev pub fits_label : ℕ → Bool
fits_label n = nat_le n 65535

-- an instruction's statements, and then others
abbrev pub ReadBack : Listed → List Statement → Type 0
ReadBack i ss = parts_from (map Some (instruction_statements i) ++ ss) None
    ≡ part_before (code_line (Instruction (with_targets label i))) (parts_from ss None)

pub instruction_back : ((t : Table ℕ) (ss : List Statement) → table_is_spelled t ≡ true
    → list_all fits_label (targets (instruction.TableSwitch t)) ≡ true → ReadBack (instruction.TableSwitch t) ss)
    → ((l : Lookup ℕ) (ss : List Statement) → lookup_is_spelled l ≡ true
    → list_all fits_label (targets (instruction.LookupSwitch l)) ≡ true → ReadBack (instruction.LookupSwitch l) ss)
    → (i : Listed) (ss : List Statement) → operands_are_spelled i ≡ true → list_all fits_label (targets i) ≡ true
    → ReadBack i ss
instruction_back tables lookups instruction.Nop ss e f = one_part
    instruction.Nop (codes "nop" ∷ []) ss (said_plainly (codes "nop") [] mnemonic.Nop begin.nop_begins)
instruction_back tables lookups (instruction.Constant c) ss e f = one_part (instruction.Constant c) (constant_words c)
    ss (constant_back c e)
instruction_back tables lookups (instruction.Local a) ss e f = one_part (instruction.Local a) (local_words a) ss
    (local_back a e)
instruction_back tables lookups (instruction.Stack o) ss e f = one_part (instruction.Stack o) (stack_name o ∷ []) ss
    (said_plainly (stack_name o) [] (mnemonic.Stack o) (begin.stack_begins o))
instruction_back tables lookups (instruction.Number o) ss e f = one_part (instruction.Number o) (number_name o ∷ []) ss
    (said_plainly (number_name o) [] (mnemonic.Number o) (begin.number_begins o))
instruction_back tables lookups (instruction.Branch t pc) ss e f = one_part (instruction.Branch t (label pc))
    (test_name t ∷ label pc ∷ []) ss (branch_back t pc (and_parts (fits_label pc) true f).0)
instruction_back tables lookups (instruction.TableSwitch t) ss e f = tables t ss e f
instruction_back tables lookups (instruction.LookupSwitch l) ss e f = lookups l ss e f
instruction_back tables lookups (instruction.Return k) ss e f = one_part (instruction.Return k) (return_text k ∷ []) ss
    (said_plainly (return_text k) [] (mnemonic.Return k) (begin.return_begins k))
instruction_back tables lookups (instruction.Static a m) ss e f =
    one_part (instruction.Static a m) (static_words (access_name a) m) ss
    (one_said (access_name a ++ codes "static") (field_path m ∷ m.descriptor ∷ []) (mnemonic.Static a)
    (instruction.Static a m) (begin.static_begins a) (ap (option_map (λ n. instruction.Static a n))
    (field_back m e)))
instruction_back tables lookups (instruction.Field a m) ss e f =
    one_part (instruction.Field a m) (object_words (access_name a) m) ss
    (one_said (access_name a ++ codes "field") (field_path m ∷ m.descriptor ∷ []) (mnemonic.Field a)
    (instruction.Field a m) (begin.field_begins a) (ap (option_map (λ n. instruction.Field a n)) (field_back m e)))
instruction_back tables lookups (instruction.Array o) ss e f = one_part (instruction.Array o) (array_words o) ss
    (array_back o e)
instruction_back tables lookups (instruction.Class o c) ss e f =
    one_part (instruction.Class o c) (class_name o ∷ c ∷ []) ss
    (one_said (class_name o) (c ∷ []) (mnemonic.Class o) (instruction.Class o c) (begin.class_begins o)
    (ap (option_map (λ d. instruction.Class o d)) (class_operand o c e)))
instruction_back tables lookups (instruction.Invoke how m) ss e f =
    let parts = and_parts (count_is_spelled how) (method_is_named m) e in
    one_part (instruction.Invoke how m) (call_words how m) ss (call_back how m parts.0 parts.1)
instruction_back tables lookups instruction.Throw ss e f = one_part
    instruction.Throw (codes "athrow" ∷ []) ss (said_plainly (codes "athrow") [] mnemonic.Throw begin.throw_begins)
instruction_back tables lookups (instruction.Monitor o) ss e f = one_part (instruction.Monitor o) (monitor_name o ∷ [])
    ss (said_plainly (monitor_name o) [] (mnemonic.Monitor o) (begin.monitor_begins o))
