-- The operands of a text's instruction have room where numbers stand for names.
use Rattle.std.proofs.Common.{◌≡◌, ℕ, ℤ, pos, negsuc, ◌^◌, ◌≤◌, ◌<◌, true, List, arith}
use Rattle.std.specs.Prelude.{nat_le, FitsSigned}
use Rattle.std.specs.Int.{w8, w16, w32}
use Rattle.std.specs.List.{AllByRecursion}
use Rattle.std.proofs.lemmas.Bool.{and_parts, leb-true}
use Rattle.std.proofs.lemmas.Int.{ints}
use Rattle.model.specs.Bytecode.Fields.{offset}
use Rattle.model.specs.Bytecode.Operands.{branch_width}
use Rattle.model.specs.Bytecode.Ranges.{ConstantFits, AccessFits, InvokeFits, ArrayFits}
use Rattle.model.specs.ClassFiles.Items.{Item, constant_items, array_items, call_items}
use Rattle.model.specs.ClassFiles.Items.Item.{int_item, long_item, class_item, method_item, interface_item}
use Rattle.model.specs.Texts.Assembling.{branch_reaches}
use Rattle.model.specs.Texts.Spelled.{is_byte, is_short, is_u2, narrow_constant, constant_is_spelled, access_is_spelled}
use Rattle.model.specs.Texts.Spelled.{count_is_spelled}
use Rattle.model.specs.declared.instructions.ArrayOperation.{ArrayOperation}
use Rattle.model.specs.declared.instructions.ArrayOperation.TheVariants as array
use Rattle.model.specs.declared.instructions.Constant.{Constant as Pushed}
use Rattle.model.specs.declared.instructions.Constant.TheVariants as pushed
use Rattle.model.specs.declared.instructions.Increment.TheVariants as increment
use Rattle.model.specs.declared.instructions.Invocation.{Invocation}
use Rattle.model.specs.declared.instructions.Invocation.TheVariants as invocation
use Rattle.model.specs.declared.instructions.Local.TheVariants as «local»
use Rattle.model.specs.declared.instructions.LocalAccess.{LocalAccess}
use Rattle.model.specs.declared.instructions.LocalAccess.TheVariants as access
use Rattle.model.specs.declared.instructions.Test.{Test}
use Rattle.model.specs.declared.instructions.Test.TheVariants as test
use Rattle.model.specs.declared.instructions.Width.TheVariants.{Narrow, Wide}
use Rattle.model.specs.declared.names.Member.{Member}
use Rattle.assembler.specs.Numbering.{number_of, are_items_of, IsPool, numbered_constant, numbered_array, called_item}
use Rattle.assembler.proofs.NumberingCounts.{number_fits}
use Rattle.assembler.proofs.NumberingListed.{only_there, class_there, member_there}

-- ---- numbers with a sign

byte_fits : (z : ℤ) → is_byte z ≡ true → FitsSigned w8 z
byte_fits (pos n) h = let both = and_parts true (nat_le n 127) h
    in record { sfits = omega (arith, leb-true n 127 both.1) }
byte_fits (negsuc n) h = let both = and_parts (nat_le n 127) true h
    in record { sfits = omega (arith, leb-true n 127 both.0) }

short_fits : (z : ℤ) → is_short z ≡ true → FitsSigned w16 z
short_fits (pos n) h = let both = and_parts true (nat_le n 32767) h
    in record { sfits = omega (arith, leb-true n 32767 both.1) }
short_fits (negsuc n) h = let both = and_parts (nat_le n 32767) true h
    in record { sfits = omega (arith, leb-true n 32767 both.0) }

-- every way in a method has room in four bytes
pub way_fits : (pc target : ℕ) → pc ≤ 65535 → target ≤ 65535 → FitsSigned w32 (offset pc target)
way_fits pc target a b = omega (arith, ints)

-- ---- the operands

one_byte : (n : ℕ) → nat_le n 255 ≡ true → n < 2 ^ 8
one_byte n h = omega (arith, leb-true n 255 h)

two_bytes : (n : ℕ) → is_u2 n ≡ true → n < 2 ^ 16
two_bytes n h = omega (arith, leb-true n 65535 h)

-- the numbers of an `ldc` have one byte
abbrev pub AreSmall : List Item → List ℤ → Type 0
AreSmall items zs = AllByRecursion (λ z. number_of items (int_item z) ≤ 255) zs

pub constant_fits : (items : List Item) (c : Pushed ℤ ℤ) → IsPool items → are_items_of items (constant_items c) ≡ true
    → constant_is_spelled c ≡ true → AreSmall items (narrow_constant c) → ConstantFits (numbered_constant items c)
constant_fits items pushed.Null pool all h small = tt
constant_fits items (pushed.SmallInt n) pool all h small = tt
constant_fits items (pushed.SmallLong n) pool all h small = tt
constant_fits items (pushed.Byte z) pool all h small = byte_fits z h
constant_fits items (pushed.Short z) pool all h small = short_fits z h
constant_fits items (pushed.Int Narrow z) pool all h small = omega (arith, small.0)
constant_fits items (pushed.Int Wide z) pool all h small = number_fits items (int_item z) pool
    (only_there items (int_item z) all)
constant_fits items (pushed.Long z) pool all h small = number_fits items (long_item z) pool
    (only_there items (long_item z) all)

pub access_fits : (a : LocalAccess) → access_is_spelled a ≡ true → AccessFits a
access_fits (access.Load k («local».First n)) h = tt
access_fits (access.Load k («local».Byte n)) h = one_byte n h
access_fits (access.Load k («local».Wide n)) h = two_bytes n h
access_fits (access.Store k («local».First n)) h = tt
access_fits (access.Store k («local».Byte n)) h = one_byte n h
access_fits (access.Store k («local».Wide n)) h = two_bytes n h
access_fits (access.Increment (increment.Byte n z))
    h = let p = and_parts (nat_le n 255) (is_byte z) h in (one_byte n p.0, byte_fits z p.1)
access_fits (access.Increment (increment.Wide n z))
    h = let p = and_parts (is_u2 n) (is_short z) h in (two_bytes n p.0, short_fits z p.1)

pub branch_fits : (t : Test) (pc target : ℕ) → pc ≤ 65535 → target ≤ 65535 → branch_reaches t (offset pc target) ≡ true
    → FitsSigned (branch_width t) (offset pc target)
branch_fits (test.Always Narrow) pc target a b h = short_fits (offset pc target) h
branch_fits (test.Always Wide) pc target a b h = way_fits pc target a b
branch_fits (test.Zero c) pc target a b h = short_fits (offset pc target) h
branch_fits (test.Ints c) pc target a b h = short_fits (offset pc target) h
branch_fits (test.Refs c) pc target a b h = short_fits (offset pc target) h
branch_fits (test.Null c) pc target a b h = short_fits (offset pc target) h

pub array_fits : (items : List Item) (op : ArrayOperation (List ℕ)) → IsPool items → are_items_of items (array_items op)
    ≡ true → ArrayFits (numbered_array items op)
array_fits items (array.New type) pool all = tt
array_fits items (array.NewOf name) pool all = number_fits items (class_item name) pool (class_there items name all)
array_fits items array.Length pool all = tt
array_fits items (array.Load kind) pool all = tt
array_fits items (array.Store kind) pool all = tt

pub call_fits : (items : List Item) (how : Invocation) (m : Member) → IsPool items
    → are_items_of items (call_items how m) ≡ true → count_is_spelled how ≡ true
    → InvokeFits how (number_of items (called_item how m))
call_fits items invocation.Virtual m pool all h = number_fits items (method_item m) pool
    (member_there items (method_item m) m all)
call_fits items invocation.Special m pool all h = number_fits items (method_item m) pool
    (member_there items (method_item m) m all)
call_fits items invocation.Static m pool all h = number_fits items (method_item m) pool
    (member_there items (method_item m) m all)
call_fits items (invocation.Interface count) m pool all h =
    let p = and_parts (nat_le 1 count) (nat_le count 255) h in
    (number_fits items (interface_item m) pool (member_there items (interface_item m) m all), one_byte count p.1)
