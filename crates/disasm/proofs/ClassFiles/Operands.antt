-- The operands of a class file's instructions have the ranges and forms that a text has for them, but for what none can
-- say.
use Rattle.std.proofs.Common.{◌≡◌, ℕ, ℤ, pos, negsuc, ◌<◌, ◌^◌, eqb, Bool, true, false, List, [], ◌∷◌, length, Option}
use Rattle.std.proofs.Common.{Some, None, refl, sym, ap, subst, ◌∙◌, arith}
use Rattle.std.specs.Prelude.{T, nat_le, int_le, FitsSigned}
use Rattle.std.specs.Int.{w8, w16, w32, w64}
use Rattle.std.specs.Int.Signed.{lt_z}
use Rattle.std.specs.List.{AllByRecursion, list_all}
use Rattle.std.proofs.lemmas.Bool.{and_parts, and_from, le-leb}
use Rattle.model.specs.declared.class_files.Entry.{Entry}
use Rattle.model.specs.declared.class_files.Entry.TheVariants.{Integer, Long, Fieldref, Methodref, InterfaceMethodref}
use Rattle.model.specs.declared.instructions.ArrayOperation.{ArrayOperation}
use Rattle.model.specs.declared.instructions.ArrayOperation.TheVariants as array
use Rattle.model.specs.declared.instructions.ClassOperation.{ClassOperation}
use Rattle.model.specs.declared.instructions.ClassOperation.TheVariants as class
use Rattle.model.specs.declared.instructions.Constant.{Constant}
use Rattle.model.specs.declared.instructions.Constant.TheVariants as constant
use Rattle.model.specs.declared.instructions.Increment.TheVariants as increment
use Rattle.model.specs.declared.instructions.Instruction.TheVariants as instruction
use Rattle.model.specs.declared.instructions.Invocation.{Invocation}
use Rattle.model.specs.declared.instructions.Invocation.TheVariants as invocation
use Rattle.model.specs.declared.instructions.Local.TheVariants as «local»
use Rattle.model.specs.declared.instructions.LocalAccess.{LocalAccess}
use Rattle.model.specs.declared.instructions.LocalAccess.TheVariants as access
use Rattle.model.specs.declared.instructions.Test.{Test}
use Rattle.model.specs.declared.instructions.Test.TheVariants as test
use Rattle.model.specs.declared.instructions.Width.TheVariants.{Narrow, Wide}
use Rattle.model.specs.Bytecode.Fields.{offset}
use Rattle.model.specs.Bytecode.Opcodes.{Instr}
use Rattle.model.specs.Bytecode.Operands.{branch_width, table_high}
use Rattle.model.specs.Bytecode.Ranges.{ConstantFits, AccessFits, AreRisingFrom, AreRising, InvokeFits, Fits}
use Rattle.model.specs.ClassFiles.Codes.{tag_of, has_tag, is_sound_constant, is_sound_array, is_sound_class}
use Rattle.model.specs.ClassFiles.Codes.{is_sound_invocation, is_sound}
use Rattle.model.specs.ClassFiles.Entries.{EntryFits}
use Rattle.model.specs.ClassFiles.Items.{Item, is_item_of}
use Rattle.model.specs.ClassFiles.Items.Item.{int_item, long_item, field_item, method_item, interface_item}
use Rattle.model.specs.ClassFiles.Listing.{class_at, reference_of, referred, member_at, int_of, long_of}
use Rattle.model.specs.ClassFiles.Listing.{listed_constant, listed_array, listed}
use Rattle.model.specs.ClassFiles.Pools.{entry_at}
use Rattle.model.specs.ClassFiles.References.{is_field, is_method, entry_fault, AreSound}
use Rattle.model.specs.Texts.Assembling.{rise_from, keys_rise, switch_agrees, branch_reaches, reaches}
use Rattle.model.specs.Texts.Names.{is_class_name}
use Rattle.model.specs.Texts.Spelled.{is_byte, is_short, is_int, is_long, is_u2, constant_is_spelled, access_is_spelled}
use Rattle.model.specs.Texts.Spelled.{array_is_spelled, class_is_spelled, count_is_spelled, method_is_named}
use Rattle.model.specs.Texts.Spelled.{operands_are_spelled}
use Rattle.assembler.specs.Numbering.{items_of}
use Rattle.disasm.specs.Sayable.{count_is_sayable, operand_is_sayable}
use Rattle.disasm.proofs.ClassFiles.Pools.{entry_meets, is_said, MemberUnder, member_under, class_under, plain_under}

-- ---- numbers

pub byte_is : (z : ℤ) → FitsSigned w8 z → is_byte z ≡ true
byte_is (pos n) h = and_from true (nat_le n 127) refl (le-leb n 127 (omega (arith, h.sfits)))
byte_is (negsuc n) h = and_from (nat_le n 127) true (le-leb n 127 (omega (arith, h.sfits))) refl

pub short_is : (z : ℤ) → FitsSigned w16 z → is_short z ≡ true
short_is (pos n) h = and_from true (nat_le n 32767) refl (le-leb n 32767 (omega (arith, h.sfits)))
short_is (negsuc n) h = and_from (nat_le n 32767) true (le-leb n 32767 (omega (arith, h.sfits))) refl

pub int_is : (z : ℤ) → FitsSigned w32 z → is_int z ≡ true
int_is (pos n) h = and_from true (nat_le n 2147483647) refl (le-leb n 2147483647 (omega (arith, h.sfits)))
int_is (negsuc n) h = and_from (nat_le n 2147483647) true (le-leb n 2147483647 (omega (arith, h.sfits))) refl

pub long_is : (z : ℤ) → FitsSigned w64 z → is_long z ≡ true
long_is (pos n) h = and_from true (nat_le n 9223372036854775807) refl
    (le-leb n 9223372036854775807 (omega (arith, h.sfits)))
long_is (negsuc n) h = and_from (nat_le n 9223372036854775807) true
    (le-leb n 9223372036854775807 (omega (arith, h.sfits))) refl

one_byte : (n : ℕ) → n < 2 ^ 8 → nat_le n 255 ≡ true
one_byte n h = le-leb n 255 (omega (arith, h))

pub two_bytes : (n : ℕ) → n < 2 ^ 16 → is_u2 n ≡ true
two_bytes n h = le-leb n 65535 (omega (arith, h))

-- ---- what the numbers of the pool name

pub int_tag : (o : Option Entry) → eqb (tag_of o) 3 ≡ true → (z : ℤ) × (o ≡ Some (Integer z))
int_tag (Some (Integer z)) h = (z, refl)
int_tag o h = absurd cc

long_tag : (o : Option Entry) → eqb (tag_of o) 5 ≡ true → (z : ℤ) × (o ≡ Some (Long z))
long_tag (Some (Long z)) h = (z, refl)
long_tag o h = absurd cc

field_tag : (o : Option Entry) → eqb (tag_of o) 9 ≡ true → (x : ℕ × ℕ) × (o ≡ Some (Fieldref x.0 x.1))
field_tag (Some (Fieldref class member)) h = ((class, member), refl)
field_tag o h = absurd cc

method_tag : (o : Option Entry) → eqb (tag_of o) 10 ≡ true → (x : ℕ × ℕ) × (o ≡ Some (Methodref x.0 x.1))
method_tag (Some (Methodref class member)) h = ((class, member), refl)
method_tag o h = absurd cc

interface_tag : (o : Option Entry) → eqb (tag_of o) 11 ≡ true → (x : ℕ × ℕ) × (o ≡ Some (InterfaceMethodref x.0 x.1))
interface_tag (Some (InterfaceMethodref class member)) h = ((class, member), refl)
interface_tag o h = absurd cc

abbrev pub IsSaid : List Entry → Item → Type 0
IsSaid pool x = is_item_of (items_of pool) x ≡ true

pub int_under : (pool : List Entry) (n : ℕ) → AllByRecursion EntryFits pool → has_tag pool 3 n ≡ true
    → (is_int (int_of (entry_at pool n)) ≡ true) × IsSaid pool (int_item (int_of (entry_at pool n)))
int_under pool n fits h =
    let t = int_tag (entry_at pool n) h in
    let same : int_of (entry_at pool n) ≡ t.0 = ap int_of t.1 in (
      ap is_int same ∙ int_is t.0 (entry_meets EntryFits pool n (Integer t.0) fits t.1),
      ap (λ (z : ℤ). is_item_of (items_of pool) (int_item z)) same ∙ is_said pool n (Integer t.0) t.1,
    )

pub long_under : (pool : List Entry) (n : ℕ) → AllByRecursion EntryFits pool → has_tag pool 5 n ≡ true
    → (is_long (long_of (entry_at pool n)) ≡ true) × IsSaid pool (long_item (long_of (entry_at pool n)))
long_under pool n fits h =
    let t = long_tag (entry_at pool n) h in
    let same : long_of (entry_at pool n) ≡ t.0 = ap long_of t.1 in (
      ap is_long same ∙ long_is t.0 (entry_meets EntryFits pool n (Long t.0) fits t.1),
      ap (λ (z : ℤ). is_item_of (items_of pool) (long_item z)) same ∙ is_said pool n (Long t.0) t.1,
    )

pub field_under : (pool : List Entry) (n : ℕ) → AreSound pool → has_tag pool 9 n ≡ true
    → MemberUnder is_field pool (member_at pool n) × IsSaid pool (field_item (member_at pool n))
field_under pool n sound h =
    let t = field_tag (entry_at pool n) h in
    let is : member_at pool n ≡ referred pool t.0 = ap (λ (o : Option Entry). referred pool (reference_of o)) t.1 in (
      subst (MemberUnder is_field pool) (sym is) (member_under is_field pool t.0.0 t.0.1 sound
          (entry_meets (λ e. entry_fault pool e ≡ None) pool n (Fieldref t.0.0 t.0.1) sound t.1)),
      ap (λ m. is_item_of (items_of pool) (field_item m)) is ∙ is_said pool n (Fieldref t.0.0 t.0.1) t.1,
    )

pub method_under : (pool : List Entry) (n : ℕ) → AreSound pool → has_tag pool 10 n ≡ true
    → MemberUnder is_method pool (member_at pool n) × IsSaid pool (method_item (member_at pool n))
method_under pool n sound h =
    let t = method_tag (entry_at pool n) h in
    let is : member_at pool n ≡ referred pool t.0 = ap (λ (o : Option Entry). referred pool (reference_of o)) t.1 in (
      subst (MemberUnder is_method pool) (sym is) (member_under is_method pool t.0.0 t.0.1 sound
          (entry_meets (λ e. entry_fault pool e ≡ None) pool n (Methodref t.0.0 t.0.1) sound t.1)),
      ap (λ m. is_item_of (items_of pool) (method_item m)) is ∙ is_said pool n (Methodref t.0.0 t.0.1) t.1,
    )

pub interface_under : (pool : List Entry) (n : ℕ) → AreSound pool → has_tag pool 11 n ≡ true
    → MemberUnder is_method pool (member_at pool n) × IsSaid pool (interface_item (member_at pool n))
interface_under pool n sound h =
    let t = interface_tag (entry_at pool n) h in
    let is : member_at pool n ≡ referred pool t.0 = ap (λ (o : Option Entry). referred pool (reference_of o)) t.1 in (
      subst (MemberUnder is_method pool) (sym is) (member_under is_method pool t.0.0 t.0.1 sound
          (entry_meets (λ e. entry_fault pool e ≡ None) pool n (InterfaceMethodref t.0.0 t.0.1) sound t.1)),
      ap (λ m. is_item_of (items_of pool) (interface_item m)) is ∙ is_said pool n (InterfaceMethodref t.0.0 t.0.1) t.1,
    )

-- ---- operands

constant_spelled : (pool : List Entry) (c : Constant ℕ ℕ) → AllByRecursion EntryFits pool → ConstantFits c
    → is_sound_constant pool c ≡ true → constant_is_spelled (listed_constant pool c) ≡ true
constant_spelled pool constant.Null entries fits kind = refl
constant_spelled pool (constant.SmallInt n) entries fits kind = refl
constant_spelled pool (constant.SmallLong n) entries fits kind = refl
constant_spelled pool (constant.Byte z) entries fits kind = byte_is z fits
constant_spelled pool (constant.Short z) entries fits kind = short_is z fits
constant_spelled pool (constant.Int width n) entries fits kind = (int_under pool n entries kind).0
constant_spelled pool (constant.Long n) entries fits kind = (long_under pool n entries kind).0

access_spelled : (a : LocalAccess) → AccessFits a → access_is_spelled a ≡ true
access_spelled (access.Load k («local».First n)) fits = refl
access_spelled (access.Load k («local».Byte n)) fits = one_byte n fits
access_spelled (access.Load k («local».Wide n)) fits = two_bytes n fits
access_spelled (access.Store k («local».First n)) fits = refl
access_spelled (access.Store k («local».Byte n)) fits = one_byte n fits
access_spelled (access.Store k («local».Wide n)) fits = two_bytes n fits
access_spelled (access.Increment (increment.Byte n z)) fits = and_from (nat_le n 255) (is_byte z) (one_byte n fits.0)
    (byte_is z fits.1)
access_spelled (access.Increment (increment.Wide n z)) fits = and_from (is_u2 n) (is_short z) (two_bytes n fits.0)
    (short_is z fits.1)

keys_spelled : (pc : ℕ) (pairs : List (ℤ × ℕ))
    → AllByRecursion (λ p. FitsSigned w32 p.0 × FitsSigned w32 (offset pc p.1)) pairs → list_all (λ p. is_int p.0) pairs
    ≡ true
keys_spelled pc [] all = refl
keys_spelled pc (p ∷ pairs) all = and_from (is_int p.0) (list_all (λ q. is_int q.0) pairs) (int_is p.0 all.0.0)
    (keys_spelled pc pairs all.1)

array_spelled : (pool : List Entry) (op : ArrayOperation ℕ) → AreSound pool → is_sound_array pool op ≡ true
    → array_is_spelled (listed_array pool op) ≡ true
array_spelled pool (array.New type) sound kind = refl
array_spelled pool (array.NewOf n) sound kind = (class_under pool n sound kind).good
array_spelled pool array.Length sound kind = refl
array_spelled pool (array.Load k) sound kind = refl
array_spelled pool (array.Store k) sound kind = refl

class_spelled : (pool : List Entry) (op : ClassOperation) (n : ℕ) → AreSound pool → is_sound_class pool op n ≡ true
    → class_is_spelled op (class_at pool n) ≡ true
class_spelled pool class.New n sound kind = (plain_under pool n sound kind).0
class_spelled pool class.CheckCast n sound kind = (class_under pool n sound kind).good
class_spelled pool class.InstanceOf n sound kind = (class_under pool n sound kind).good

method_is : (pool : List Entry) (how : Invocation) (n : ℕ) → AreSound pool → is_sound_invocation pool how n ≡ true
    → is_method (member_at pool n).name (member_at pool n).descriptor ≡ true
method_is pool invocation.Virtual n sound kind = (method_under pool n sound kind).0.good
method_is pool invocation.Special n sound kind = (method_under pool n sound kind).0.good
method_is pool invocation.Static n sound kind = (method_under pool n sound kind).0.good
method_is pool (invocation.Interface count) n sound kind = (interface_under pool n sound kind).0.good

count_spelled : (how : Invocation) (n : ℕ) → InvokeFits how n → count_is_sayable how ≡ true → count_is_spelled how
    ≡ true
count_spelled invocation.Virtual n fits say = refl
count_spelled invocation.Special n fits say = refl
count_spelled invocation.Static n fits say = refl
count_spelled (invocation.Interface count) n fits say = and_from (nat_le 1 count) (nat_le count 255) say
    (one_byte count fits.1)

pub operands_spelled : (pool : List Entry) (pc : ℕ) (i : Instr) → AllByRecursion EntryFits pool → AreSound pool
    → Fits pc i → is_sound pool i ≡ true → operand_is_sayable (listed pool i) ≡ true
    → operands_are_spelled (listed pool i) ≡ true
operands_spelled pool pc instruction.Nop entries sound fits kind say = refl
operands_spelled pool pc (instruction.Constant c) entries sound fits kind say = constant_spelled pool c entries fits
    kind
operands_spelled pool pc (instruction.Local a) entries sound fits kind say = access_spelled a fits
operands_spelled pool pc (instruction.Stack op) entries sound fits kind say = refl
operands_spelled pool pc (instruction.Number op) entries sound fits kind say = refl
operands_spelled pool pc (instruction.Branch t target) entries sound fits kind say = refl
operands_spelled pool pc (instruction.TableSwitch s) entries sound fits kind say = and_from (is_int s.low)
    (nat_le 1 (length s.targets)) (int_is s.low fits.low) (le-leb 1 (length s.targets) fits.some)
operands_spelled pool pc (instruction.LookupSwitch s) entries sound fits kind say = keys_spelled pc s.pairs fits.pairs
operands_spelled pool pc (instruction.Return k) entries sound fits kind say = refl
operands_spelled pool pc (instruction.Static a n) entries sound fits kind say = and_from
    (is_class_name (member_at pool n).class) (is_field (member_at pool n).name (member_at pool n).descriptor) say
    (field_under pool n sound kind).0.good
operands_spelled pool pc (instruction.Field a n) entries sound fits kind say = and_from
    (is_class_name (member_at pool n).class) (is_field (member_at pool n).name (member_at pool n).descriptor) say
    (field_under pool n sound kind).0.good
operands_spelled pool pc (instruction.Array op) entries sound fits kind say = array_spelled pool op sound kind
operands_spelled pool pc (instruction.Class op n) entries sound fits kind say = class_spelled pool op n sound kind
operands_spelled pool pc (instruction.Invoke how n) entries sound fits kind say =
    let m = member_at pool n in
    let both = and_parts (is_class_name m.class) (count_is_sayable how) say in
    and_from (count_is_spelled how) (method_is_named m) (count_spelled how n fits both.1)
    (and_from (is_class_name m.class) (is_method m.name m.descriptor) both.0 (method_is pool how n sound kind))
operands_spelled pool pc instruction.Throw entries sound fits kind say = refl
operands_spelled pool pc (instruction.Monitor op) entries sound fits kind say = refl

-- ---- switches and branches

reported : (b : Bool) → T b → b ≡ true
reported true h = refl
reported false h = absurd h

rising_from : (key : ℤ) (pairs : List (ℤ × ℕ)) → AreRisingFrom key pairs → rise_from key pairs ≡ true
rising_from key [] rising = refl
rising_from key (p ∷ pairs) rising = and_from (lt_z key p.0) (rise_from p.0 pairs) (reported (lt_z key p.0) rising.0.lt)
    (rising_from p.0 pairs rising.1)

rising : (pairs : List (ℤ × ℕ)) → AreRising pairs → keys_rise pairs ≡ true
rising [] h = refl
rising (p ∷ pairs) h = rising_from p.0 pairs h

pub agrees : (pool : List Entry) (pc : ℕ) (i : Instr) → Fits pc i → switch_agrees (listed pool i) ≡ true
agrees pool pc instruction.Nop fits = refl
agrees pool pc (instruction.Constant c) fits = refl
agrees pool pc (instruction.Local a) fits = refl
agrees pool pc (instruction.Stack op) fits = refl
agrees pool pc (instruction.Number op) fits = refl
agrees pool pc (instruction.Branch t target) fits = refl
agrees pool pc (instruction.TableSwitch s) fits = (and_parts (int_le (negsuc 2147483647) (table_high s))
    (int_le (table_high s) (pos 2147483647)) (int_is (table_high s) fits.high)).1
agrees pool pc (instruction.LookupSwitch s) fits = rising s.pairs fits.rising
agrees pool pc (instruction.Return k) fits = refl
agrees pool pc (instruction.Static a n) fits = refl
agrees pool pc (instruction.Field a n) fits = refl
agrees pool pc (instruction.Array op) fits = refl
agrees pool pc (instruction.Class op n) fits = refl
agrees pool pc (instruction.Invoke how n) fits = refl
agrees pool pc instruction.Throw fits = refl
agrees pool pc (instruction.Monitor op) fits = refl

branches : (t : Test) (way : ℤ) → FitsSigned (branch_width t) way → branch_reaches t way ≡ true
branches (test.Always Narrow) way fits = short_is way fits
branches (test.Always Wide) way fits = refl
branches (test.Zero c) way fits = short_is way fits
branches (test.Ints c) way fits = short_is way fits
branches (test.Refs c) way fits = short_is way fits
branches (test.Null c) way fits = short_is way fits

pub near : (pool : List Entry) (pc : ℕ) (i : Instr) → Fits pc i → reaches pc (listed pool i) ≡ true
near pool pc instruction.Nop fits = refl
near pool pc (instruction.Constant c) fits = refl
near pool pc (instruction.Local a) fits = refl
near pool pc (instruction.Stack op) fits = refl
near pool pc (instruction.Number op) fits = refl
near pool pc (instruction.Branch t target) fits = branches t (offset pc target) fits
near pool pc (instruction.TableSwitch s) fits = refl
near pool pc (instruction.LookupSwitch s) fits = refl
near pool pc (instruction.Return k) fits = refl
near pool pc (instruction.Static a n) fits = refl
near pool pc (instruction.Field a n) fits = refl
near pool pc (instruction.Array op) fits = refl
near pool pc (instruction.Class op n) fits = refl
near pool pc (instruction.Invoke how n) fits = refl
near pool pc instruction.Throw fits = refl
near pool pc (instruction.Monitor op) fits = refl
