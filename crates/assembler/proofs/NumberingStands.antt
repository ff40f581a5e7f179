-- The class file with numbers of a text's listing is one that some bytes spell.
use Rattle.std.proofs.Common.{◌≡◌, ℕ, ◌+◌, ◌^◌, ◌≤◌, ◌<◌, ◌==◌, Bool, true, false, not, ◌&&◌, List, [], ◌∷◌, ◌++◌, map}
use Rattle.std.proofs.Common.{length, Option, Some, None, refl, ap, ◌∙◌, inl, inr, arith}
use Rattle.std.specs.Prelude.{nat_le, codes}
use Rattle.std.specs.List.{flat_map, list_all, AllByRecursion}
use Rattle.std.specs.Option.{option_map}
use Rattle.std.proofs.lemmas.Bool.{and_parts, and_from, or_cases, leb-true, eqb-true, false≢true}
use Rattle.std.proofs.lemmas.List.{length-map}
use Rattle.model.specs.Bytecode.{IsCode}
use Rattle.model.specs.ClassListings.{ClassListing}
use Rattle.model.specs.CodeListings.{CodeListing}
use Rattle.model.specs.ClassFiles.Attributes.{passes}
use Rattle.model.specs.ClassFiles.Codes.{RowFits, is_sound}
use Rattle.model.specs.ClassFiles.Fields.{are_field_flags, is_constant_value, is_value_of}
use Rattle.model.specs.ClassFiles.Heads.{are_class_flags}
use Rattle.model.specs.ClassFiles.Items.{Item, class_items, placed_items, row_items, code_items, method_items}
use Rattle.model.specs.ClassFiles.Items.{value_item, value_items, field_items, listing_items}
use Rattle.model.specs.ClassFiles.Items.Item.{text_item, class_item}
use Rattle.model.specs.ClassFiles.Methods.{are_method_flags, wants_code, units_fit}
use Rattle.model.specs.ClassFiles.Pools.{entry_at}
use Rattle.model.specs.ClassFiles.References.{text_at}
use Rattle.model.specs.Sizes.{size_at}
use Rattle.model.specs.Texts.Assembling.{end_from, size_is_right, switch_agrees, reaches, method_assembles}
use Rattle.model.specs.Texts.Assembling.{is_countable, listing_assembles, body_assembles}
use Rattle.model.specs.Texts.Disassembling.{targets as goals}
use Rattle.model.specs.Texts.Descriptors.{is_field_descriptor, arguments_of}
use Rattle.model.specs.Texts.Flags.{has}
use Rattle.model.specs.Texts.Names.{is_class_name, is_field_name, is_method_name}
use Rattle.model.specs.Texts.Spelled.{narrow_number, is_u2, operands_are_spelled, stand_from, is_pc, is_bound}
use Rattle.model.specs.Texts.Spelled.{instruction_is_spelled, catch_is_spelled, row_is_spelled, code_is_spelled}
use Rattle.model.specs.Texts.Spelled.{body_is_spelled, method_is_spelled, value_is_spelled, field_is_spelled}
use Rattle.model.specs.Texts.Spelled.{head_is_spelled, is_spelled}
use Rattle.model.specs.declared.flags.ClassFlags.{ClassFlags}
use Rattle.model.specs.declared.listings.Constant.{Constant}
use Rattle.model.specs.declared.listings.Constant.TheVariants as constant
use Rattle.model.specs.declared.listings.ExceptionRow.{ExceptionRow}
use Rattle.model.specs.declared.listings.Field.{Field}
use Rattle.model.specs.declared.listings.Method.{Method}
use Rattle.model.specs.declared.listings.Placed.{Placed}
use Rattle.classfile.specs.Classes.{IsClass}
use Rattle.classfile.specs.Reading.Codes.{are_sound}
use Rattle.classfile.specs.Reading.Methods.{is_code_name, method_type_test}
use Rattle.classfile.specs.Sound.{ConstantBounds, is_constant, is_type, FieldStands, CodesStand, MethodStands}
use Rattle.classfile.specs.Sound.{ClassStands}
use Rattle.classfile.specs.Writing.{code_bytes}
use Rattle.classfile.proofs.SoundLaws.{field_stands, code_stands, method_stands, head_stands, class_stands}
use Rattle.assembler.specs.Numbering.{number_of, entries_of, are_items_of, AreClosed, IsPool, is_well_formed}
use Rattle.assembler.specs.Numbering.{numbered_placed, numbered_row, numbered_value, numbered_field}
use Rattle.assembler.proofs.NumberingFits.{AreSmall}
use Rattle.assembler.proofs.NumberingCode.{IsReady, code_is_code}
use Rattle.assembler.proofs.NumberingListed.{only_there, class_there, all_parts}
use Rattle.assembler.proofs.NumberingCounts.{number_fits}
use Rattle.assembler.proofs.NumberingSound.{text_under, pool_is_sound, pool_fits, class_is, numbered_is_sound, row_fits}
use Rattle.assembler.proofs.NumberingSound.{values_fit}
use Rattle.assembler.proofs.NumberingClasses.{listing_parts}
use Rattle.assembler.specs.Assembled.{assembled_code, assembled_method, class_with}

short : (n : ℕ) → is_u2 n ≡ true → n < 2 ^ 16
short n h = omega (arith, leb-true n 65535 h)

text_short : (items : List Item) (text : List ℕ) → IsPool items → are_items_of items (text_item text ∷ []) ≡ true
    → number_of items (text_item text) < 2 ^ 16
text_short items text pool all = number_fits items (text_item text) pool (only_there items (text_item text) all)

-- a test of the text under a number
text_passes : (test : List ℕ → Bool) (items : List Item) (text : List ℕ) → are_items_of items (text_item text ∷ [])
    ≡ true → test text ≡ true → passes test (text_at (entries_of items) (number_of items (text_item text))) ≡ true
text_passes test items text all h = ap (passes test) (text_under items text (only_there items (text_item text) all)) ∙ h

-- ---- fields

value_static : (static : Bool) (descriptor : List ℕ) (c : Constant) → value_is_spelled static descriptor (Some c) ≡ true
    → static ≡ true
value_static static descriptor (constant.Int z) h = (and_parts static _ (and_parts _ _ h).0).0
value_static static descriptor (constant.Long z) h = (and_parts static _ (and_parts _ _ h).0).0

constant_name : (items : List Item) (c : Constant) → are_items_of items (value_items (Some c)) ≡ true
    → are_items_of items (text_item (codes "ConstantValue") ∷ []) ≡ true
constant_name items c all = (all_parts items (text_item (codes "ConstantValue") ∷ []) (value_item c ∷ []) all).0

value_stands : (items : List Item) (static : Bool) (descriptor : List ℕ) (value : Option Constant) → IsPool items
    → are_items_of items (value_items value) ≡ true → value_is_spelled static descriptor value ≡ true
    → ConstantBounds (option_map (numbered_value items) value)
    × (is_constant (entries_of items) static descriptor (option_map (numbered_value items) value) ≡ true)
value_stands items static descriptor None pool all h = (tt, refl)
value_stands items static descriptor (Some c) pool all h =
    let fits = values_fit items static descriptor (Some c) pool all h in
    let named = constant_name items c all in (
      (text_short items (codes "ConstantValue") pool named, fits.value),
      and_from (passes (is_constant_value static)
          (text_at (entries_of items) (number_of items (text_item (codes "ConstantValue")))))
          (is_value_of descriptor (entry_at (entries_of items) (number_of items (value_item c))))
          (text_passes (is_constant_value static) items (codes "ConstantValue") named
          (and_from static true (value_static static descriptor c h) refl)) fits.kind,
    )

-- a class's flags in the file tell of an interface as those of the listing
abbrev pub AreLike : ℕ → ℕ → Type 0
AreLike file class = has file 0x0200 ≡ has class 0x0200

field_number_stands : (items : List Item) (file class : ℕ) (f : Field) → IsPool items → AreLike file class
    → are_items_of items (field_items f) ≡ true → field_is_spelled class f ≡ true
    → FieldStands (entries_of items) file (numbered_field items f)
field_number_stands items file class f pool like all h =
    let static = has f.flags.0 0x0008 in
    let first = all_parts items (text_item f.name ∷ []) (text_item f.descriptor ∷ value_items f.constant) all in
    let second = all_parts items (text_item f.descriptor ∷ []) (value_items f.constant) first.1 in
    let p = and_parts _ (value_is_spelled static f.descriptor f.constant) h in
    let q = and_parts _ (is_field_descriptor f.descriptor) p.0 in
    let r = and_parts _ (is_field_name f.name) q.0 in
    let s = and_parts (is_u2 f.flags.0) (are_field_flags class f.flags.0) r.0 in
    let value = value_stands items static f.descriptor f.constant pool second.1 p.1 in
    let agree : are_field_flags file f.flags.0 ≡ true = rw like s.1 in
    let named = text_passes is_field_name items f.name first.0 r.1 in
    let typed = text_passes (is_type (entries_of items) static (option_map (numbered_value items) f.constant)) items
    f.descriptor second.0 (and_from (is_field_descriptor f.descriptor)
    (is_constant (entries_of items) static f.descriptor (option_map (numbered_value items) f.constant)) q.1
    value.1) in
    field_stands (entries_of items) file (numbered_field items f) (
      short f.flags.0 s.0,
      text_short items f.name pool first.0,
      text_short items f.descriptor pool second.0,
    ) value.0
    (and_from (are_field_flags file f.flags.0
    && passes is_field_name (text_at (entries_of items) (number_of items (text_item f.name)))) _
    (and_from (are_field_flags file f.flags.0) _ agree named) typed)

-- ---- code

ends_after : (pc : ℕ) (ps : List Placed) → stand_from pc ps ≡ true → pc ≤ end_from pc ps
ends_after pc [] h = omega arith
ends_after pc (p ∷ ps) h =
    let a = and_parts _ (stand_from p.next ps) h in
    let b = and_parts (p.pc == pc) (p.next == pc + size_at pc p.instruction) a.0 in
    let next = eqb-true p.next (pc + size_at pc p.instruction) b.1 in
    omega (arith, next, ends_after p.next ps a.1)

pc_before_end : (pc : ℕ) (ps : List Placed) (n : ℕ) → stand_from pc ps ≡ true → is_pc ps n ≡ true → n ≤ end_from pc ps
pc_before_end pc [] n h is = absurd (false≢true is)
pc_before_end pc (p ∷ ps) n h is =
    let a = and_parts _ (stand_from p.next ps) h in
    let b = and_parts (p.pc == pc) (p.next == pc + size_at pc p.instruction) a.0 in
    let next = eqb-true p.next (pc + size_at pc p.instruction) b.1 in
    let here = eqb-true p.pc pc b.0 in
    elim (or_cases (p.pc == n) (is_pc ps n) is) [
      | inl e ↦ let same = eqb-true p.pc n e in omega (arith, same, here, next, ends_after p.next ps a.1)
      | inr r ↦ pc_before_end p.next ps n a.1 r
    ]

bound_before_end : (ps : List Placed) (n : ℕ) → stand_from 0 ps ≡ true → is_bound ps n ≡ true → n ≤ end_from 0 ps
bound_before_end ps n h is = elim (or_cases (is_pc ps n) (end_from 0 ps == n) is) [
  | inl pc ↦ pc_before_end 0 ps n h pc
  | inr e ↦ let same = eqb-true (end_from 0 ps) n e in omega (arith, same)
]

rows_fit : (items : List Item) (ps : List Placed) (rows : List ExceptionRow) → IsPool items → stand_from 0 ps ≡ true
    → end_from 0 ps ≤ 65535 → are_items_of items (flat_map row_items rows) ≡ true → list_all (row_is_spelled ps) rows
    ≡ true
    → AllByRecursion (RowFits (entries_of items)) (map (numbered_row items) rows)
rows_fit items ps [] pool stand end all h = tt
rows_fit items ps (r ∷ rows) pool stand end all h =
    let parts = all_parts items (row_items r) (flat_map row_items rows) all in
    let p = and_parts (row_is_spelled ps r) (list_all (row_is_spelled ps) rows) h in
    let a = and_parts _ (catch_is_spelled r.class) p.0 in
    let b = and_parts _ (is_pc ps r.handler) a.0 in
    let c = and_parts (is_bound ps r.start) (is_bound ps r.end) b.0 in (
      row_fits items r pool (omega (arith, bound_before_end ps r.start stand c.0, end))
          (omega (arith, bound_before_end ps r.end stand c.1, end))
          (omega (arith, pc_before_end 0 ps r.handler stand b.1, end)) parts.0,
      rows_fit items ps rows pool stand end parts.1 p.1,
    )

all_sound : (items : List Item) (of ps : List Placed) → AreClosed items → are_items_of items (flat_map placed_items ps)
    ≡ true → list_all (instruction_is_spelled of) ps ≡ true
    → are_sound (entries_of items) (map (numbered_placed items) ps) ≡ true
all_sound items of [] closed all h = refl
all_sound items of (p ∷ ps) closed all h =
    let parts = all_parts items (placed_items p) (flat_map placed_items ps) all in
    let q = and_parts (instruction_is_spelled of p) (list_all (instruction_is_spelled of) ps) h in
    let one = (and_parts (operands_are_spelled p.instruction) _ q.0).0 in
    and_from (is_sound (entries_of items) (numbered_placed items p).instruction)
    (are_sound (entries_of items) (map (numbered_placed items) ps)) (numbered_is_sound items p.instruction closed
    parts.0 one) (all_sound items of ps closed parts.1 q.1)

-- the instructions have bytes with numbers for names
abbrev pub HasBytes : List Item → Option CodeListing → Type 0
HasBytes items None = Unit {0}
HasBytes items (Some c) = IsCode (code_bytes (map (numbered_placed items) c.instructions))
    (map (numbered_placed items) c.instructions)

body_stands : (items : List Item) (wanted : Bool) (code : Option CodeListing) → IsPool items
    → are_items_of items (code_items code) ≡ true → body_is_spelled wanted code ≡ true → body_assembles code ≡ true
    → HasBytes items code
    → CodesStand (entries_of items) wanted (option_map (assembled_code items) code)
body_stands items true None pool all h fits bytes = absurd (false≢true h)
body_stands items false None pool all h fits bytes = refl
body_stands items wanted (Some c) pool all h fits bytes =
    let top = and_parts wanted (code_is_spelled c) h in
    let first = all_parts items (text_item (codes "Code") ∷ []) (flat_map placed_items c.instructions
    ++ flat_map row_items c.rows) all in
    let parts = all_parts items (flat_map placed_items c.instructions) (flat_map row_items c.rows) first.1 in
    let p = and_parts _ (list_all (row_is_spelled c.instructions) c.rows) top.1 in
    let q = and_parts _ (list_all (instruction_is_spelled c.instructions) c.instructions) p.0 in
    let r = and_parts _ (stand_from 0 c.instructions) q.0 in
    let s = and_parts (is_u2 c.max_stack) (is_u2 c.max_locals) r.0 in
    let t = and_parts _ (is_countable (length c.rows)) fits in
    let u = and_parts _ _ t.0 in
    let size = and_parts _ (size_is_right (end_from 0 c.instructions)) u.0 in
    let sized = and_parts (nat_le 1 (end_from 0 c.instructions)) (nat_le (end_from 0 c.instructions) 65535) size.1 in
    let end : end_from 0 c.instructions ≤ 65535 = leb-true (end_from 0 c.instructions) 65535 sized.1 in
    let few : length c.rows ≤ 65535 = leb-true (length c.rows) 65535 t.1 in (
      top.0,
      code_stands (entries_of items) (assembled_code items c) (text_short items (codes "Code") pool first.0)
          (short c.max_stack s.0) (short c.max_locals s.1) bytes
          (text_passes is_code_name items (codes "Code") first.0 refl) (all_sound items c.instructions c.instructions
          pool.closed parts.0 q.1)
          (omega (arith, few, length-map c.rows (numbered_row items))) (rows_fit items c.instructions c.rows pool r.1
          end parts.1 p.1),
    )

-- ---- methods

method_number_stands : (items : List Item) (file class : ℕ) (m : Method) → IsPool items → AreLike file class
    → are_items_of items (method_items m) ≡ true → method_is_spelled class m ≡ true → method_assembles m ≡ true
    → HasBytes items m.code
    → MethodStands (entries_of items) file (assembled_method items m)
method_number_stands items file class m pool like all h fits bytes =
    let static = has m.flags.0 0x0008 in
    let first = all_parts items (text_item m.name ∷ []) (text_item m.descriptor ∷ code_items m.code) all in
    let second = all_parts items (text_item m.descriptor ∷ []) (code_items m.code) first.1 in
    let p = and_parts _ (body_is_spelled (wants_code m.flags.0) m.code) h in
    let q = and_parts _ (units_fit static (arguments_of m.descriptor)) p.0 in
    let r = and_parts _ (is_method_name m.name) q.0 in
    let s = and_parts (is_u2 m.flags.0) (are_method_flags class m.flags.0) r.0 in
    let agree : are_method_flags file m.flags.0 ≡ true = rw like s.1 in
    method_stands (entries_of items) file (assembled_method items m) (short m.flags.0 s.0)
    (text_short items m.name pool first.0) (text_short items m.descriptor pool second.0) agree
    (text_passes is_method_name items m.name first.0 r.1) (text_passes (method_type_test static) items m.descriptor
    second.0 q.1)
    (body_stands items (wants_code m.flags.0) m.code pool second.1 p.1 fits bytes)

-- ---- the class file

all_stand : {A B : Type 0} (P : B → Type 0) (there : A → B) (test : A → Bool) (named : A
    → List Item) (items : List Item) (xs : List A)
    → ((x : A) → are_items_of items (named x) ≡ true → test x ≡ true → P (there x))
    → are_items_of items (flat_map named xs) ≡ true → list_all test xs ≡ true → AllByRecursion P (map there xs)
all_stand P there test named items [] each all h = tt
all_stand P there test named items (x ∷ xs) each all h =
    let parts = all_parts items (named x) (flat_map named xs) all in
    let p = and_parts (test x) (list_all test xs) h in
    (each x parts.0 p.0, all_stand P there test named items xs each parts.1 p.1)

methods_stand : (items : List Item) (file class : ℕ) (ms : List Method) → IsPool items → AreLike file class
    → are_items_of items (flat_map method_items ms) ≡ true → list_all (method_is_spelled class) ms ≡ true
    → list_all method_assembles ms ≡ true
    → AllByRecursion (λ m. HasBytes items m.code) ms
    → AllByRecursion (MethodStands (entries_of items) file) (map (assembled_method items) ms)
methods_stand items file class [] pool like all h fits bytes = tt
methods_stand items file class (m ∷ ms) pool like all h fits bytes =
    let parts = all_parts items (method_items m) (flat_map method_items ms) all in
    let p = and_parts (method_is_spelled class m) (list_all (method_is_spelled class) ms) h in
    let q = and_parts (method_assembles m) (list_all method_assembles ms) fits in (
      method_number_stands items file class m pool like parts.0 p.0 q.0 bytes.0,
      methods_stand items file class ms pool like parts.1 p.1 q.1 bytes.1,
    )

class_number_stands : (items : List Item) (name : List ℕ) → IsPool items → are_items_of items (class_items name) ≡ true
    → is_class_name name ≡ true → ClassStands (entries_of items) (number_of items (class_item name))
class_number_stands items name pool all h =
    let there = class_there items name all in (
      number_fits items (class_item name) pool there,
      class_is items name pool.closed there h,
    )

-- a listing of a text, whose sizes a class file has room for and whose code has bytes, has a class file
pub class_file_stands : (items : List Item) (flags : ClassFlags) (l : ClassListing) → IsPool items
    → list_all is_well_formed items ≡ true → are_items_of items (listing_items l) ≡ true → is_spelled l ≡ true
    → listing_assembles l ≡ true
    → flags.0 < 2 ^ 16 → are_class_flags flags.0 ≡ true → AreLike flags.0 l.flags.0
    → AllByRecursion (λ m. HasBytes items m.code) l.methods → IsClass (class_with items flags l)
unfolding is_spelled listing_assembles
class_file_stands items flags l pool good all spelled fits small agree like bytes =
    let parts = listing_parts items l all in
    let ldc = and_parts _ _ spelled in
    let methods = and_parts _ (list_all (method_is_spelled l.flags.0) l.methods) ldc.0 in
    let fields = and_parts _ (list_all (field_is_spelled l.flags.0) l.fields) methods.0 in
    let interfaces = and_parts _ (list_all is_class_name l.interfaces) fields.0 in
    let superclass = and_parts _ (is_class_name l.superclass) interfaces.0 in
    let name = and_parts _ (is_class_name l.name) superclass.0 in
    let whole = and_parts _ _ fits in
    let few_methods = and_parts _ (is_countable (length l.methods)) whole.0 in
    let few_fields = and_parts _ (is_countable (length l.fields)) few_methods.0 in
    let few_interfaces = and_parts (list_all method_assembles l.methods) (is_countable (length l.interfaces))
    few_fields.0 in
    let m : length l.methods ≤ 65535 = leb-true (length l.methods) 65535 few_methods.1 in
    let f : length l.fields ≤ 65535 = leb-true (length l.fields) 65535 few_fields.1 in
    let i : length l.interfaces ≤ 65535 = leb-true (length l.interfaces) 65535 few_interfaces.1 in
    let c = class_with items flags l in
    let head =
    head_stands c.head (pool_fits items pool good) (pool_is_sound items pool.closed good) small agree
    (class_number_stands items l.name pool parts.name name.1) (class_number_stands items l.superclass pool
    parts.superclass superclass.1)
    (omega (arith, i, length-map l.interfaces (λ n. number_of items (class_item n))))
    (all_stand (ClassStands (entries_of items)) (λ n. number_of items (class_item n)) is_class_name class_items items
    l.interfaces (λ n h g. class_number_stands items n pool h g) parts.interfaces interfaces.1)
    (omega (arith, f, length-map l.fields (numbered_field items)))
    (all_stand (FieldStands (entries_of items) flags.0) (numbered_field items) (field_is_spelled l.flags.0) field_items
    items l.fields (λ x h g. field_number_stands items flags.0 l.flags.0 x pool like h g) parts.fields fields.1) in
    class_stands c head (omega (arith, m, length-map l.methods (assembled_method items)))
    (methods_stand items flags.0 l.flags.0 l.methods pool like parts.methods methods.1 few_interfaces.0 bytes)

-- what the flags of a text's listing are
pub spelled_flags : (l : ClassListing) → is_spelled l ≡ true → (l.flags.0 < 2 ^ 16) × (are_class_flags l.flags.0 ≡ true)
    × (has l.flags.0 0x0020 ≡ false)
unfolding is_spelled
spelled_flags l spelled =
    let ldc = and_parts _ _ spelled in
    let methods = and_parts _ (list_all (method_is_spelled l.flags.0) l.methods) ldc.0 in
    let fields = and_parts _ (list_all (field_is_spelled l.flags.0) l.fields) methods.0 in
    let interfaces = and_parts _ (list_all is_class_name l.interfaces) fields.0 in
    let superclass = and_parts _ (is_class_name l.superclass) interfaces.0 in
    let head = and_parts (head_is_spelled l.flags.0 l.superclass) (is_class_name l.name) superclass.0 in
    let a = and_parts _ _ head.0 in
    let b = and_parts _ (not (has l.flags.0 0x0020)) a.0 in
    let c = and_parts (is_u2 l.flags.0) (are_class_flags l.flags.0) b.0 in
    (short l.flags.0 c.0, c.1, without (has l.flags.0 0x0020) b.1)
  where
    without : (t : Bool) → not t ≡ true → t ≡ false
    without true e = absurd (false≢true e)
    without false e = refl

-- ---- code of a text's listing has bytes

all_ready : (items : List Item) (of ps : List Placed) → are_items_of items (flat_map placed_items ps) ≡ true
    → list_all (instruction_is_spelled of) ps ≡ true → list_all (λ p. switch_agrees p.instruction) ps ≡ true
    → list_all (λ p. reaches p.pc p.instruction) ps ≡ true
    → AllByRecursion (λ p. AreSmall items (narrow_number p.instruction)) ps → AllByRecursion (IsReady items of) ps
all_ready items of [] all h agrees ways small = tt
all_ready items of (p ∷ ps) all h agrees ways small =
    let parts = all_parts items (placed_items p) (flat_map placed_items ps) all in
    let a = and_parts (instruction_is_spelled of p) (list_all (instruction_is_spelled of) ps) h in
    let b = and_parts (operands_are_spelled p.instruction) (list_all (is_pc of) (goals p.instruction)) a.0 in
    let c = and_parts (switch_agrees p.instruction) (list_all (λ q. switch_agrees q.instruction) ps) agrees in
    let d = and_parts (reaches p.pc p.instruction) (list_all (λ q. reaches q.pc q.instruction) ps) ways in (
      record { there = parts.0; operands = b.0; lands = b.1; agrees = c.0; way = d.0; small = small.0 },
      all_ready items of ps parts.1 a.1 c.1 d.1 small.1,
    )

-- the ints of each `ldc` have numbers of one byte
abbrev pub HasSmall : List Item → Option CodeListing → Type 0
HasSmall items None = Unit {0}
HasSmall items (Some c) = AllByRecursion (λ p. AreSmall items (narrow_number p.instruction)) c.instructions

pub body_has_bytes : (items : List Item) (wanted : Bool) (code : Option CodeListing) → IsPool items
    → are_items_of items (code_items code) ≡ true → body_is_spelled wanted code ≡ true → body_assembles code ≡ true
    → HasSmall items code → HasBytes items code
body_has_bytes items wanted None pool all h fits small = tt
body_has_bytes items wanted (Some c) pool all h fits small =
    let top = and_parts wanted (code_is_spelled c) h in
    let first = all_parts items (text_item (codes "Code") ∷ []) (flat_map placed_items c.instructions
    ++ flat_map row_items c.rows) all in
    let parts = all_parts items (flat_map placed_items c.instructions) (flat_map row_items c.rows) first.1 in
    let p = and_parts _ (list_all (row_is_spelled c.instructions) c.rows) top.1 in
    let q = and_parts _ (list_all (instruction_is_spelled c.instructions) c.instructions) p.0 in
    let r = and_parts _ (stand_from 0 c.instructions) q.0 in
    let t = and_parts _ (is_countable (length c.rows)) fits in
    let u = and_parts _ (list_all (λ x. reaches x.pc x.instruction) c.instructions) t.0 in
    let size = and_parts (list_all (λ x. switch_agrees x.instruction) c.instructions)
    (size_is_right (end_from 0 c.instructions)) u.0 in
    let sized = and_parts (nat_le 1 (end_from 0 c.instructions)) (nat_le (end_from 0 c.instructions) 65535) size.1 in
    let some : 1 ≤ end_from 0 c.instructions = leb-true 1 (end_from 0 c.instructions) sized.0 in
    let end : end_from 0 c.instructions ≤ 65535 = leb-true (end_from 0 c.instructions) 65535 sized.1 in
    code_is_code items c.instructions pool (λ n is. omega (arith, pc_before_end 0 c.instructions n r.1 is, end)) r.1
    some end
    (all_ready items c.instructions c.instructions parts.0 q.1 size.0 u.1 small)
