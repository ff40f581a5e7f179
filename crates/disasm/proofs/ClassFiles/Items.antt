-- All that a class file's listing names stands in the file's pool, so that the listing wants no larger one.
use Rattle.std.proofs.Common.{◌≡◌, ℕ, ◌+◌, ◌≤◌, Bool, true, false, ◌||◌, ◌==◌, List, [], ◌∷◌, ◌++◌, map, flat_map}
use Rattle.std.proofs.Common.{Option, Some, None, refl, sym, ap, ◌∙◌, inl, inr, arith}
use Rattle.std.specs.Prelude.{sum_by, codes, if◌then◌else◌}
use Rattle.std.specs.List.{AllByRecursion}
use Rattle.std.specs.Option.{option_map, option_and_then}
use Rattle.std.specs.Str.{bytes_eq}
use Rattle.std.proofs.lemmas.Bool.{and_parts, and_from, cases_Bool}
use Rattle.std.proofs.lemmas.List.Sums.{sum_by-cons, sum_by-append}
use Rattle.std.proofs.lemmas.Slice.Eq.{bytes_eq-Decides}
use Rattle.model.specs.declared.bytecode.Located.{Located}
use Rattle.model.specs.declared.class_files.ConstantValue.{ConstantValue}
use Rattle.model.specs.declared.class_files.Entry.{Entry}
use Rattle.model.specs.declared.class_files.Entry.TheVariants.{Utf8, Integer, Long, Class, Fieldref, Methodref}
use Rattle.model.specs.declared.class_files.Entry.TheVariants.{InterfaceMethodref, NameAndType}
use Rattle.model.specs.declared.class_files.FieldEntry.{FieldEntry}
use Rattle.model.specs.declared.instructions.ArrayOperation.{ArrayOperation}
use Rattle.model.specs.declared.instructions.ArrayOperation.TheVariants as array
use Rattle.model.specs.declared.instructions.ClassOperation.{ClassOperation}
use Rattle.model.specs.declared.instructions.ClassOperation.TheVariants as class
use Rattle.model.specs.declared.instructions.Constant.{Constant}
use Rattle.model.specs.declared.instructions.Constant.TheVariants as constant
use Rattle.model.specs.declared.instructions.Instruction.TheVariants as instruction
use Rattle.model.specs.declared.instructions.Invocation.{Invocation}
use Rattle.model.specs.declared.instructions.Invocation.TheVariants as invocation
use Rattle.model.specs.declared.names.Member.{Member}
use Rattle.model.specs.Bytecode.Opcodes.{Instr}
use Rattle.model.specs.ClassFiles.Attributes.{passes}
use Rattle.model.specs.ClassFiles.Codes.{CodePart, CodeRow, has_tag, is_sound_constant, is_sound_array, is_sound_class}
use Rattle.model.specs.ClassFiles.Codes.{is_sound_invocation, is_sound, RowFits}
use Rattle.model.specs.ClassFiles.Entries.{EntryFits, numbers_of}
use Rattle.model.specs.ClassFiles.Fields.{is_constant_value, is_value_of}
use Rattle.model.specs.ClassFiles.Items.{Item, is_item_of, with_item, with_items, numbers_taken, items_count}
use Rattle.model.specs.ClassFiles.Items.{class_items, name_items, member_items, constant_items, array_items, call_items}
use Rattle.model.specs.ClassFiles.Items.{instruction_items, placed_items, catch_items, row_items, code_items}
use Rattle.model.specs.ClassFiles.Items.{method_items, value_items, field_items}
use Rattle.model.specs.ClassFiles.Items.Item.{text_item, int_item, long_item, class_item, name_item}
use Rattle.model.specs.ClassFiles.Listing.{name_at, class_at, member_at, value_of, listed_constant, listed_array}
use Rattle.model.specs.ClassFiles.Listing.{listed, placed, listed_row, listed_code, listed_field, listed_method}
use Rattle.model.specs.ClassFiles.Methods.{MethodPart, wants_code, units_fit}
use Rattle.model.specs.ClassFiles.Pools.{entry_at, pool_count}
use Rattle.model.specs.ClassFiles.References.{text_at, is_field, is_method, AreSound}
use Rattle.model.specs.Texts.Descriptors.{arguments_of}
use Rattle.model.specs.Texts.Flags.{has}
use Rattle.model.specs.Texts.Names.{is_field_name, is_method_name}
use Rattle.classfile.specs.Reading.Methods.{is_code_name}
use Rattle.classfile.specs.Sound.{is_constant, is_type, FieldStands, CodesStand, MethodStands, ClassStands}
use Rattle.classfile.proofs.SoundLaws.{standing_field, standing_code}
use Rattle.assembler.specs.Numbering.{item_of, items_of, are_items_of}
use Rattle.assembler.proofs.NumberingItems.{item_new, item_known}
use Rattle.assembler.proofs.NumberingCounts.{count_is_less}
use Rattle.disasm.proofs.ClassFiles.Pools.{is_said, ClassUnder, MemberUnder, text_under, class_under, plain_under}
use Rattle.disasm.proofs.ClassFiles.Operands.{int_under, long_under, field_under, method_under, interface_under}

-- ---- a pool is as large as what it says

entry_takes : (pool : List Entry) (e : Entry) → numbers_taken (item_of pool e) ≡ numbers_of e
entry_takes pool (Utf8 text) = refl
entry_takes pool (Integer z) = refl
entry_takes pool (Long z) = refl
entry_takes pool (Class name) = refl
entry_takes pool (Fieldref class member) = refl
entry_takes pool (Methodref class member) = refl
entry_takes pool (InterfaceMethodref class member) = refl
entry_takes pool (NameAndType name descriptor) = refl

entries_take : (pool es : List Entry) → sum_by numbers_taken (map (item_of pool) es) ≡ sum_by numbers_of es
entries_take pool [] = refl
entries_take pool (e ∷ es) = omega (
  arith,
  sum_by-cons numbers_taken (item_of pool e) (map (item_of pool) es),
  sum_by-cons numbers_of e es,
  entry_takes pool e,
  entries_take pool es,
)

one_more : (items : List Item) (x : Item) → items_count (with_item items x) ≤ items_count items + numbers_taken x
one_more items x = elim (cases_Bool (is_item_of items x)) [
  | inl t ↦ omega (arith, ap items_count (item_known items x t))
  | inr f ↦ omega (
    arith,
    ap items_count (item_new items x f),
    sum_by-append numbers_taken items (x ∷ []),
    sum_by-cons numbers_taken x [],
  )
]

each_once : (items xs : List Item) → items_count (with_items items xs) ≤ items_count items + sum_by numbers_taken xs
each_once items [] = omega arith
each_once items (x ∷ xs) = omega (
  arith,
  one_more items x,
  each_once (with_item items x) xs,
  sum_by-cons numbers_taken x xs,
)

-- what all stands in a pool takes no more than the pool
pub no_larger : (pool : List Entry) (xs : List Item) → are_items_of (items_of pool) xs ≡ true
    → items_count (with_items [] xs) ≤ pool_count pool
no_larger pool xs all = omega (
  arith,
  count_is_less xs (items_of pool) all,
  each_once [] (items_of pool),
  entries_take pool pool,
)

-- ---- what parts of a class file name

module _ (pool : List Entry) where
  abbrev pub AreSaid : List Item → Type 0
  AreSaid xs = are_items_of (items_of pool) xs ≡ true

  one_said : (x : Item) → is_item_of (items_of pool) x ≡ true → AreSaid (x ∷ [])
  one_said x h = and_from (is_item_of (items_of pool) x) true h refl

  more_said : (x : Item) (xs : List Item) → is_item_of (items_of pool) x ≡ true → AreSaid xs → AreSaid (x ∷ xs)
  more_said x xs h all = and_from (is_item_of (items_of pool) x) (are_items_of (items_of pool) xs) h all

  pub both_said : (xs ys : List Item) → AreSaid xs → AreSaid ys → AreSaid (xs ++ ys)
  both_said [] ys left right = right
  both_said (x ∷ xs) ys left right =
      let parts = and_parts (is_item_of (items_of pool) x) (are_items_of (items_of pool) xs) left in
      more_said x (xs ++ ys) parts.0 (both_said xs ys parts.1 right)

  class_said : (n : ℕ) → ClassUnder pool n → AreSaid (class_items (class_at pool n))
  class_said n u = more_said (text_item (class_at pool n)) (class_item (class_at pool n) ∷ []) u.text
      (one_said (class_item (class_at pool n)) u.class)

  pub plain_said : (n : ℕ) → AreSound pool → ClassStands pool n → AreSaid (class_items (class_at pool n))
  plain_said n sound stand = class_said n (plain_under pool n sound stand.1).1

  pub plains_said : (ns : List ℕ) → AreSound pool → AllByRecursion (ClassStands pool) ns
      → AreSaid (flat_map class_items (map (class_at pool) ns))
  plains_said [] sound all = refl
  plains_said (n ∷ ns) sound all = both_said (class_items (class_at pool n))
      (flat_map class_items (map (class_at pool) ns)) (plain_said n sound all.0) (plains_said ns sound all.1)

  member_said : (test : List ℕ → List ℕ → Bool) (x : Item) (m : Member) → MemberUnder test pool m
      → is_item_of (items_of pool) x ≡ true → AreSaid (member_items x m)
  member_said test x m u own =
      both_said (class_items m.class) (name_items m.name m.descriptor ++ x ∷ [])
      (more_said (text_item m.class) (class_item m.class ∷ []) u.owner_text (one_said (class_item m.class) u.owner))
      (more_said (text_item m.name) (text_item m.descriptor ∷ name_item m.name m.descriptor ∷ x ∷ []) u.name
      (more_said (text_item m.descriptor) (name_item m.name m.descriptor ∷ x ∷ []) u.descriptor
      (more_said (name_item m.name m.descriptor) (x ∷ []) u.pair (one_said x own))))

  constant_said : (c : Constant ℕ ℕ) → AllByRecursion EntryFits pool → is_sound_constant pool c ≡ true
      → AreSaid (constant_items (listed_constant pool c))
  constant_said constant.Null entries kind = refl
  constant_said (constant.SmallInt n) entries kind = refl
  constant_said (constant.SmallLong n) entries kind = refl
  constant_said (constant.Byte z) entries kind = refl
  constant_said (constant.Short z) entries kind = refl
  constant_said (constant.Int width n) entries kind = one_said (int_item _) (int_under pool n entries kind).1
  constant_said (constant.Long n) entries kind = one_said (long_item _) (long_under pool n entries kind).1

  array_said : (op : ArrayOperation ℕ) → AreSound pool → is_sound_array pool op ≡ true
      → AreSaid (array_items (listed_array pool op))
  array_said (array.New type) sound kind = refl
  array_said (array.NewOf n) sound kind = class_said n (class_under pool n sound kind)
  array_said array.Length sound kind = refl
  array_said (array.Load k) sound kind = refl
  array_said (array.Store k) sound kind = refl

  operand_said : (op : ClassOperation) (n : ℕ) → AreSound pool → is_sound_class pool op n ≡ true
      → AreSaid (class_items (class_at pool n))
  operand_said class.New n sound kind = class_said n (plain_under pool n sound kind).1
  operand_said class.CheckCast n sound kind = class_said n (class_under pool n sound kind)
  operand_said class.InstanceOf n sound kind = class_said n (class_under pool n sound kind)

  call_said : (how : Invocation) (n : ℕ) → AreSound pool → is_sound_invocation pool how n ≡ true
      → AreSaid (call_items how (member_at pool n))
  call_said invocation.Virtual n sound kind = let u = method_under pool n sound kind
      in member_said is_method _ (member_at pool n) u.0 u.1
  call_said invocation.Special n sound kind = let u = method_under pool n sound kind
      in member_said is_method _ (member_at pool n) u.0 u.1
  call_said invocation.Static n sound kind = let u = method_under pool n sound kind
      in member_said is_method _ (member_at pool n) u.0 u.1
  call_said (invocation.Interface count) n sound
      kind = let u = interface_under pool n sound kind in member_said is_method _ (member_at pool n) u.0 u.1

  instruction_said : (i : Instr) → AllByRecursion EntryFits pool → AreSound pool → is_sound pool i ≡ true
      → AreSaid (instruction_items (listed pool i))
  instruction_said instruction.Nop entries sound kind = refl
  instruction_said (instruction.Constant c) entries sound kind = constant_said c entries kind
  instruction_said (instruction.Local a) entries sound kind = refl
  instruction_said (instruction.Stack op) entries sound kind = refl
  instruction_said (instruction.Number op) entries sound kind = refl
  instruction_said (instruction.Branch t target) entries sound kind = refl
  instruction_said (instruction.TableSwitch s) entries sound kind = refl
  instruction_said (instruction.LookupSwitch s) entries sound kind = refl
  instruction_said (instruction.Return k) entries sound kind = refl
  instruction_said (instruction.Static a n) entries sound
      kind = let u = field_under pool n sound kind in member_said is_field _ (member_at pool n) u.0 u.1
  instruction_said (instruction.Field a n) entries sound
      kind = let u = field_under pool n sound kind in member_said is_field _ (member_at pool n) u.0 u.1
  instruction_said (instruction.Array op) entries sound kind = array_said op sound kind
  instruction_said (instruction.Class op n) entries sound kind = operand_said op n sound kind
  instruction_said (instruction.Invoke how n) entries sound kind = call_said how n sound kind
  instruction_said instruction.Throw entries sound kind = refl
  instruction_said (instruction.Monitor op) entries sound kind = refl

  -- ---- code

  instructions_said : (items : List Located) → AllByRecursion EntryFits pool → AreSound pool
      → AllByRecursion (λ x. is_sound pool x.instruction ≡ true) items
      → AreSaid (flat_map placed_items (map (placed pool) items))
  instructions_said [] entries sound kinds = refl
  instructions_said (x ∷ items) entries sound kinds =
      both_said (instruction_items (listed pool x.instruction)) (flat_map placed_items (map (placed pool) items))
      (instruction_said x.instruction entries sound kinds.0) (instructions_said items entries sound kinds.1)

  caught_said : (n : ℕ) (none : Bool) → AreSound pool → (none || has_tag pool 7 n) ≡ true
      → AreSaid (catch_items (if none then None else Some (class_at pool n)))
  caught_said n true sound h = refl
  caught_said n false sound h = class_said n (class_under pool n sound h)

  rows_said : (rows : List CodeRow) → AreSound pool → AllByRecursion (RowFits pool) rows
      → AreSaid (flat_map row_items (map (listed_row pool) rows))
  rows_said [] sound fit = refl
  rows_said (r ∷ rows) sound fit =
      both_said (row_items (listed_row pool r)) (flat_map row_items (map (listed_row pool) rows))
      (caught_said r.class (r.class == 0) sound fit.0.kind) (rows_said rows sound fit.1)

  -- a text that is known
  known_said : (test : List ℕ → Bool) (text : List ℕ) (n : ℕ) → ((other : List ℕ) → test other ≡ true → other ≡ text)
      → passes test (text_at pool n) ≡ true → is_item_of (items_of pool) (text_item text) ≡ true
  known_said test text n known h =
      let u = text_under test pool n h in
      ap (λ (t : List ℕ). is_item_of (items_of pool) (text_item t)) (sym (known (name_at pool n) u.good)) ∙ u.said

  body_said : (wanted : Bool) (o : Option CodePart) → AllByRecursion EntryFits pool → AreSound pool
      → CodesStand pool wanted o → AreSaid (code_items (option_map (listed_code pool) o))
  body_said wanted None entries sound stand = refl
  body_said wanted (Some c) entries sound stand =
      let s = stand.1.spells in
      let instructions = flat_map placed_items (map (placed pool) c.instructions) in
      let rows = flat_map row_items (map (listed_row pool) c.rows) in
      more_said (text_item (codes "Code")) (instructions ++ rows) (known_said is_code_name (codes "Code") c.name
      (λ t h. (bytes_eq-Decides t (codes "Code")).0 h) stand.1.named)
      (both_said instructions rows (instructions_said c.instructions entries sound s.sound)
      (rows_said c.rows sound s.rows_fit))

  method_said : (class : ℕ) (m : MethodPart) → AllByRecursion EntryFits pool → AreSound pool → MethodStands pool class m
      → AreSaid (method_items (listed_method pool m))
  method_said class m entries sound stand =
      let named = text_under is_method_name pool m.name stand.name_is in
      let typed = text_under (λ text. units_fit (has m.flags.0 0x0008) (arguments_of text)) pool m.descriptor
      stand.descriptor_is in
      more_said (text_item (name_at pool m.name)) (text_item (name_at pool m.descriptor)
      ∷ code_items (option_map (listed_code pool) m.code)) named.said
      (more_said (text_item (name_at pool m.descriptor)) (code_items (option_map (listed_code pool) m.code)) typed.said
      (body_said (wants_code m.flags.0) m.code entries sound (standing_code pool class m stand)))

  pub methods_said : (class : ℕ) (ms : List MethodPart) → AllByRecursion EntryFits pool → AreSound pool
      → AllByRecursion (MethodStands pool class) ms → AreSaid (flat_map method_items (map (listed_method pool) ms))
  methods_said class [] entries sound all = refl
  methods_said class (m ∷ ms) entries sound all =
      both_said (method_items (listed_method pool m)) (flat_map method_items (map (listed_method pool) ms))
      (method_said class m entries sound all.0) (methods_said class ms entries sound all.1)

  -- ---- fields

  entry_said : (type : List ℕ) (n : ℕ) (o : Option Entry) → entry_at pool n ≡ o
      → is_item_of (items_of pool) (text_item (codes "ConstantValue")) ≡ true → is_value_of type o ≡ true
      → AreSaid (value_items (value_of o))
  entry_said type n (Some (Integer z)) at name kind = more_said (text_item (codes "ConstantValue")) (int_item z ∷ [])
      name (one_said (int_item z) (is_said pool n (Integer z) at))
  entry_said type n (Some (Long z)) at name kind = more_said (text_item (codes "ConstantValue")) (long_item z ∷ []) name
      (one_said (long_item z) (is_said pool n (Long z) at))
  entry_said type n (Some (Utf8 text)) at name kind = refl
  entry_said type n (Some (Class k)) at name kind = refl
  entry_said type n (Some (Fieldref class member)) at name kind = refl
  entry_said type n (Some (Methodref class member)) at name kind = refl
  entry_said type n (Some (InterfaceMethodref class member)) at name kind = refl
  entry_said type n (Some (NameAndType k descriptor)) at name kind = refl
  entry_said type n None at name kind = refl

  value_said : (static : Bool) (type : List ℕ) (o : Option ConstantValue) → is_constant pool static type o ≡ true
      → AreSaid (value_items (option_and_then (λ c. value_of (entry_at pool c.value)) o))
  value_said static type None h = refl
  value_said static type (Some c) h =
      let parts = and_parts (passes (is_constant_value static) (text_at pool c.name))
      (is_value_of type (entry_at pool c.value)) h in
      let name = known_said (is_constant_value static) (codes "ConstantValue") c.name
      (λ t g. (bytes_eq-Decides t (codes "ConstantValue")).0
      (and_parts static (bytes_eq t (codes "ConstantValue")) g).1) parts.0 in
      entry_said type c.value (entry_at pool c.value) refl name parts.1

  field_said : (class : ℕ) (f : FieldEntry) → FieldStands pool class f → AreSaid (field_items (listed_field pool f))
  field_said class f stand =
      let static = has f.flags.0 0x0008 in
      let value = option_and_then (λ (c : ConstantValue). value_of (entry_at pool c.value)) f.constant in
      let one = and_parts _ (passes (is_type pool static f.constant) (text_at pool f.descriptor))
      (standing_field pool class f stand) in
      let named = text_under is_field_name pool f.name stand.name_is in
      let typed = text_under (is_type pool static f.constant) pool f.descriptor one.1 in
      more_said (text_item (name_at pool f.name)) (text_item (name_at pool f.descriptor) ∷ value_items value) named.said
      (more_said (text_item (name_at pool f.descriptor)) (value_items value) typed.said
      (value_said static (name_at pool f.descriptor) f.constant
      (and_parts _ (is_constant pool static (name_at pool f.descriptor) f.constant) typed.good).1))

  pub fields_said : (class : ℕ) (fs : List FieldEntry) → AllByRecursion (FieldStands pool class) fs
      → AreSaid (flat_map field_items (map (listed_field pool) fs))
  fields_said class [] all = refl
  fields_said class (f ∷ fs) all = both_said (field_items (listed_field pool f))
      (flat_map field_items (map (listed_field pool) fs)) (field_said class f all.0) (fields_said class fs all.1)
