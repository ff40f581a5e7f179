-- Parts that may stand in a class file are those that some bytes spell.
use Rattle.std.specs.Prelude.{nat_le, ◌&&◌, ◌||◌, ◌==◌, ◌↔◌, filter, is_some}
use Rattle.std.proofs.Common.{◌≡◌, ℕ, ◌^◌, ◌<◌, ◌≤◌, Bool, true, false, cond, List, [], ◌∷◌, ◌++◌, length, Option, Some}
use Rattle.std.proofs.Common.{None, refl, sym, ap, subst, ◌∙◌, arith}
use Rattle.std.specs.List.{flat_map, AllByRecursion}
use Rattle.std.proofs.lemmas.Bool.{le-leb, leb-true}
use Rattle.model.specs.declared.bytecode.Located.{Located}
use Rattle.model.specs.Bytecode.{IsCode}
use Rattle.model.specs.Texts.Names.{is_field_name, is_method_name}
use Rattle.model.specs.Texts.Descriptors.{is_field_descriptor}
use Rattle.model.specs.Texts.Flags.{has}
use Rattle.model.specs.ClassFiles.Attributes.{Attribute, AttributeFits, passes}
use Rattle.model.specs.ClassFiles.Classes.{ClassPart}
use Rattle.model.specs.ClassFiles.Codes.{CodePart, CodeRow, RowFits, is_sound, has_tag}
use Rattle.model.specs.ClassFiles.Fields.{are_field_flags, is_value_of, is_constant_value, counts, constant_attribute}
use Rattle.model.specs.ClassFiles.Fields.{constant_attributes, ConstantsFit, SpellsField, field_bytes}
use Rattle.model.specs.ClassFiles.Heads.{HeadPart, IsHead, SpellsClass, are_class_flags, is_class, head_bytes}
use Rattle.model.specs.ClassFiles.Heads.{after_bytes, list_bytes}
use Rattle.model.specs.ClassFiles.Lists.{SpellsAll}
use Rattle.model.specs.ClassFiles.Methods.{MethodPart, SpellsMethod, SpellCode, are_method_flags, wants_code, is_code}
use Rattle.model.specs.ClassFiles.Numbers.{u2}
use Rattle.model.specs.ClassFiles.Pools.{entry_at, PoolFits}
use Rattle.model.specs.ClassFiles.References.{text_at, AreSound}
use Rattle.model.specs.declared.class_files.ConstantValue.{ConstantValue}
use Rattle.model.specs.declared.class_files.Entry.{Entry}
use Rattle.model.specs.declared.class_files.FieldEntry.{FieldEntry}
use Rattle.opcodes.proofs.CodeLaws.{each-true, true-each}
use Rattle.classfile.specs.Classes.{IsClass}
use Rattle.classfile.specs.Reading.Codes.{are_sound}
use Rattle.classfile.specs.Reading.Methods.{is_code_name, method_type_test}
use Rattle.classfile.specs.Sound.{ConstantBounds, is_constant, is_type, is_field, FieldStands, CodeStands, CodesStand}
use Rattle.classfile.specs.Sound.{MethodStands, ClassStands}
use Rattle.classfile.specs.Writing.{code_bytes, code_info, code_attribute, code_attributes, method_bytes}
use Rattle.classfile.proofs.CodeLaws.{info_has, code_short, code_written}
use Rattle.classfile.proofs.FieldLaws as fields
use Rattle.classfile.proofs.FieldLaws.{passed_text}
use Rattle.classfile.proofs.MethodLaws as methods
use Rattle.classfile.proofs.MethodLaws.{method_written}

pub and_both : (a b : Bool) → (a && b) ≡ true → (a ≡ true) × (b ≡ true)
and_both true b e = (refl, e)
and_both false b e = absurd cc

passes_some : (test : List ℕ → Bool) (o : Option (List ℕ)) → passes test o ≡ true → is_some o ≡ true
passes_some test None e = absurd cc
passes_some test (Some text) e = refl

-- ---- lists

all_spell : {A : Type 0} (Spells : List ℕ → A → Type 0) (spelling : A → List ℕ) (xs : List A)
    → AllByRecursion (λ x. Spells (spelling x) x) xs → SpellsAll Spells (flat_map spelling xs) xs
all_spell Spells spelling [] all = refl
all_spell Spells spelling (x ∷ xs) all = (
  spelling x,
  flat_map spelling xs,
  refl,
  all.0,
  all_spell Spells spelling xs all.1,
)

spelled_all : {A : Type 0} (Spells : List ℕ → A → Type 0) (P : A → Type 0) (body : List ℕ) (xs : List A)
    → ((text : List ℕ) (x : A) → Spells text x → P x) → SpellsAll Spells body xs → AllByRecursion P xs
spelled_all Spells P body [] f s = tt
spelled_all Spells P body (x ∷ xs) f s = (f s.0 x s.3, spelled_all Spells P s.1 xs f s.4)

-- ---- fields

constant_stands : (pool : List Entry) (static : Bool) (type : List ℕ) (o : Option ConstantValue) → ConstantBounds o
    → is_constant pool static type o ≡ true → fields.CanBeWritten pool static o × ConstantsFit pool type o
constant_stands pool static type None bounds e = (record { few = omega arith; fit = tt; counted = refl }, tt)
constant_stands pool static type (Some c) bounds e =
    let both = and_both (passes (is_constant_value static) (text_at pool c.name))
    (is_value_of type (entry_at pool c.value)) e in (
      record {
        few = omega arith;
        fit = (
          record {
            name = bounds.0;
            text = passes_some (is_constant_value static) (text_at pool c.name) both.0;
            info = omega arith;
          },
          tt,
        );
        counted = rw both.0 refl;
      },
      record { value = bounds.1; kind = both.1 },
    )

standing_constant : (pool : List Entry) (static : Bool) (type : List ℕ) (attributes : List Attribute)
    (o : Option ConstantValue) → AllByRecursion (AttributeFits pool) attributes
    → filter (counts pool static) attributes ≡ constant_attributes o → ConstantsFit pool type o
    → is_constant pool static type o ≡ true
standing_constant pool static type attributes None fit e fits = refl
standing_constant pool static type attributes (Some c) fit e fits =
    let w = fields.was_there pool static attributes (constant_attribute c) fit e in
    rw (w.1, fits.kind) refl

pub field_stands : (pool : List Entry) (class : ℕ) (f : FieldEntry) → (f.flags.0 < 2 ^ 16) × (f.name < 2 ^ 16)
    × (f.descriptor < 2 ^ 16) → ConstantBounds f.constant → is_field pool class f.flags.0 f.name f.descriptor f.constant
    ≡ true
    → FieldStands pool class f
field_stands pool class f bounds small e =
    let test = is_type pool (has f.flags.0 0x0008) f.constant in
    let front = and_both (are_field_flags class f.flags.0 && passes is_field_name (text_at pool f.name))
    (passes test (text_at pool f.descriptor)) e in
    let flags = and_both (are_field_flags class f.flags.0) (passes is_field_name (text_at pool f.name)) front.0 in
    let type = passed_text test (text_at pool f.descriptor) front.1 in
    let typed = and_both (is_field_descriptor type.0) (is_constant pool (has f.flags.0 0x0008) type.0 f.constant) type.2
    in
    let constant = constant_stands pool (has f.flags.0 0x0008) type.0 f.constant small typed.1 in
    record {
      attributes = constant_attributes f.constant;
      few = constant.0.few;
      fit = constant.0.fit;
      bytes_are = refl;
      counted = constant.0.counted;
      flags_fit = bounds.0;
      flags_agree = flags.0;
      name_fits = bounds.1;
      name_is = flags.1;
      descriptor_fits = bounds.2;
      type = type.0;
      descriptor_at = type.1;
      descriptor_is = typed.0;
      constant_fits = constant.1;
    }

pub standing_field : (pool : List Entry) (class : ℕ) (f : FieldEntry) → FieldStands pool class f
    → is_field pool class f.flags.0 f.name f.descriptor f.constant ≡ true
standing_field pool class f s =
    let constant = standing_constant pool (has f.flags.0 0x0008) s.type s.attributes f.constant s.fit s.counted
    s.constant_fits in
    rw (s.flags_agree, s.name_is, s.descriptor_at, s.descriptor_is, constant) refl

-- ---- methods

pub code_stands : (pool : List Entry) (c : CodePart) → c.name < 2 ^ 16 → c.max_stack < 2 ^ 16 → c.max_locals < 2 ^ 16
    → IsCode (code_bytes c.instructions) c.instructions
    → passes is_code_name (text_at pool c.name) ≡ true → are_sound pool c.instructions ≡ true → length c.rows ≤ 65535
    → AllByRecursion (RowFits pool) c.rows → CodeStands pool c
unfolding code_info
code_stands pool c name stack locals code named sound few rows = record {
  name = name;
  named = named;
  spells = record {
    stack_fits = stack;
    locals_fit = locals;
    code = code_bytes c.instructions;
    is_code = code;
    sound = each-true (λ x. is_sound pool x.instruction) c.instructions sound;
    rows_few = omega (arith, few);
    rows_fit = rows;
    attributes = [];
    attributes_few = omega arith;
    attributes_fit = tt;
    info_is = refl;
  };
}

pub standing_sound : (pool : List Entry) (c : CodePart) → CodeStands pool c → are_sound pool c.instructions ≡ true
standing_sound pool c s = true-each (λ x. is_sound pool x.instruction) c.instructions s.spells.sound

codes_written : (pool : List Entry) (wanted : Bool) (o : Option CodePart) → CodesStand pool wanted o
    → methods.CanBeWritten pool wanted o
codes_written pool wanted None s = record { few = omega arith; fit = tt; code = (s, refl) }
codes_written pool wanted (Some c) s =
    let size = info_has c in
    let short = code_short pool (code_info c) c s.1.spells in
    let rows = s.1.spells.rows_few in
    let kept : filter (is_code pool) (code_attribute c ∷ []) ≡ code_attribute c
    ∷ [] = ap (λ b. cond b (code_attribute c ∷ []) []) s.1.named in
    record {
      few = omega arith;
      fit = (
        record {
          name = s.1.name;
          text = passes_some is_code_name (text_at pool c.name) s.1.named;
          info = omega (arith, size, short, rows);
        },
        tt,
      );
      code = (s.0, code_info c, kept, s.1.spells);
    }

standing_codes : (pool : List Entry) (wanted : Bool) (attributes : List Attribute) (o : Option CodePart)
    → AllByRecursion (AttributeFits pool) attributes → SpellCode pool wanted (filter (is_code pool) attributes) o
    → CodesStand pool wanted o
standing_codes pool wanted attributes None fit s = s.0
standing_codes pool wanted attributes (Some c) fit s =
    let w = methods.was_there pool attributes (record { name = c.name; info = s.1 }) fit s.2 in
    (s.0, record { name = w.0.name; named = w.1; spells = code_written pool s.1 c s.3 })

pub method_stands : (pool : List Entry) (class : ℕ) (m : MethodPart) → m.flags.0 < 2 ^ 16 → m.name < 2 ^ 16
    → m.descriptor < 2 ^ 16 → are_method_flags class m.flags.0 ≡ true → passes is_method_name (text_at pool m.name)
    ≡ true
    → passes (method_type_test (has m.flags.0 0x0008)) (text_at pool m.descriptor) ≡ true
    → CodesStand pool (wants_code m.flags.0) m.code → MethodStands pool class m
method_stands pool class m flags name descriptor agree named typed code =
    let w = codes_written pool (wants_code m.flags.0) m.code code in
    record {
      flags_fit = flags;
      flags_agree = agree;
      name_fits = name;
      name_is = named;
      descriptor_fits = descriptor;
      descriptor_is = typed;
      attributes = code_attributes m.code;
      few = w.few;
      fit = w.fit;
      code_is = w.code;
      bytes_are = refl;
    }

pub standing_code : (pool : List Entry) (class : ℕ) (m : MethodPart) → MethodStands pool class m
    → CodesStand pool (wants_code m.flags.0) m.code
standing_code pool class m s = standing_codes pool (wants_code m.flags.0) s.attributes m.code s.fit s.code_is

-- ---- the head

classes_spell : (pool : List Entry) (ns : List ℕ) → AllByRecursion (ClassStands pool) ns
    → SpellsAll (SpellsClass pool) (flat_map u2 ns) ns
classes_spell pool [] all = refl
classes_spell pool (n ∷ ns) all = (u2 n, flat_map u2 ns, refl, (refl, all.0.0, all.0.1), classes_spell pool ns all.1)

pub head_stands : (h : HeadPart) → PoolFits h.pool → AreSound h.pool → h.flags.0 < 2 ^ 16 → are_class_flags h.flags.0
    ≡ true → ClassStands h.pool h.class → ClassStands h.pool h.superclass
    → length h.interfaces ≤ 65535 → AllByRecursion (ClassStands h.pool) h.interfaces → length h.fields ≤ 65535
    → AllByRecursion (FieldStands h.pool h.flags.0) h.fields → IsHead h
head_stands h fits sound flags agree class superclass few interfaces count all = (
  head_bytes h,
  record {
    pool_fits = fits;
    pool_is_sound = sound;
    after_pool = after_bytes h;
    bytes_are = refl;
    following = record {
      flags_fit = flags;
      flags_agree = agree;
      class_bytes = u2 h.class;
      class_spells = (refl, class.0, class.1);
      super_bytes = u2 h.superclass;
      super_spells = (refl, superclass.0, superclass.1);
      interface_bytes = list_bytes u2 h.interfaces;
      interfaces_spell = record {
        few = omega (arith, few);
        body = flat_map u2 h.interfaces;
        bytes_are = refl;
        all = classes_spell h.pool h.interfaces interfaces;
      };
      field_bytes = list_bytes field_bytes h.fields;
      fields_spell = record {
        few = omega (arith, count);
        body = flat_map field_bytes h.fields;
        bytes_are = refl;
        all = all_spell (SpellsField h.pool h.flags.0) field_bytes h.fields all;
      };
      bytes_are = refl;
    };
  },
)

-- what is said of the parts of a head
pub record HeadStands (h : HeadPart) : Type 0 where
  pub agree : are_class_flags h.flags.0 ≡ true
  pub class : ClassStands h.pool h.class
  pub superclass : ClassStands h.pool h.superclass
  pub few : length h.interfaces < 2 ^ 16
  pub interfaces : AllByRecursion (ClassStands h.pool) h.interfaces
  pub count : length h.fields < 2 ^ 16
  pub fields : AllByRecursion (FieldStands h.pool h.flags.0) h.fields

pub standing_head : (h : HeadPart) → IsHead h → HeadStands h
standing_head h is =
    let b = is.1.following in
    record {
      agree = b.flags_agree;
      class = (b.class_spells.1, b.class_spells.2);
      superclass = (b.super_spells.1, b.super_spells.2);
      few = b.interfaces_spell.few;
      interfaces = spelled_all (SpellsClass h.pool) (ClassStands h.pool) b.interfaces_spell.body h.interfaces
          (λ text n s. (s.1, s.2)) b.interfaces_spell.all;
      count = b.fields_spell.few;
      fields = spelled_all (SpellsField h.pool h.flags.0) (FieldStands h.pool h.flags.0) b.fields_spell.body h.fields
          (λ text f s. fields.field_written h.pool h.flags.0 text f s) b.fields_spell.all;
    }

-- ---- the class file

pub class_stands : (c : ClassPart) → IsHead c.head → length c.methods ≤ 65535
    → AllByRecursion (MethodStands c.head.pool c.head.flags.0) c.methods → IsClass c
class_stands c head few all = (
  head.0 ++ (list_bytes method_bytes c.methods ++ (u2 0)),
  record {
    head_bytes = head.0;
    head_spells = head.1;
    method_bytes = list_bytes method_bytes c.methods;
    methods_spell = record {
      few = omega (arith, few);
      body = flat_map method_bytes c.methods;
      bytes_are = refl;
      all = all_spell (SpellsMethod c.head.pool c.head.flags.0) method_bytes c.methods all;
    };
    attributes = [];
    few = omega arith;
    fit = tt;
    bytes_are = refl;
  },
)

pub standing_methods : (c : ClassPart) → IsClass c → (length c.methods < 2 ^ 16)
    × AllByRecursion (MethodStands c.head.pool c.head.flags.0) c.methods
standing_methods c is =
    let s = is.1.methods_spell in (
      s.few,
      spelled_all (SpellsMethod c.head.pool c.head.flags.0) (MethodStands c.head.pool c.head.flags.0) s.body
          c.methods (λ text m h. method_written c.head.pool c.head.flags.0 text m h) s.all,
    )

-- ---- rows

pub row_stands : (pool : List Entry) (r : CodeRow) (is_taken : Bool) → r.start < 2 ^ 16 → r.end < 2 ^ 16
    → r.handler < 2 ^ 16 → r.class < 2 ^ 16 → is_taken ≡ (r.class == 0 || has_tag pool 7 r.class) → (is_taken ≡ true)
    ↔ RowFits pool r
row_stands pool r is_taken start end handler class same = (
  λ yes. record {
    start = start;
    end = end;
    handler = handler;
    class = class;
    kind = sym same ∙ yes;
  },
  λ fits. same ∙ fits.kind,
)

-- ---- what tests tell

nat_le_is : (a b : ℕ) → nat_le a b ≡ true → a ≤ b
nat_le_is a b e = leb-true a b e

is_nat_le : (a b : ℕ) → a ≤ b → nat_le a b ≡ true
is_nat_le a b e = le-leb a b e

-- a list with a count, of which each is so
counted : {A : Type 0} (P : A → Type 0) (xs ys : List A) (few all r : Bool) → few ≡ nat_le (length xs) 65535
    → (all ≡ true) ↔ AllByRecursion P xs → r ≡ (few && all) → xs ≡ ys → (r ≡ true)
    ↔ ((length ys ≤ 65535) × AllByRecursion P ys)
counted P xs ys few all r one each is same =
    subst (λ zs. (r ≡ true) ↔ ((length zs ≤ 65535) × AllByRecursion P zs)) same (
      λ yes. let two = and_both few all (sym is ∙ yes) in (nat_le_is (length xs) 65535 (sym one ∙ two.0), each.0 two.1),
      λ s. is ∙ rw (one, is_nat_le (length xs) 65535 s.0, each.1 s.1) refl,
    )

pub field_test : (pool : List Entry) (class : ℕ) (f : FieldEntry) (flags : ℕ) (r : Bool) → flags ≡ f.flags.0
    → (flags < 2 ^ 16) × (f.name < 2 ^ 16) × (f.descriptor < 2 ^ 16) → (r ≡ true → ConstantBounds f.constant)
    → r ≡ is_field pool class flags f.name f.descriptor f.constant → (r ≡ true) ↔ FieldStands pool class f
field_test pool class f flags r same bounds small is =
    let fits : (f.flags.0 < 2 ^ 16) × (f.name < 2 ^ 16) × (f.descriptor < 2 ^ 16) = subst (λ n. (n < 2 ^ 16)
    × (f.name < 2 ^ 16) × (f.descriptor < 2 ^ 16)) same bounds in
    let test : r ≡ is_field pool class f.flags.0 f.name f.descriptor f.constant = is
    ∙ ap (λ n. is_field pool class n f.name f.descriptor f.constant) same in
    (λ yes. field_stands pool class f fits (small yes) (sym test ∙ yes), λ s. test ∙ standing_field pool class f s)

pub code_test : (pool : List Entry) (c : CodePart) (items : List Located) (rows : List CodeRow)
    (is_code few each fit r : Bool) → items ≡ c.instructions → rows ≡ c.rows → (c.name < 2 ^ 16)
    × (c.max_stack < 2 ^ 16) × (c.max_locals < 2 ^ 16)
    → IsCode (code_bytes c.instructions) c.instructions
    → is_code ≡ (passes is_code_name (text_at pool c.name) && are_sound pool items)
    → few ≡ nat_le (length rows) 65535 → (each ≡ true) ↔ AllByRecursion (RowFits pool) rows → fit ≡ (few && each)
    → r ≡ (is_code && fit) → (r ≡ true) ↔ CodeStands pool c
code_test pool c items rows is_code few each fit r same_items same_rows bounds code is one all both whole =
    let listed = counted (RowFits pool) rows c.rows few each fit one all both same_rows in
    let test : is_code ≡ (passes is_code_name (text_at pool c.name) && are_sound pool c.instructions) = is
    ∙ ap (λ xs. passes is_code_name (text_at pool c.name) && are_sound pool xs) same_items in (
      λ yes.
          let parts = and_both is_code fit (sym whole ∙ yes) in
          let two = and_both (passes is_code_name (text_at pool c.name)) (are_sound pool c.instructions) (sym test
          ∙ parts.0) in
          let fits = listed.0 parts.1 in
          code_stands pool c bounds.0 bounds.1 bounds.2 code two.0 two.1 fits.0 fits.1,
      λ s.
          let few_rows = s.spells.rows_few in
          whole ∙ rw (test, s.named, standing_sound pool c s, listed.1 (omega (arith, few_rows), s.spells.rows_fit))
          refl,
    )

pub method_test : (pool : List Entry) (class : ℕ) (m : MethodPart) (flags : ℕ) (wanted is_method has_code r : Bool)
    → flags ≡ m.flags.0 → (flags < 2 ^ 16) × (m.name < 2 ^ 16) × (m.descriptor < 2 ^ 16)
    → is_method ≡ (are_method_flags class flags && passes is_method_name (text_at pool m.name)
    && passes (method_type_test (has flags 0x0008)) (text_at pool m.descriptor))
    → wanted ≡ wants_code flags → (has_code ≡ true) ↔ CodesStand pool wanted m.code → r ≡ (is_method && has_code)
    → (r ≡ true) ↔ MethodStands pool class m
method_test pool class m flags wanted is_method has_code r same bounds is wants codes whole =
    let fits : (m.flags.0 < 2 ^ 16) × (m.name < 2 ^ 16) × (m.descriptor < 2 ^ 16) = subst (λ n. (n < 2 ^ 16)
    × (m.name < 2 ^ 16) × (m.descriptor < 2 ^ 16)) same bounds in
    let typed = λ (n : ℕ). passes (method_type_test (has n 0x0008)) (text_at pool m.descriptor) in
    let test : is_method ≡ (are_method_flags class m.flags.0 && passes is_method_name (text_at pool m.name)
    && typed m.flags.0) = is ∙ ap (λ n. are_method_flags class n && passes is_method_name (text_at pool m.name)
    && typed n) same in
    let coded : (has_code ≡ true) ↔ CodesStand pool (wants_code m.flags.0) m.code = subst (λ b. (has_code ≡ true)
    ↔ CodesStand pool b m.code) (wants ∙ ap wants_code same) codes in (
      λ yes.
          let all = and_both is_method has_code (sym whole ∙ yes) in
          let front = and_both (are_method_flags class m.flags.0 && passes is_method_name (text_at pool m.name))
          (typed m.flags.0) (sym test ∙ all.0) in
          let two = and_both (are_method_flags class m.flags.0) (passes is_method_name (text_at pool m.name)) front.0 in
          method_stands pool class m fits.0 fits.1 fits.2 two.0 two.1 front.1 (coded.0 all.1),
      λ s. whole ∙ rw (test, s.flags_agree, s.name_is, s.descriptor_is, coded.1 (standing_code pool class m s)) refl,
    )

pub head_test : (h : HeadPart) (flags : ℕ) (interfaces : List ℕ) (fs : List FieldEntry)
    (class superclass few all others count each members agree named itself lists r : Bool) → PoolFits h.pool
    → AreSound h.pool
    → flags ≡ h.flags.0 → interfaces ≡ h.interfaces → fs ≡ h.fields → (class ≡ true) ↔ ClassStands h.pool h.class
    → (superclass ≡ true) ↔ ClassStands h.pool h.superclass → few ≡ nat_le (length interfaces) 65535
    → (all ≡ true) ↔ AllByRecursion (ClassStands h.pool) interfaces → others ≡ (few && all)
    → count ≡ nat_le (length fs) 65535 → (each ≡ true) ↔ AllByRecursion (FieldStands h.pool flags) fs
    → members ≡ (count && each)
    → flags < 2 ^ 16 → agree ≡ are_class_flags flags → named ≡ (class && superclass) → itself ≡ (agree && named)
    → lists ≡ (others && members) → r ≡ (itself && lists) → (r ≡ true) ↔ IsHead h
head_test h flags interfaces fs class superclass few all others count each members agree named itself lists r fits sound
    same_flags same_interfaces same_fields is_class is_super one alls both counts eachs boths small agrees names itselfs
    listss whole =
    let fields_fit : (each ≡ true) ↔ AllByRecursion (FieldStands h.pool h.flags.0) fs = subst (λ (n : ℕ). (each ≡ true)
    ↔ AllByRecursion (FieldStands h.pool n) fs) same_flags eachs in
    let listed = counted (ClassStands h.pool) interfaces h.interfaces few all others one alls both same_interfaces in
    let fielded = counted (FieldStands h.pool h.flags.0) fs h.fields count each members counts fields_fit boths
    same_fields in
    let agree_is : agree ≡ are_class_flags h.flags.0 = agrees ∙ ap are_class_flags same_flags in
    let range : h.flags.0 < 2 ^ 16 = subst (λ (n : ℕ). n < 2 ^ 16) same_flags small in (
      λ yes.
          let top = and_both itself lists (sym whole ∙ yes) in
          let own = and_both agree named (sym itselfs ∙ top.0) in
          let two = and_both class superclass (sym names ∙ own.1) in
          let more = and_both others members (sym listss ∙ top.1) in
          let i = listed.0 more.0 in
          let f = fielded.0 more.1 in
          head_stands h fits sound range (sym agree_is ∙ own.0) (is_class.0 two.0) (is_super.0 two.1) i.0 i.1 f.0 f.1,
      λ is.
          let s = standing_head h is in
          let few_interfaces = s.few in
          let few_fields = s.count in
          whole ∙ rw (
            itselfs,
            agree_is,
            s.agree,
            names,
            is_class.1 s.class,
            is_super.1 s.superclass,
            listss,
            listed.1 (omega (arith, few_interfaces), s.interfaces),
            fielded.1 (omega (arith, few_fields), s.fields),
          ) refl,
    )

pub class_test : (c : ClassPart) (pool : List Entry) (class : ℕ) (few each r : Bool) → pool ≡ c.head.pool
    → class ≡ c.head.flags.0 → IsHead c.head → (each ≡ true) ↔ AllByRecursion (MethodStands pool class) c.methods
    → few ≡ nat_le (length c.methods) 65535
    → r ≡ (few && each) → (r ≡ true) ↔ IsClass c
class_test c pool class few each r same_pool same_class head all one whole =
    let methods_fit : (each ≡ true) ↔ AllByRecursion (MethodStands c.head.pool c.head.flags.0) c.methods = subst
    (λ n. (each ≡ true) ↔ AllByRecursion (MethodStands c.head.pool n) c.methods) same_class
    (subst (λ p. (each ≡ true) ↔ AllByRecursion (MethodStands p class) c.methods) same_pool all) in
    let listed = counted (MethodStands c.head.pool c.head.flags.0) c.methods c.methods few each r one methods_fit whole
    refl in (
      λ yes. let fits = listed.0 yes in class_stands c head fits.0 fits.1,
      λ s. let m = standing_methods c s in let few_methods = m.0 in listed.1 (omega (arith, few_methods), m.1),
    )
