-- The fields, methods and flags of a class file are spelled, but for what no text can say.
use Rattle.std.proofs.Common.{◌≡◌, ℕ, ◌<◌, ◌^◌, Bool, true, not, ◌&&◌, ◌==◌, List, [], ◌∷◌, map, Option, Some, None}
use Rattle.std.proofs.Common.{refl, ap, ◌∙◌, arith}
use Rattle.std.specs.Prelude.{bit_and, codes}
use Rattle.std.specs.List.{AllByRecursion, list_all}
use Rattle.std.specs.Option.{option_map, option_and_then}
use Rattle.std.specs.Str.{bytes_eq}
use Rattle.std.proofs.lemmas.Bool.{and_parts, and_from}
use Rattle.std.proofs.lemmas.Nat.{and_assoc, and_le_l, and_le_r}
use Rattle.model.specs.declared.class_files.ConstantValue.{ConstantValue}
use Rattle.model.specs.declared.class_files.Entry.{Entry}
use Rattle.model.specs.declared.class_files.Entry.TheVariants.{Utf8, Integer, Long, Class, Fieldref, Methodref}
use Rattle.model.specs.declared.class_files.Entry.TheVariants.{InterfaceMethodref, NameAndType}
use Rattle.model.specs.declared.class_files.FieldEntry.{FieldEntry}
use Rattle.model.specs.ClassFiles.Attributes.{passes}
use Rattle.model.specs.ClassFiles.Codes.{CodePart}
use Rattle.model.specs.ClassFiles.Entries.{EntryFits}
use Rattle.model.specs.ClassFiles.Fields.{are_field_flags, is_constant_value, is_value_of}
use Rattle.model.specs.ClassFiles.Heads.{are_class_flags}
use Rattle.model.specs.ClassFiles.Listing.{name_at, value_of, listed_field, listed_code, listed_method}
use Rattle.model.specs.ClassFiles.Methods.{MethodPart, are_method_flags, wants_code, units_fit}
use Rattle.model.specs.ClassFiles.Pools.{entry_at}
use Rattle.model.specs.ClassFiles.References.{text_at, AreSound}
use Rattle.model.specs.Texts.Descriptors.{arguments_of, is_field_descriptor, is_int_type, is_long_type}
use Rattle.model.specs.Texts.Flags.{has}
use Rattle.model.specs.Texts.Names.{is_field_name, is_method_name}
use Rattle.model.specs.Texts.Spelled.{is_u2, is_int, is_long, code_is_spelled, body_is_spelled, method_is_spelled}
use Rattle.model.specs.Texts.Spelled.{value_is_spelled, field_is_spelled, head_is_spelled}
use Rattle.classfile.specs.Sound.{is_constant, is_type, FieldStands, CodesStand, MethodStands}
use Rattle.classfile.proofs.SoundLaws.{standing_field, standing_code}
use Rattle.disasm.specs.Sayable.{body_is_sayable, superclass_is_sayable}
use Rattle.disasm.proofs.ClassFiles.Codes.{code_spelled}
use Rattle.disasm.proofs.ClassFiles.Operands.{two_bytes, int_is, long_is}
use Rattle.disasm.proofs.ClassFiles.Pools.{entry_meets, text_under}

-- ---- a class's flags without SUPER

without_super : (flags bit : ℕ) → bit_and 0xffdf bit ≡ bit → has (bit_and flags 0xffdf) bit ≡ has flags bit
without_super flags bit kept = ap (λ (n : ℕ). not (n == 0)) (and_assoc bit flags 0xffdf ∙ ap (bit_and flags) kept)

pub interface_still : (flags : ℕ) → has (bit_and flags 0xffdf) 0x0200 ≡ has flags 0x0200
interface_still flags = without_super flags 0x0200 refl

flags_still : (flags : ℕ) → are_class_flags (bit_and flags 0xffdf) ≡ are_class_flags flags
flags_still flags =
    let final : has (bit_and flags 0xffdf) 0x0010 ≡ has flags 0x0010 = without_super flags 0x0010 refl in
    let abstract : has (bit_and flags 0xffdf) 0x0400 ≡ has flags 0x0400 = without_super flags 0x0400 refl in
    let others : bit_and (bit_and flags 0xffdf) 0xf9ce ≡ bit_and flags 0xf9ce = and_assoc 0xf9ce flags 0xffdf
    ∙ ap (bit_and flags) refl in
    rw (final, abstract, others, interface_still flags) refl

no_super : (flags : ℕ) → not (has (bit_and flags 0xffdf) 0x0020) ≡ true
no_super flags = ap (λ (n : ℕ). not (not (n == 0))) (and_assoc 0x0020 flags 0xffdf ∙ and_none flags)
  where
    and_none : (n : ℕ) → bit_and n 0 ≡ 0
    and_none n = omega (arith, and_le_r n 0)

pub head_spelled : (flags : ℕ) (superclass : List ℕ) → flags < 2 ^ 16 → are_class_flags flags ≡ true
    → superclass_is_sayable (bit_and flags 0xffdf) superclass ≡ true → head_is_spelled (bit_and flags 0xffdf) superclass
    ≡ true
head_spelled flags superclass fits agree say =
    let plain = bit_and flags 0xffdf in
    let short : is_u2 plain ≡ true = two_bytes plain (omega (arith, fits, and_le_l flags 0xffdf)) in
    and_from (is_u2 plain && are_class_flags plain && not (has plain 0x0020)) (superclass_is_sayable plain superclass)
    (and_from (is_u2 plain && are_class_flags plain) (not (has plain 0x0020))
    (and_from (is_u2 plain) (are_class_flags plain) short (flags_still flags ∙ agree)) (no_super flags))
    say

-- ---- fields

module _ (pool : List Entry) where
  is_static : (static : Bool) (o : Option (List ℕ)) → passes (is_constant_value static) o ≡ true → static ≡ true
  is_static static None h = absurd cc
  is_static static (Some text) h = (and_parts static (bytes_eq text (codes "ConstantValue")) h).0

  entry_spelled : (static : Bool) (type : List ℕ) (n : ℕ) (o : Option Entry) → entry_at pool n ≡ o
      → AllByRecursion EntryFits pool → static ≡ true → is_value_of type o ≡ true
      → value_is_spelled static type (value_of o) ≡ true
  entry_spelled static type n (Some (Integer z)) at entries is kind =
      and_from (static && is_int_type type) (is_int z) (and_from static (is_int_type type) is kind)
      (int_is z (entry_meets EntryFits pool n (Integer z) entries at))
  entry_spelled static type n (Some (Long z)) at entries is kind =
      and_from (static && is_long_type type) (is_long z) (and_from static (is_long_type type) is kind)
      (long_is z (entry_meets EntryFits pool n (Long z) entries at))
  entry_spelled static type n (Some (Utf8 text)) at entries is kind = refl
  entry_spelled static type n (Some (Class name)) at entries is kind = refl
  entry_spelled static type n (Some (Fieldref class member)) at entries is kind = refl
  entry_spelled static type n (Some (Methodref class member)) at entries is kind = refl
  entry_spelled static type n (Some (InterfaceMethodref class member)) at entries is kind = refl
  entry_spelled static type n (Some (NameAndType name descriptor)) at entries is kind = refl
  entry_spelled static type n None at entries is kind = refl

  value_spelled : (static : Bool) (type : List ℕ) (o : Option ConstantValue) → AllByRecursion EntryFits pool
      → is_constant pool static type o ≡ true
      → value_is_spelled static type (option_and_then (λ c. value_of (entry_at pool c.value)) o) ≡ true
  value_spelled static type None entries h = refl
  value_spelled static type (Some c) entries h =
      let parts = and_parts (passes (is_constant_value static) (text_at pool c.name))
      (is_value_of type (entry_at pool c.value)) h in
      entry_spelled static type c.value (entry_at pool c.value) refl entries
      (is_static static (text_at pool c.name) parts.0) parts.1

  pub field_spelled : (class plain : ℕ) (f : FieldEntry) → has plain 0x0200 ≡ has class 0x0200
      → AllByRecursion EntryFits pool → FieldStands pool class f → field_is_spelled plain (listed_field pool f) ≡ true
  field_spelled class plain f same entries stand =
      let static = has f.flags.0 0x0008 in
      let is = standing_field pool class f stand in
      let name = name_at pool f.name in
      let type = name_at pool f.descriptor in
      let value = option_and_then (λ (c : ConstantValue). value_of (entry_at pool c.value)) f.constant in
      let one = and_parts (are_field_flags class f.flags.0 && passes is_field_name (text_at pool f.name))
      (passes (is_type pool static f.constant) (text_at pool f.descriptor)) is in
      let two = and_parts (are_field_flags class f.flags.0) (passes is_field_name (text_at pool f.name)) one.0 in
      let named = text_under is_field_name pool f.name two.1 in
      let typed = text_under (is_type pool static f.constant) pool f.descriptor one.1 in
      let both = and_parts (is_field_descriptor type) (is_constant pool static type f.constant) typed.good in
      let agree : are_field_flags plain f.flags.0 ≡ true = rw same two.0 in
      and_from (is_u2 f.flags.0 && are_field_flags plain f.flags.0 && is_field_name name && is_field_descriptor type)
      (value_is_spelled static type value)
      (and_from (is_u2 f.flags.0 && are_field_flags plain f.flags.0 && is_field_name name) (is_field_descriptor type)
      (and_from (is_u2 f.flags.0 && are_field_flags plain f.flags.0) (is_field_name name)
      (and_from (is_u2 f.flags.0) (are_field_flags plain f.flags.0) (two_bytes f.flags.0 stand.flags_fit) agree)
      named.good)
      both.0)
      (value_spelled static type f.constant entries both.1)

  pub fields_spelled : (class plain : ℕ) (fs : List FieldEntry) → has plain 0x0200 ≡ has class 0x0200
      → AllByRecursion EntryFits pool → AllByRecursion (FieldStands pool class) fs
      → list_all (field_is_spelled plain) (map (listed_field pool) fs) ≡ true
  fields_spelled class plain [] same entries all = refl
  fields_spelled class plain (f ∷ fs) same entries all =
      and_from (field_is_spelled plain (listed_field pool f))
      (list_all (field_is_spelled plain) (map (listed_field pool) fs)) (field_spelled class plain f same entries
      all.0) (fields_spelled class plain fs same entries all.1)

  -- ---- methods

  body_spelled : (wanted : Bool) (o : Option CodePart) → AllByRecursion EntryFits pool → AreSound pool
      → CodesStand pool wanted o → body_is_sayable (option_map (listed_code pool) o) ≡ true
      → body_is_spelled wanted (option_map (listed_code pool) o) ≡ true
  body_spelled wanted None entries sound stand say = ap not stand
  body_spelled wanted (Some c) entries sound stand say = and_from wanted (code_is_spelled (listed_code pool c)) stand.0
      (code_spelled pool _ c entries sound stand.1.spells say)

  pub method_spelled : (class plain : ℕ) (m : MethodPart) → has plain 0x0200 ≡ has class 0x0200
      → AllByRecursion EntryFits pool → AreSound pool → MethodStands pool class m
      → body_is_sayable (option_map (listed_code pool) m.code) ≡ true → method_is_spelled plain (listed_method pool m)
      ≡ true
  method_spelled class plain m same entries sound stand say =
      let static = has m.flags.0 0x0008 in
      let name = name_at pool m.name in
      let type = name_at pool m.descriptor in
      let named = text_under is_method_name pool m.name stand.name_is in
      let typed = text_under (λ text. units_fit static (arguments_of text)) pool m.descriptor stand.descriptor_is in
      let agree : are_method_flags plain m.flags.0 ≡ true = rw same stand.flags_agree in
      and_from (is_u2 m.flags.0 && are_method_flags plain m.flags.0 && is_method_name name
      && units_fit static (arguments_of type))
      (body_is_spelled (wants_code m.flags.0) (option_map (listed_code pool) m.code))
      (and_from (is_u2 m.flags.0 && are_method_flags plain m.flags.0 && is_method_name name)
      (units_fit static (arguments_of type))
      (and_from (is_u2 m.flags.0 && are_method_flags plain m.flags.0) (is_method_name name)
      (and_from (is_u2 m.flags.0) (are_method_flags plain m.flags.0) (two_bytes m.flags.0 stand.flags_fit) agree)
      named.good)
      typed.good)
      (body_spelled (wants_code m.flags.0) m.code entries sound (standing_code pool class m stand) say)
