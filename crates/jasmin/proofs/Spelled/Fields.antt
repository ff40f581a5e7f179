-- The fields of a text are spelled.
use Rattle.std.proofs.Common.{◌≡◌, ℕ, Bool, true, ◌&&◌, ◌==◌, List, [], ◌∷◌, refl, Some, None, Option, codes}
use Rattle.std.specs.Prelude.{IfSome, bit_and, pos, negsuc, if◌then◌else◌}
use Rattle.std.specs.List.{AllByRecursion}
use Rattle.std.specs.Option.{option_map, option_and_then}
use Rattle.std.specs.Str.{bytes_eq}
use Rattle.std.proofs.lemmas.Option.{IfSome_then}
use Rattle.model.specs.declared.flags.ClassFlags.{ClassFlags}
use Rattle.model.specs.declared.listings.Constant.TheVariants as value
use Rattle.model.specs.declared.listings.Field.{Field}
use Rattle.model.specs.ClassFiles.Fields.{are_field_flags}
use Rattle.model.specs.Texts.Classes.{led_by, fields_of}
use Rattle.model.specs.Texts.Descriptors.{is_field_descriptor, is_int_type, is_long_type}
use Rattle.model.specs.Texts.Flags.{field_flags, with_flag, field_flags_agree, has}
use Rattle.model.specs.Texts.Heads.{following, FieldWords, declared, field_words, value_of, field_with, constant_of}
use Rattle.model.specs.Texts.Heads.{field_spelled, field_of}
use Rattle.model.specs.Texts.Names.{is_field_name}
use Rattle.model.specs.Texts.Operands.{only_number}
use Rattle.model.specs.Texts.Spelled.{is_u2, is_int, is_long, value_is_spelled, field_is_spelled}
use Rattle.model.specs.Texts.Statements.{Statement}
use Rattle.model.specs.Texts.Tables.{named}
use Rattle.jasmin.proofs.Spelled.Flags.{lacks, with_flag_lacks}
use Rattle.jasmin.proofs.Spelled.Operands.{only_number_fits}
use Rattle.jasmin.proofs.Spelled.Partial.{both_true, and_true, of_map, of_then, of_any, of_test, of_all, in_table}

-- ---- words

declared_lacks : (flags : Option ℕ) (name descriptor : List ℕ) (words : List (List ℕ))
    → IfSome flags (λ n. lacks 0xff20 n ≡ true)
    → IfSome (declared flags name descriptor words) (λ f. lacks 0xff20 f.flags ≡ true)
declared_lacks None name descriptor [] h = tt
declared_lacks None name descriptor (next ∷ words) h = tt
declared_lacks (Some flags) name descriptor [] h = h
declared_lacks (Some flags) name descriptor (next ∷ words) h =
    of_test (λ f. lacks 0xff20 f.flags ≡ true) (bytes_eq next (codes "="))
    (Some (record { flags = flags; name = name; descriptor = descriptor; value = Some words }))
    (declared (with_flag flags (named field_flags name)) descriptor next words)
    (λ t. h)
    (λ f. declared_lacks (with_flag flags (named field_flags name)) descriptor next words
    (with_flag_lacks 0xff20 flags (named field_flags name) h (in_table (lacks 0xff20) field_flags name refl)))

words_lack : (words : List (List ℕ)) → IfSome (field_words words) (λ f. lacks 0xff20 f.flags ≡ true)
words_lack [] = tt
words_lack (word ∷ []) = tt
words_lack (name ∷ descriptor ∷ words) = declared_lacks (Some 0) name descriptor words refl

-- ---- values

value_fits : (static : Bool) (descriptor : List ℕ) (words : List (List ℕ))
    → IfSome (value_of static descriptor words) (λ v. value_is_spelled static descriptor (Some v) ≡ true)
value_fits static descriptor words =
    of_test (λ v. value_is_spelled static descriptor (Some v) ≡ true) (static && is_int_type descriptor)
    (option_map value.Int (only_number (negsuc 2147483647) (pos 2147483647) words))
    (if static && is_long_type descriptor
    then option_map value.Long (only_number (negsuc 9223372036854775807) (pos 9223372036854775807) words) else None)
    (λ t. of_map (λ v. value_is_spelled static descriptor (Some v) ≡ true) value.Int
    (only_number (negsuc 2147483647) (pos 2147483647) words)
    (IfSome_then (only_number (negsuc 2147483647) (pos 2147483647) words)
    (only_number_fits (negsuc 2147483647) (pos 2147483647) words)
    (λ z k. and_true (static && is_int_type descriptor) (is_int z) t k)))
    (λ f. of_test (λ v. value_is_spelled static descriptor (Some v) ≡ true) (static && is_long_type descriptor)
    (option_map value.Long (only_number (negsuc 9223372036854775807) (pos 9223372036854775807) words)) None
    (λ t. of_map (λ v. value_is_spelled static descriptor (Some v) ≡ true) value.Long
    (only_number (negsuc 9223372036854775807) (pos 9223372036854775807) words)
    (IfSome_then (only_number (negsuc 9223372036854775807) (pos 9223372036854775807) words)
    (only_number_fits (negsuc 9223372036854775807) (pos 9223372036854775807) words)
    (λ z k. and_true (static && is_long_type descriptor) (is_long z) t k)))
    (λ g. tt))

constant_fits : (static : Bool) (descriptor : List ℕ) (words : Option (List (List ℕ)))
    → IfSome (constant_of static descriptor words) (λ c. value_is_spelled static descriptor c ≡ true)
constant_fits static descriptor None = refl
constant_fits static descriptor (Some words) = of_map (λ c. value_is_spelled static descriptor c ≡ true) Some
    (value_of static descriptor words) (value_fits static descriptor words)

-- ---- fields

-- a field is spelled in a class of these flags
abbrev pub FieldFits : ℕ → Field → Type 0
FieldFits class f = field_is_spelled class f ≡ true

spelled_fits : (class : ℕ) (f : FieldWords) → lacks 0xff20 f.flags ≡ true
    → IfSome (field_spelled class f) (FieldFits class)
spelled_fits class f h =
    let bits = both_true (is_u2 f.flags) (bit_and f.flags 0xff20 == 0) h in
    of_test (FieldFits class) (is_field_name f.name && is_field_descriptor f.descriptor
    && field_flags_agree class f.flags)
    (option_map (field_with f) (constant_of (has f.flags 0x0008) f.descriptor f.value)) None
    (λ t.
    let outer = both_true (is_field_name f.name && is_field_descriptor f.descriptor) (field_flags_agree class f.flags) t
    in
    let inner = both_true (is_field_name f.name) (is_field_descriptor f.descriptor) outer.0 in
    let flags = and_true (is_u2 f.flags) (are_field_flags class f.flags) bits.0
    (and_true (bit_and f.flags 0xff20 == 0) (field_flags_agree class f.flags) bits.1 outer.1) in
    let name = and_true (is_u2 f.flags && are_field_flags class f.flags) (is_field_name f.name) flags inner.0 in
    let type = and_true (is_u2 f.flags && are_field_flags class f.flags && is_field_name f.name)
    (is_field_descriptor f.descriptor) name inner.1 in
    of_map (FieldFits class) (field_with f) (constant_of (has f.flags 0x0008) f.descriptor f.value)
    (IfSome_then (constant_of (has f.flags 0x0008) f.descriptor f.value)
    (constant_fits (has f.flags 0x0008) f.descriptor f.value)
    (λ c k.
    and_true (is_u2 f.flags && are_field_flags class f.flags && is_field_name f.name
    && is_field_descriptor f.descriptor)
    (value_is_spelled (has f.flags 0x0008) f.descriptor c) type k)))
    (λ g. tt)

field_fits : (class : ClassFlags) (s : Statement) → IfSome (field_of class s) (FieldFits class.0)
field_fits class s =
    of_any (FieldFits class.0) (λ words. option_and_then (field_spelled class.0) (field_words words))
    (following (codes ".field") s)
    (λ words. of_then (FieldFits class.0) (field_spelled class.0) (field_words words)
    (IfSome_then (field_words words) (words_lack words) (spelled_fits class.0)))

pub fields_fit : (class : ClassFlags) (ss : List Statement)
    → IfSome (fields_of class ss) (AllByRecursion (FieldFits class.0))
fields_fit class ss = of_all (FieldFits class.0) (field_of class) (led_by (codes ".field") ss) (field_fits class)
