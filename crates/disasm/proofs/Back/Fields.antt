-- Fields are read back from their statements.
use Rattle.std.proofs.Common.{◌≡◌, ℕ, Bool, true, false, not, ◌&&◌, ◌==◌, List, [], ◌∷◌, ◌++◌, map, codes, bytes_eq}
use Rattle.std.proofs.Common.{Option, Some, None, refl, sym, ap, ap₂, ◌∙◌, arith}
use Rattle.std.specs.Prelude.{bit_and, if◌then◌else◌}
use Rattle.std.specs.Int.Bits.{and_zero_r}
use Rattle.std.specs.Fmt.{signed_decimal}
use Rattle.std.specs.List.{list_all}
use Rattle.std.specs.Option.{option_map, option_and_then}
use Rattle.std.proofs.lemmas.Bool.{and_parts}
use Rattle.std.proofs.lemmas.Slice.Eq.{bytes_eq-Decides}
use Rattle.model.specs.declared.flags.ClassFlags.{ClassFlags}
use Rattle.model.specs.declared.listings.Constant.{Constant}
use Rattle.model.specs.declared.listings.Constant.TheVariants as value
use Rattle.model.specs.declared.listings.Field.{Field}
use Rattle.model.specs.ClassFiles.Fields.{are_field_flags}
use Rattle.model.specs.Texts.Classes.{said_before, each}
use Rattle.model.specs.Texts.Descriptors.{is_field_descriptor, is_int_type, is_long_type}
use Rattle.model.specs.Texts.Disassembling.{number_of_value}
use Rattle.model.specs.Texts.Flags.{has, with_flag, field_flags, field_flags_agree}
use Rattle.model.specs.Texts.Heads.{FieldWords, declared, value_of, field_with, constant_of, field_spelled, field_of}
use Rattle.model.specs.Texts.Heads as heads
use Rattle.model.specs.Texts.Names.{is_field_name}
use Rattle.model.specs.Texts.Spelled.{is_u2, is_int, is_long, value_is_spelled, field_is_spelled}
use Rattle.model.specs.Texts.Tables.{named}
use Rattle.disasm.specs.Statements.{flags_words, value_words, field_words}
use Rattle.disasm.proofs.Back.Flags.{kept_whole, rows_read}
use Rattle.disasm.proofs.Back.Numbers.{signed_back}

-- ---- words

abbrev is_no_sign : List ℕ → Bool
is_no_sign word = not (bytes_eq word (codes "="))

other_by : (test : List ℕ → Bool) (word : List ℕ) → test (codes "=") ≡ false → test word ≡ true → is_no_sign word ≡ true
other_by test word f e = by (bytes_eq word (codes "=")) refl
  where
    both : true ≡ false → ⊥
    both e = cc

    by : (b : Bool) → bytes_eq word (codes "=") ≡ b → not b ≡ true
    by false s = refl
    by true s = absurd (both (sym e ∙ ap test ((bytes_eq-Decides word (codes "=")).0 s) ∙ f))

abbrev words_declared : Option ℕ → List (List ℕ) → Option FieldWords
words_declared o [] = None
words_declared o (word ∷ []) = None
words_declared o (name ∷ descriptor ∷ words) = declared o name descriptor words

next_taken : (flags : ℕ) (word next third : List ℕ) (words : List (List ℕ)) → is_no_sign third ≡ true
    → declared (Some flags) word next (third ∷ words) ≡ declared (with_flag flags (named field_flags word)) next third
    words
next_taken flags word next third words e = by (bytes_eq third (codes "=")) e
  where
    by : (b : Bool) → not b ≡ true
        → (if b then Some (record { flags = flags; name = word; descriptor = next; value = Some words })
        else declared (with_flag flags (named field_flags word)) next third words)
        ≡ declared (with_flag flags (named field_flags word)) next third words
    by true e = absurd cc
    by false e = refl

taken : (name descriptor : List ℕ) (last : List (List ℕ)) → is_no_sign name ≡ true → is_no_sign descriptor ≡ true
    → (flags : ℕ) (word : List ℕ) (words : List (List ℕ)) → list_all is_no_sign words ≡ true
    → words_declared (Some flags) (word ∷ words ++ (name ∷ descriptor ∷ last))
    ≡ words_declared (with_flag flags (named field_flags word)) (words ++ (name ∷ descriptor ∷ last))
taken name descriptor last n d flags word [] e = next_taken flags word name descriptor last d
taken name descriptor last n d flags word (x ∷ []) e = next_taken flags word x name (descriptor ∷ last) n
taken name descriptor last n d flags word (x ∷ y ∷ words) e =
    let parts = and_parts (is_no_sign x) (list_all is_no_sign (y ∷ words)) e in
    next_taken flags word x y (words ++ (name ∷ descriptor ∷ last))
    (and_parts (is_no_sign y) (list_all is_no_sign words) parts.1).0

begun : (words : List (List ℕ)) → heads.field_words words ≡ words_declared (Some 0) words
begun [] = refl
begun (word ∷ []) = refl
begun (word ∷ next ∷ words) = refl

words_read : (flags : ℕ) (name descriptor : List ℕ) (last : List (List ℕ)) → is_no_sign name ≡ true
    → is_no_sign descriptor ≡ true → is_u2 flags ≡ true → (bit_and flags 0xff20 == 0) ≡ true
    → heads.field_words (flags_words field_flags flags ++ (name ∷ descriptor ∷ last))
    ≡ declared (Some flags) name descriptor last
words_read flags name descriptor last n d small none =
    let all = flags_words field_flags flags ++ (name ∷ descriptor ∷ last) in
    begun all
    ∙ ap (λ k. words_declared (Some k) all) (sym (and_zero_r flags))
    ∙ rows_read words_declared field_flags is_no_sign (name ∷ descriptor ∷ last) (taken name descriptor last n d) flags
    0 field_flags (
      0,
      refl,
      refl,
      refl,
      (
        1,
        refl,
        refl,
        refl,
        (
          2,
          refl,
          refl,
          refl,
          (3, refl, refl, refl, (4, refl, refl, refl, (6, refl, refl, refl, (7, refl, refl, refl, tt)))),
        ),
      ),
    ) refl
    ∙ ap (λ k. declared (Some k) name descriptor last) (kept_whole flags 0x00df 0xff20 small refl none)

-- ---- values

abbrev words_of : Option Constant → Option (List (List ℕ))
words_of None = None
words_of (Some v) = Some (signed_decimal (number_of_value v) ∷ [])

value_declared : (flags : ℕ) (name descriptor : List ℕ) (o : Option Constant)
    → declared (Some flags) name descriptor (value_words o)
    ≡ Some (record { flags = flags; name = name; descriptor = descriptor; value = words_of o })
value_declared flags name descriptor None = refl
value_declared flags name descriptor (Some v) = refl

long_no_int : (d : List ℕ) → is_long_type d ≡ true → is_int_type d ≡ false
long_no_int d e = ap is_int_type ((bytes_eq-Decides d (codes "J")).0 e)

value_back : (static : Bool) (d : List ℕ) (o : Option Constant) → value_is_spelled static d o ≡ true
    → constant_of static d (words_of o) ≡ Some o
value_back static d None e = refl
value_back static d (Some (value.Int z)) e =
    let one = and_parts (static && is_int_type d) (is_int z) e in
    rw one.0 (ap (λ n. option_map Some (option_map value.Int n)) (signed_back 2147483647 2147483647 z (omega arith)
    (omega arith) one.1))
value_back static d (Some (value.Long z)) e =
    let one = and_parts (static && is_long_type d) (is_long z) e in
    let two = and_parts static (is_long_type d) one.0 in
    rw (long_no_int d two.1, two.0, two.1) (ap (λ n. option_map Some (option_map value.Long n))
    (signed_back 9223372036854775807 9223372036854775807 z (omega arith) (omega arith) one.1))

-- ---- fields

record SpelledField (class : ℕ) (f : Field) : Type 0 where
  pub flags : is_u2 f.flags.0 ≡ true
  pub bits : (bit_and f.flags.0 0xff20 == 0) ≡ true
  pub agree : field_flags_agree class f.flags.0 ≡ true
  pub name : is_field_name f.name ≡ true
  pub descriptor : is_field_descriptor f.descriptor ≡ true
  pub value : value_is_spelled (has f.flags.0 0x0008) f.descriptor f.constant ≡ true

spelled_field : (class : ℕ) (f : Field) → field_is_spelled class f ≡ true → SpelledField class f
spelled_field class f e =
    let flags = is_u2 f.flags.0 in
    let agree = are_field_flags class f.flags.0 in
    let value = value_is_spelled (has f.flags.0 0x0008) f.descriptor f.constant in
    let one = and_parts (flags && agree && is_field_name f.name && is_field_descriptor f.descriptor) value e in
    let two = and_parts (flags && agree && is_field_name f.name) (is_field_descriptor f.descriptor) one.0 in
    let three = and_parts (flags && agree) (is_field_name f.name) two.0 in
    let four = and_parts flags agree three.0 in
    let five = and_parts (bit_and f.flags.0 0xff20 == 0) (field_flags_agree class f.flags.0) four.1 in
    record { flags = four.0; bits = five.0; agree = five.1; name = three.1; descriptor = two.1; value = one.1 }

field_read : (class : ClassFlags) (f : Field) → SpelledField class.0 f → field_of class (Some (field_words f)) ≡ Some f
field_read class f s =
    let words : FieldWords = record {
      flags = f.flags.0;
      name = f.name;
      descriptor = f.descriptor;
      value = words_of f.constant;
    } in
    ap (option_and_then (field_spelled class.0))
    (words_read f.flags.0 f.name f.descriptor (value_words f.constant) (other_by is_field_name f.name refl s.name)
    (other_by is_field_descriptor f.descriptor refl s.descriptor) s.flags s.bits
    ∙ value_declared f.flags.0 f.name f.descriptor f.constant)
    ∙ rw (
      s.name,
      s.descriptor,
      s.agree,
    ) (ap (option_map (field_with words)) (value_back (has f.flags.0 0x0008) f.descriptor f.constant
    s.value))

pub fields_read : (class : ClassFlags) (fs : List Field) → list_all (field_is_spelled class.0) fs ≡ true
    → each (field_of class) (map Some (map field_words fs)) ≡ Some fs
fields_read class [] e = refl
fields_read class (f ∷ fs) e =
    let parts = and_parts (field_is_spelled class.0 f) (list_all (field_is_spelled class.0) fs) e in
    ap₂ said_before (field_read class f (spelled_field class.0 f parts.0)) (fields_read class fs parts.1)
