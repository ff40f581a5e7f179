-- Names and descriptors are plain words: characters that print, of which the first is no semicolon.
use Rattle.std.proofs.Common.{◌≡◌, ℕ, zero, suc, ◌+◌, ◌≤◌, ◌==◌, Bool, true, false, not, ◌&&◌, ◌||◌, List, [], ◌∷◌}
use Rattle.std.proofs.Common.{◌++◌, length, take, drop, Option, Some, None, refl, sym, subst, ◌∙◌, inl, inr, arith}
use Rattle.std.specs.Prelude.{nat_le, codes, if◌then◌else◌}
use Rattle.std.specs.List.{list_all, position_or_len, before_first, after_first}
use Rattle.std.specs.Str.{bytes_eq}
use Rattle.std.proofs.lemmas.Bool.{and_parts, and_from, or_cases, cases_Bool, false≢true, not_from_false, ne_eqb}
use Rattle.std.proofs.lemmas.Bool.{eqb-true, leb-true, le-leb}
use Rattle.std.proofs.lemmas.List.{drop_all, take-append-drop}
use Rattle.std.proofs.lemmas.List.Folds.{list_all-append}
use Rattle.std.proofs.lemmas.Slice.Eq.{bytes_eq-Decides}
use Rattle.model.specs.ClassFiles.Methods.{units_fit}
use Rattle.model.specs.ClassFiles.References.{names_class, fits_units}
use Rattle.model.specs.Signatures.{dimensions, type_length, types_within, argument_types, argument_units, result_type}
use Rattle.model.specs.Texts.Descriptors.{is_int_type, is_long_type, is_class_type, is_element_type, is_type}
use Rattle.model.specs.Texts.Descriptors.{is_field_descriptor, is_array_descriptor, is_result, is_method_descriptor}
use Rattle.model.specs.Texts.Descriptors.{arguments_of}
use Rattle.model.specs.Texts.Names.{begins_part, continues_part, is_part, joins, are_parts, fits, is_class_name}
use Rattle.model.specs.Texts.Names.{is_field_name, is_method_name}
use Rattle.model.specs.Texts.Numbers.{is_digit}
use Rattle.model.proofs.DescriptorLemmas.{has_byte, shorter}

-- a character that prints and is no space
abbrev pub is_ink : ℕ → Bool
is_ink b = nat_le 33 b && nat_le b 126

-- a word of such characters that begins no comment
abbrev pub is_plain : List ℕ → Bool
is_plain [] = false
is_plain (b ∷ bs) = not (b == 59) && (is_ink b && list_all is_ink bs)

abbrev pub IsPlain : List ℕ → Type 0
IsPlain w = is_plain w ≡ true

-- a plain word that a text of a pool may have
pub record IsPlainName (w : List ℕ) : Type 0 where
  pub plain : IsPlain w
  pub short : fits w ≡ true

pub inks_of : (w : List ℕ) → IsPlain w → list_all is_ink w ≡ true
inks_of [] plain = absurd (false≢true plain)
inks_of (b ∷ bs) plain = (and_parts (not (b == 59)) (is_ink b && list_all is_ink bs) plain).1

-- ---- bytes

-- a byte that a plain word may begin with
abbrev pub starts : ℕ → Bool
starts b = not (b == 59) && is_ink b

starts_from : (b : ℕ) → 33 ≤ b → b ≤ 126 → (b ≡ 59 → ⊥) → starts b ≡ true
starts_from b low high other =
    and_from (not (b == 59)) (is_ink b) (not_from_false (b == 59) (ne_eqb b 59 other))
    (and_from (nat_le 33 b) (nat_le b 126) (le-leb 33 b low) (le-leb b 126 high))

-- a test that holds of a byte holds of its equal
same_byte : (p : ℕ → Bool) (b c : ℕ) → (b == c) ≡ true → p c ≡ true → p b ≡ true
same_byte p b c same passes = subst (λ (x : ℕ). p x ≡ true) (sym (eqb-true b c same)) passes

pub weaker : (p q : ℕ → Bool) → ((b : ℕ) → p b ≡ true → q b ≡ true) → (bs : List ℕ) → list_all p bs ≡ true
    → list_all q bs ≡ true
weaker p q f [] all = refl
weaker p q f (b ∷ bs) all = let h = and_parts (p b) (list_all p bs) all
    in and_from (q b) (list_all q bs) (f b h.0) (weaker p q f bs h.1)

pub start_is_ink : (b : ℕ) → starts b ≡ true → is_ink b ≡ true
start_is_ink b h = (and_parts (not (b == 59)) (is_ink b) h).1

pub plain_word : (b : ℕ) (bs : List ℕ) → starts b ≡ true → list_all is_ink bs ≡ true → IsPlain (b ∷ bs)
plain_word b bs first others =
    let h = and_parts (not (b == 59)) (is_ink b) first in
    and_from (not (b == 59)) (is_ink b && list_all is_ink bs) h.0 (and_from (is_ink b) (list_all is_ink bs) h.1 others)

-- ---- two words in one

pub inks_append : (w v : List ℕ) → list_all is_ink w ≡ true → list_all is_ink v ≡ true → list_all is_ink (w ++ v) ≡ true
inks_append w v hw hv = list_all-append is_ink w v ∙ and_from (list_all is_ink w) (list_all is_ink v) hw hv

pub plain_append : (w v : List ℕ) → IsPlain w → list_all is_ink v ≡ true → IsPlain (w ++ v)
plain_append [] v plain inks = absurd (false≢true plain)
plain_append (b ∷ bs) v plain inks =
    let p = and_parts (not (b == 59)) (is_ink b && list_all is_ink bs) plain in
    let q = and_parts (is_ink b) (list_all is_ink bs) p.1 in
    plain_word b (bs ++ v) (and_from (not (b == 59)) (is_ink b) p.0 q.0) (inks_append bs v q.1 inks)

-- ---- names

pub digit_starts : (b : ℕ) → is_digit b ≡ true → starts b ≡ true
digit_starts b h =
    let p = and_parts (nat_le 48 b) (nat_le b 57) h in
    let low = leb-true 48 b p.0 in
    let high = leb-true b 57 p.1 in
    starts_from b (omega (arith, low)) (omega (arith, high)) (λ e. omega (arith, high, e))

letter_starts : (low high b : ℕ) → (nat_le low b && nat_le b high) ≡ true → 60 ≤ low → high ≤ 126 → starts b ≡ true
letter_starts low high b h above below =
    let p = and_parts (nat_le low b) (nat_le b high) h in
    let first = leb-true low b p.0 in
    let last = leb-true b high p.1 in
    starts_from b (omega (arith, first, above)) (omega (arith, last, below)) (λ e. omega (arith, first, above, e))

begins_starts : (b : ℕ) → begins_part b ≡ true → starts b ≡ true
begins_starts b h =
    elim (or_cases (((nat_le 65 b && nat_le b 90) || (nat_le 97 b && nat_le b 122)) || b == 95) (b == 36) h) [
      | inr dollar ↦ same_byte starts b 36 dollar refl
      | inl h2 ↦ elim (or_cases ((nat_le 65 b && nat_le b 90) || (nat_le 97 b && nat_le b 122)) (b == 95) h2) [
        | inr line ↦ same_byte starts b 95 line refl
        | inl h3 ↦ elim (or_cases (nat_le 65 b && nat_le b 90) (nat_le 97 b && nat_le b 122) h3) [
          | inl capital ↦ letter_starts 65 90 b capital (omega arith) (omega arith)
          | inr small ↦ letter_starts 97 122 b small (omega arith) (omega arith)
        ]
      ]
    ]

continues_starts : (b : ℕ) → continues_part b ≡ true → starts b ≡ true
continues_starts b h = elim (or_cases (begins_part b) (is_digit b) h) [
  | inl part ↦ begins_starts b part
  | inr digit ↦ digit_starts b digit
]

joins_by : (slash begun : Bool) (b : ℕ) → (if slash then begun else (if begun then continues_part b else begins_part b))
    ≡ true → (slash ≡ true → starts b ≡ true) → starts b ≡ true
joins_by true begun b h f = f refl
joins_by false true b h f = continues_starts b h
joins_by false false b h f = begins_starts b h

joins_starts : (begun : Bool) (b : ℕ) → joins begun b ≡ true → starts b ≡ true
joins_starts begun b h = joins_by (b == 47) begun b h (λ slash. same_byte starts b 47 slash refl)

parts_ink : (begun : Bool) (bs : List ℕ) → are_parts begun bs ≡ true → list_all is_ink bs ≡ true
parts_ink begun [] h = refl
parts_ink begun (b ∷ bs) h =
    let p = and_parts (joins begun b) (are_parts (not (b == 47)) bs) h in
    and_from (is_ink b) (list_all is_ink bs) (start_is_ink b (joins_starts begun b p.0))
    (parts_ink (not (b == 47)) bs p.1)

parts_plain : (w : List ℕ) → are_parts false w ≡ true → IsPlain w
parts_plain [] h = absurd (false≢true h)
parts_plain (b ∷ bs) h =
    let p = and_parts (joins false b) (are_parts (not (b == 47)) bs) h
    in plain_word b bs (joins_starts false b p.0) (parts_ink (not (b == 47)) bs p.1)

pub class_name_plain : (w : List ℕ) → is_class_name w ≡ true → IsPlainName w
class_name_plain w h = let p = and_parts (fits w) (are_parts false w) h in record {
  plain = parts_plain w p.1;
  short = p.0;
}

part_plain : (w : List ℕ) → is_part w ≡ true → IsPlain w
part_plain [] h = absurd (false≢true h)
part_plain (b ∷ bs) h =
    let p = and_parts (begins_part b) (list_all continues_part bs) h in
    plain_word b bs (begins_starts b p.0) (weaker continues_part is_ink (λ c e. start_is_ink c (continues_starts c e))
    bs p.1)

pub field_name_plain : (w : List ℕ) → is_field_name w ≡ true → IsPlainName w
field_name_plain w h = let p = and_parts (fits w) (is_part w) h in record { plain = part_plain w p.1; short = p.0 }

is_same : (P : List ℕ → Type 0) (w v : List ℕ) → bytes_eq w v ≡ true → P v → P w
is_same P w v same h = subst P (sym ((bytes_eq-Decides w v).0 same)) h

pub method_name_plain : (w : List ℕ) → is_method_name w ≡ true → IsPlainName w
method_name_plain w h =
    elim (or_cases (bytes_eq w (codes "<init>") || bytes_eq w (codes "<clinit>")) (is_field_name w) h) [
      | inr name ↦ field_name_plain w name
      | inl special ↦ elim (or_cases (bytes_eq w (codes "<init>")) (bytes_eq w (codes "<clinit>")) special) [
        | inl init ↦ is_same IsPlainName w (codes "<init>") init (record { plain = refl; short = refl })
        | inr clinit ↦ is_same IsPlainName w (codes "<clinit>") clinit (record { plain = refl; short = refl })
      ]
    ]

-- ---- types

letter_ink : (w letters : List ℕ) → bytes_eq w letters ≡ true → list_all is_ink letters ≡ true → list_all is_ink w
    ≡ true
letter_ink w letters same inks = is_same (λ (v : List ℕ). list_all is_ink v ≡ true) w letters same inks

one_more : (n : ℕ) → 1 + n ≡ suc n
one_more n = omega arith

one_past : (n : ℕ) → suc n + 1 ≡ suc (n + 1)
one_past n = omega arith

-- a test on the elements before and after the first one that another test finds
both_sides : (p q : ℕ → Bool) → ((b : ℕ) → p b ≡ true → q b ≡ true) → (bs : List ℕ) → list_all q (before_first p bs)
    ≡ true → list_all q (after_first p bs) ≡ true → list_all q bs ≡ true
both_sides p q f [] before after = refl
both_sides p q f (b ∷ bs) before after =
    elim (cases_Bool (p b)) [
      | inl found ↦ and_from (q b) (list_all q bs) (f b found) (rw found at after)
      | inr other ↦
          let before2 = rw (other, one_more) at before in
          let after2 = rw (other, one_more, one_past) at after in
          let h = and_parts (q b) (list_all q (before_first p bs)) before2 in
          and_from (q b) (list_all q bs) h.0 (both_sides p q f bs h.1 after2)
    ]

int_ink : (w : List ℕ) → is_int_type w ≡ true → list_all is_ink w ≡ true
int_ink w h =
    elim (or_cases ((bytes_eq w (codes "B") || bytes_eq w (codes "C")) || bytes_eq w (codes "S"))
    (bytes_eq w (codes "I")) h) [
      | inr e ↦ letter_ink w (codes "I") e refl
      | inl h2 ↦ elim (or_cases (bytes_eq w (codes "B") || bytes_eq w (codes "C")) (bytes_eq w (codes "S")) h2) [
        | inr e ↦ letter_ink w (codes "S") e refl
        | inl h3 ↦ elim (or_cases (bytes_eq w (codes "B")) (bytes_eq w (codes "C")) h3) [
          | inl e ↦ letter_ink w (codes "B") e refl
          | inr e ↦ letter_ink w (codes "C") e refl
        ]
      ]
    ]

class_ink : (w : List ℕ) → is_class_type w ≡ true → list_all is_ink w ≡ true
class_ink [] h = refl
class_ink (b ∷ bs) h =
    let ends : ℕ → Bool = λ c. c == 59 in
    let p = and_parts (b == 76 && position_or_len ends bs + 1 == length bs) (are_parts false (before_first ends bs)) h
    in
    let q = and_parts (b == 76) (position_or_len ends bs + 1 == length bs) p.0 in
    let last = eqb-true (position_or_len ends bs + 1) (length bs) q.1 in
    let none : after_first ends bs ≡ [] = drop_all (position_or_len ends bs + 1) bs (omega (arith, last)) in
    and_from (is_ink b) (list_all is_ink bs) (same_byte is_ink b 76 q.0 refl)
    (both_sides ends is_ink (λ c e. same_byte is_ink c 59 e refl) bs (parts_ink false (before_first ends bs) p.1)
    (rw none refl))

element_ink : (w : List ℕ) → is_element_type w ≡ true → list_all is_ink w ≡ true
element_ink w h =
    elim (or_cases (is_int_type w || is_long_type w) (is_class_type w) h) [
      | inr class ↦ class_ink w class
      | inl h2 ↦ elim (or_cases (is_int_type w) (is_long_type w) h2) [
        | inl int ↦ int_ink w int
        | inr long ↦ letter_ink w (codes "J") long refl
      ]
    ]

array_ink : (w : List ℕ) → is_element_type (drop (dimensions w) w) ≡ true → list_all is_ink w ≡ true
array_ink [] h = refl
array_ink (b ∷ bs) h =
    elim (cases_Bool (b == 91)) [
      | inl bracket ↦ let rest = rw (bracket, one_more) at h
          in and_from (is_ink b) (list_all is_ink bs) (same_byte is_ink b 91 bracket refl)
          (array_ink bs rest)
      | inr other ↦ let here = rw other at h in element_ink (b ∷ bs) here
    ]

type_ink : (w : List ℕ) → is_type w ≡ true → list_all is_ink w ≡ true
type_ink w h = array_ink w (and_parts (nat_le (dimensions w) 255) (is_element_type (drop (dimensions w) w)) h).1

-- no type begins by a semicolon
no_semicolon : (b : ℕ) (bs : List ℕ) → is_type (b ∷ bs) ≡ true → b ≡ 59 → ⊥
no_semicolon b bs h same = false≢true (subst (λ (x : ℕ). is_type (x ∷ bs) ≡ true) same h)

type_plain : (w : List ℕ) → is_type w ≡ true → IsPlain w
type_plain [] h = absurd (false≢true h)
type_plain (b ∷ bs) h =
    let p = and_parts (is_ink b) (list_all is_ink bs) (type_ink (b ∷ bs) h) in
    plain_word b bs (and_from (not (b == 59)) (is_ink b) (not_from_false (b == 59) (ne_eqb b 59 (no_semicolon b bs h)))
    p.0) p.1

row_ink : (n : ℕ) (row : List ℕ) → length row ≤ n → list_all is_type (types_within n row) ≡ true → list_all is_ink row
    ≡ true
row_ink zero [] few h = refl
row_ink zero (b ∷ bs) few h = absurd (omega (arith, few))
row_ink (suc n) [] few h = refl
row_ink (suc n) (b ∷ bs) few h =
    let row = b ∷ bs in
    let of = type_length row in
    let p = and_parts (is_type (take of row)) (list_all is_type (types_within n (drop of row))) h in
    let others = row_ink n (drop of row) (shorter n of row few (has_byte b bs)) p.1 in
    subst (λ (w : List ℕ). list_all is_ink w ≡ true) (take-append-drop of row) (inks_append (take of row) (drop of row)
    (type_ink (take of row) p.0) others)

-- ---- descriptors

pub field_descriptor_plain : (w : List ℕ) → is_field_descriptor w ≡ true → IsPlainName w
field_descriptor_plain w h = let p = and_parts (fits w) (is_type w) h in record {
  plain = type_plain w p.1;
  short = p.0;
}

array_plain : (w : List ℕ) → is_array_descriptor w ≡ true → IsPlainName w
array_plain [] h = absurd (false≢true h)
array_plain (b ∷ bs) h = field_descriptor_plain (b ∷ bs) (and_parts (b == 91) (is_field_descriptor (b ∷ bs)) h).1

-- what a pool's class entry names
pub class_word_plain : (w : List ℕ) → names_class w ≡ true → IsPlainName w
class_word_plain w h = elim (or_cases (is_class_name w) (is_array_descriptor w) h) [
  | inl name ↦ class_name_plain w name
  | inr array ↦ array_plain w array
]

result_ink : (w : List ℕ) → is_result w ≡ true → list_all is_ink w ≡ true
result_ink w h = elim (or_cases (bytes_eq w (codes "V")) (is_type w) h) [
  | inl void ↦ letter_ink w (codes "V") void refl
  | inr type ↦ type_ink w type
]

-- the result stands after the arguments, with the first byte or without it
result_after : (b : ℕ) (bs : List ℕ) → (b == 41) ≡ false → result_type (b ∷ bs) ≡ after_first (λ c. c == 41) bs
result_after b bs opens = rw (opens, one_more, one_past) refl

method_plain : (w : List ℕ) → is_method_descriptor w ≡ true → IsPlainName w
method_plain [] h = absurd (false≢true h)
method_plain (b ∷ bs) h =
    let closes : ℕ → Bool = λ c. c == 41 in
    let word = b ∷ bs in
    let p = and_parts ((b == 40 && fits word) && list_all is_type (argument_types word)) (is_result (result_type word))
    h in
    let q = and_parts (b == 40 && fits word) (list_all is_type (argument_types word)) p.0 in
    let r = and_parts (b == 40) (fits word) q.0 in
    let other : (b == 41) ≡ false = subst (λ (x : ℕ). (x == 41) ≡ false) (sym (eqb-true b 40 r.0)) refl in
    let before = row_ink (length (before_first closes bs)) (before_first closes bs) (omega arith) q.1 in
    let result = subst (λ (v : List ℕ). list_all is_ink v ≡ true) (result_after b bs other)
    (result_ink (result_type word) p.1) in
    record {
      plain = plain_word b bs (same_byte starts b 40 r.0 refl)
          (both_sides closes is_ink (λ c e. same_byte is_ink c 41 e refl) bs before result);
      short = r.1;
    }

passed : {A : Type 0} (t : Bool) (o : Option A) (y : A) → (if t then o else None) ≡ Some y → t ≡ true
passed true o y e = refl
passed false o y e = absurd cc

method_descriptor_plain : (w : List ℕ) (units : ℕ) → arguments_of w ≡ Some units → IsPlainName w
method_descriptor_plain w units e = method_plain w (passed (is_method_descriptor w) (Some (argument_units w)) units e)

units_fitting : (o : Option ℕ) → fits_units o ≡ true → (n : ℕ) × (o ≡ Some n)
units_fitting None h = absurd (false≢true h)
units_fitting (Some n) h = (n, refl)

pub called_descriptor_plain : (w : List ℕ) → fits_units (arguments_of w) ≡ true → IsPlainName w
called_descriptor_plain w h = let some = units_fitting (arguments_of w) h in method_descriptor_plain w some.0 some.1

units_of_own : (static : Bool) (o : Option ℕ) → units_fit static o ≡ true → (n : ℕ) × (o ≡ Some n)
units_of_own static None h = absurd (false≢true h)
units_of_own static (Some n) h = (n, refl)

pub own_descriptor_plain : (static : Bool) (w : List ℕ) → units_fit static (arguments_of w) ≡ true → IsPlainName w
own_descriptor_plain static w h = let some = units_of_own static (arguments_of w) h
    in method_descriptor_plain w some.0 some.1
