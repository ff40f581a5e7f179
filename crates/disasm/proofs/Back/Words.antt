-- Words that name labels and members are read back.
use Rattle.std.proofs.Common.{◌≡◌, ℕ, ◌+◌, ◌-◌, ◌^◌, ◌<◌, Bool, true, false, not, ◌||◌, ◌==◌, List, [], ◌∷◌, ◌++◌}
use Rattle.std.proofs.Common.{reverse, length, take, drop, decimal, codes, bytes_eq, Option, Some, None, refl, sym, ap}
use Rattle.std.proofs.Common.{ap₂, subst, ◌∙◌, inl, inr, arith, append_assoc, length-append}
use Rattle.std.specs.List.{list_all, prefix_len, suffix_len, position_or_len}
use Rattle.std.proofs.lemmas.Bool.{and_parts, and_from, or_cases, or_right, cases_eq, ne_eqb, not_from_false}
use Rattle.std.proofs.lemmas.List.{reverse-append, length-reverse}
use Rattle.std.proofs.lemmas.Slice.Eq.{bytes_eq-Decides}
use Rattle.std.proofs.Math.Seq.{take-append_seam, drop-append_seam, drop-append-add}
use Rattle.model.specs.declared.names.Member.{Member}
use Rattle.model.specs.ClassFiles.References.{is_field, is_method, fits_units}
use Rattle.model.specs.Texts.Descriptors.{arguments_of, is_field_descriptor}
use Rattle.model.specs.Texts.Disassembling.{label, method_word}
use Rattle.model.specs.Texts.Methods.{label_of}
use Rattle.model.specs.Texts.Names.{begins_part, continues_part, is_part, joins, are_parts, fits, is_class_name}
use Rattle.model.specs.Texts.Names.{is_field_name, is_method_name}
use Rattle.model.specs.Texts.Numbers.{is_digit}
use Rattle.model.specs.Texts.Operands.{before_parenthesis, from_parenthesis, class_in, name_in, member_spelled}
use Rattle.model.specs.Texts.Operands.{method_named, field_spelled, field_named, label_named}
use Rattle.model.specs.Texts.Spelled.{field_is_named, method_is_named}
use Rattle.disasm.specs.Statements.{field_path}
use Rattle.disasm.proofs.Back.Lists.{all_from, all_joined}
use Rattle.disasm.proofs.Back.Numbers.{each_digit}

-- ---- labels

digit_continues : (b : ℕ) → is_digit b ≡ true → continues_part b ≡ true
digit_continues b e = or_right (begins_part b) (is_digit b) e

pub label_is_part : (pc : ℕ) → pc < 10 ^ 64 → is_part (label pc) ≡ true
label_is_part pc small = all_from is_digit continues_part digit_continues (decimal pc) (each_digit pc small)

pub label_back : (pc : ℕ) → pc < 10 ^ 64 → label_named (label pc) ≡ Some (label pc)
label_back pc small = rw (label_is_part pc small) refl

last_at : (word : List ℕ) (b : ℕ) → length (word ++ b ∷ []) - 1 ≡ length word
last_at word b = let n = length-append word (b ∷ []) in omega (arith, n)

given_back : (word : List ℕ) → label_named word ≡ Some word → label_of (word ++ codes ":") ≡ Some word
given_back word e = rw (last_at word 58, drop-append_seam word (58 ∷ []), take-append_seam word (58 ∷ [])) e

pub label_given_back : (pc : ℕ) → pc < 10 ^ 64 → label_of (label pc ++ codes ":") ≡ Some (label pc)
label_given_back pc small = given_back (label pc) (label_back pc small)

-- ---- places in words

-- no byte passes the test
abbrev none_is : (ℕ → Bool) → List ℕ → Bool
none_is p xs = list_all (λ b. not (p b)) xs

first_at : (p : ℕ → Bool) (xs : List ℕ) (y : ℕ) (ys : List ℕ) → none_is p xs ≡ true → p y ≡ true
    → position_or_len p (xs ++ y ∷ ys) ≡ length xs
first_at p [] y ys e f = rw f refl
first_at p (x ∷ xs) y ys e f =
    let parts = and_parts (not (p x)) (none_is p xs) e in
    rw (parts.0, first_at p xs y ys parts.1 f) (omega arith)

none_reversed : (q : ℕ → Bool) (xs : List ℕ) → list_all q xs ≡ true → list_all q (reverse xs) ≡ true
none_reversed q [] e = refl
none_reversed q (x ∷ xs) e =
    let parts = and_parts (q x) (list_all q xs) e in
    ap (list_all q) (reverse-append (x ∷ []) xs) ∙ all_joined q (reverse xs) (x ∷ []) (none_reversed q xs parts.1)
    (and_from (q x) true parts.0 refl)

not_twice : (b : Bool) → not (not b) ≡ b
not_twice true = refl
not_twice false = refl

passed : (q : ℕ → Bool) (xs : List ℕ) (y : ℕ) (ys : List ℕ) → list_all q xs ≡ true → q y ≡ false
    → prefix_len q (xs ++ y ∷ ys) ≡ length xs
passed q [] y ys e f = rw f refl
passed q (x ∷ xs) y ys e f =
    let parts = and_parts (q x) (list_all q xs) e in
    rw (parts.0, passed q xs y ys parts.1 f) (omega arith)

-- how many bytes stand after the last slash
after_slash : (class name : List ℕ) → none_is (λ b. b == 47) name ≡ true
    → suffix_len (λ b. not (b == 47)) (class ++ (47 ∷ name)) ≡ length name
after_slash class name e =
    let q : ℕ → Bool = λ b. not (b == 47) in
    ap (prefix_len q) (reverse-append class (47 ∷ name) ∙ ap (λ xs. xs ++ reverse class) (reverse-append (47 ∷ []) name)
    ∙ append_assoc (reverse name) (47 ∷ []) (reverse class))
    ∙ passed q (reverse name) 47 (reverse class) (none_reversed q name e) refl ∙ length-reverse name

path_length : (class name : List ℕ) → length (class ++ (47 ∷ name)) ≡ length class + 1 + length name
path_length class name = let n = length-append class (47 ∷ name) in omega (arith, n)

pub class_back : (class name : List ℕ) → none_is (λ b. b == 47) name ≡ true → class_in (class ++ (47 ∷ name)) ≡ class
class_back class name e =
    let a = path_length class name in
    let b = after_slash class name e in
    let n : length (class ++ (47 ∷ name)) - suffix_len (λ b. not (b == 47)) (class ++ (47 ∷ name)) - 1
    ≡ length class = rw (a, b) (omega arith) in
    ap (λ k. take k (class ++ (47 ∷ name))) n ∙ take-append_seam class (47 ∷ name)

pub name_back : (class name : List ℕ) → none_is (λ b. b == 47) name ≡ true → name_in (class ++ (47 ∷ name)) ≡ name
name_back class name e =
    let a = path_length class name in
    let b = after_slash class name e in
    let n : length (class ++ (47 ∷ name)) - suffix_len (λ b. not (b == 47)) (class ++ (47 ∷ name))
    ≡ length class + 1 = rw (a, b) (omega arith) in
    ap (λ k. drop k (class ++ (47 ∷ name))) n ∙ drop-append-add class (47 ∷ name) 1

-- ---- bytes of names

-- a byte that fails a test stands in no word whose bytes pass it
fails_not : (test : ℕ → Bool) (k : ℕ) → test k ≡ false → (b : ℕ) → test b ≡ true → not (b == k) ≡ true
fails_not test k f b e = elim (cases_eq b k) [
  | inl same ↦ absurd (both (sym e ∙ ap test same ∙ f))
  | inr other ↦ not_from_false (b == k) (ne_eqb b k other)
]
  where
    both : true ≡ false → ⊥
    both e = cc

none_in_parts : (begun : Bool) (word : List ℕ) → are_parts begun word ≡ true → none_is (λ b. b == 40) word ≡ true
none_in_parts begun [] e = refl
none_in_parts begun (b ∷ bs) e =
    let parts = and_parts (joins begun b) (are_parts (not (b == 47)) bs) e in
    and_from (not (b == 40)) (none_is (λ c. c == 40) bs) (joined begun b parts.0)
    (none_in_parts (not (b == 47)) bs parts.1)
  where
    joined : (begun : Bool) (b : ℕ) → joins begun b ≡ true → not (b == 40) ≡ true
    joined true b e = fails_not (joins true) 40 refl b e
    joined false b e = fails_not (joins false) 40 refl b e

none_in_class : (word : List ℕ) → is_class_name word ≡ true → none_is (λ b. b == 40) word ≡ true
none_in_class word e = none_in_parts false word (and_parts (fits word) (are_parts false word) e).1

none_in_part : (k : ℕ) (word : List ℕ) → continues_part k ≡ false → begins_part k ≡ false → is_part word ≡ true
    → none_is (λ b. b == k) word ≡ true
none_in_part k [] f g e = refl
none_in_part k (b ∷ bs) f g e =
    let parts = and_parts (begins_part b) (list_all continues_part bs) e in
    and_from (not (b == k)) (none_is (λ c. c == k) bs) (fails_not begins_part k g b parts.0)
    (all_from continues_part (λ c. not (c == k)) (fails_not continues_part k f) bs parts.1)

none_in_field : (k : ℕ) (word : List ℕ) → continues_part k ≡ false → begins_part k ≡ false → is_field_name word ≡ true
    → none_is (λ b. b == k) word ≡ true
none_in_field k word f g e = none_in_part k word f g (and_parts (fits word) (is_part word) e).1

spelled_so : (P : List ℕ → Type 0) (word text : List ℕ) → bytes_eq word text ≡ true → P text → P word
spelled_so P word text e p = subst P (sym ((bytes_eq-Decides word text).0 e)) p

pub none_in_method : (k : ℕ) (word : List ℕ) → continues_part k ≡ false → begins_part k ≡ false
    → none_is (λ b. b == k) (codes "<init>") ≡ true → none_is (λ b. b == k) (codes "<clinit>") ≡ true
    → is_method_name word ≡ true
    → none_is (λ b. b == k) word ≡ true
none_in_method k word f g
    init clinit e = elim (or_cases (bytes_eq word (codes "<init>") || bytes_eq word (codes "<clinit>"))
    (is_field_name word) e) [
      | inl special ↦ elim (or_cases (bytes_eq word (codes "<init>")) (bytes_eq word (codes "<clinit>")) special) [
        | inl one ↦ spelled_so (λ w. none_is (λ b. b == k) w ≡ true) word (codes "<init>") one init
        | inr two ↦ spelled_so (λ w. none_is (λ b. b == k) w ≡ true) word (codes "<clinit>") two clinit
      ]
      | inr plain ↦ none_in_field k word f g plain
    ]

-- ---- descriptors after names

-- a method's descriptor begins with a parenthesis
begins_so : (descriptor : List ℕ) → fits_units (arguments_of descriptor) ≡ true → (bs : List ℕ) × (descriptor ≡ 40 ∷ bs)
begins_so [] e = absurd cc
begins_so (b ∷ bs) e = elim (cases_eq b 40) [
  | inl same ↦ (bs, ap (λ c. c ∷ bs) same)
  | inr other ↦ absurd (none (rw (ne_eqb b 40 other) at e))
]
  where
    none : false ≡ true → ⊥
    none e = cc

parted : (front descriptor : List ℕ) → none_is (λ b. b == 40) front ≡ true → fits_units (arguments_of descriptor) ≡ true
    → position_or_len (λ b. b == 40) (front ++ descriptor) ≡ length front
parted front descriptor none e =
    let begins = begins_so descriptor e in
    ap (λ d. position_or_len (λ b. b == 40) (front ++ d)) begins.1 ∙ first_at (λ b. b == 40) front 40 begins.0 none refl

pub before_back : (front descriptor : List ℕ) → none_is (λ b. b == 40) front ≡ true
    → fits_units (arguments_of descriptor) ≡ true → before_parenthesis (front ++ descriptor) ≡ front
before_back front descriptor none e = ap (λ k. take k (front ++ descriptor)) (parted front descriptor none e)
    ∙ take-append_seam front descriptor

pub from_back : (front descriptor : List ℕ) → none_is (λ b. b == 40) front ≡ true → fits_units (arguments_of descriptor)
    ≡ true → from_parenthesis (front ++ descriptor) ≡ descriptor
from_back front descriptor none e = ap (λ k. drop k (front ++ descriptor)) (parted front descriptor none e)
    ∙ drop-append_seam front descriptor

-- ---- members

units_back : (m : Member) (o : Option ℕ) → is_class_name m.class ≡ true → is_method_name m.name ≡ true → fits_units o
    ≡ true → member_spelled m.class m.name m.descriptor o ≡ Some m
units_back m None class name e = absurd cc
units_back m (Some units) class name e = rw (class, name, e) refl

pub method_back : (m : Member) → method_is_named m ≡ true → method_named (method_word m) ≡ Some m
method_back m e =
    let one = and_parts (is_class_name m.class) (is_method m.name m.descriptor) e in
    let two = and_parts (is_method_name m.name) (fits_units (arguments_of m.descriptor)) one.1 in
    let path = m.class ++ (47 ∷ m.name) in
    let none = all_joined (λ b. not (b == 40)) m.class (47 ∷ m.name) (none_in_class m.class one.0)
    (none_in_method 40 m.name refl refl refl refl two.0) in
    let whole : method_word m ≡ path ++ m.descriptor = sym (append_assoc m.class (47 ∷ m.name) m.descriptor) in
    let slash = none_in_method 47 m.name refl refl refl refl two.0 in
    ap method_named whole
    ∙ ap₂ (λ p d. member_spelled (class_in p) (name_in p) d (arguments_of d)) (before_back path m.descriptor none two.1)
    (from_back path m.descriptor none two.1)
    ∙ ap₂ (λ c n. member_spelled c n m.descriptor (arguments_of m.descriptor)) (class_back m.class m.name slash)
    (name_back m.class m.name slash)
    ∙ units_back m (arguments_of m.descriptor) one.0 two.0 two.1

pub field_back : (m : Member) → field_is_named m ≡ true → field_named (field_path m) m.descriptor ≡ Some m
field_back m e =
    let one = and_parts (is_class_name m.class) (is_field m.name m.descriptor) e in
    let two = and_parts (is_field_name m.name) (is_field_descriptor m.descriptor) one.1 in
    let slash = none_in_field 47 m.name refl refl two.0 in
    ap₂ (λ c n. field_spelled c n m.descriptor) (class_back m.class m.name slash) (name_back m.class m.name slash)
    ∙ rw (one.0, two.0, two.1) refl
