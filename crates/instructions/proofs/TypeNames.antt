-- The types that instructions of class files name, and their numbers.
use Rattle.std.proofs.Common.{◌≡◌, ◌⊎◌, inl, inr, ◌<◌, ◌≤◌, ◌+◌, ◌-◌, ℕ, zero, suc, List, [], ◌∷◌, ◌++◌, ◌&&◌, ◌||◌}
use Rattle.std.proofs.Common.{◌==◌, ◌%◌, Bool, true, false, cond, not, drop, take, length, map, replicate, slice_get}
use Rattle.std.proofs.Common.{is_some, Option, Some, None, refl, sym, ap, subst, arith, ◌∙◌, length-append}
use Rattle.std.specs.Prelude.{codes, nat_le, nat_lt, if◌then◌else◌}
use Rattle.std.specs.List.{before_first, position_or_len}
use Rattle.std.specs.Option.{option_map}
use Rattle.std.specs.Str.{bytes_eq}
use Rattle.std.proofs.lemmas.Bool.{and_parts, eqb-true, false_from_ne_true, le-leb, leb-true, lt-leb, lt-ltb, or_cases}
use Rattle.std.proofs.lemmas.List.{take_at}
use Rattle.std.proofs.lemmas.Option.{slice_get_within}
use Rattle.std.proofs.lemmas.Slice.Eq.{bytes_eq-Decides}
use Rattle.model.specs.ClassFiles.References.{names_class}
use Rattle.model.specs.ClassListings.{ClassListing}
use Rattle.model.specs.Classes.Builtin.{builtin_classes}
use Rattle.model.specs.Classes.Named.{class_named}
use Rattle.model.specs.Classes.Types.Element.{Reference}
use Rattle.model.specs.Classes.Types.{described, dimensions, element_of, is_there_within, is_type, type_is_there}
use Rattle.model.specs.Signatures.{dimensions as brackets}
use Rattle.model.specs.Table.Arrays.{descriptor_of}
use Rattle.model.specs.Texts.Descriptors.{is_array_descriptor, is_class_type, is_element_type, is_field_descriptor}
use Rattle.model.specs.Texts.Descriptors.{is_int_type, is_long_type, is_type as is_type_word}
use Rattle.model.specs.Texts.Names.{are_parts, fits, is_class_name}
use Rattle.resolve.specs.Numbers.{class_names, name_of}
use Rattle.linking.specs.declared.operations.TypeNumber.{TypeNumber}
use Rattle.linking.specs.ResolvedOperations.{counted_dimensions, element_number, last_element as last_number, type_of}
use Rattle.instructions.specs.Shown.{class_name, last_element, name_or_none, type_name}
use Rattle.instructions.specs.TypeNumbers.{is_element, is_letter, is_number_letter}
use Rattle.instructions.proofs.ByNumberLemmas.{HasNumber, number-names, number-of}

-- ---- what begins with no bracket

abbrev pub is_bracketed : List ℕ → Bool
is_bracketed [] = false
is_bracketed (b ∷ bs) = b == 91

differ : {b : Bool} → b ≡ true → b ≡ false → ⊥
differ p q = cc

-- a word of parts
pub parts_unbracketed : (word : List ℕ) → are_parts false word ≡ true → is_bracketed word ≡ false
parts_unbracketed [] e = refl
parts_unbracketed (b ∷ bs) e =
    false_from_ne_true (b == 91)
    (λ same. differ e (subst (λ (x : ℕ). are_parts false (x ∷ bs) ≡ false) (sym (eqb-true b 91 same)) refl))

pub name_unbracketed : (name : List ℕ) → is_class_name name ≡ true → is_bracketed name ≡ false
name_unbracketed name e = parts_unbracketed name (and_parts (fits name) (are_parts false name) e).1

pub no_array : (name : List ℕ) → is_bracketed name ≡ false → element_of name ≡ None
no_array [] e = refl
no_array (b ∷ bs) e = ap (λ c. if c then described bs else None) e

no_dimensions : (name : List ℕ) → is_bracketed name ≡ false → dimensions name ≡ 0
no_dimensions [] e = refl
no_dimensions (b ∷ bs) e = ap (λ c. if c then 1 + dimensions bs else 0) e

brackets_are : (word : List ℕ) → brackets word ≡ dimensions word
brackets_are [] = refl
brackets_are (b ∷ bs) = ap (λ n. cond (b == 91) (1 + n) 0) (brackets_are bs)

-- ---- letters of numbers

pub letters : (P : ℕ → Type 0) → P 66 → P 67 → P 83 → P 73 → P 74 → (n : ℕ) → is_number_letter n ≡ true → P n
letters P b c s i j n e =
    elim (or_cases (n == 66 || n == 67 || n == 83 || n == 73) (n == 74) e) [
      | inl e ↦
          elim (or_cases (n == 66 || n == 67 || n == 83) (n == 73) e) [
            | inl e ↦
                elim (or_cases (n == 66 || n == 67) (n == 83) e) [
                  | inl e ↦
                      elim (or_cases (n == 66) (n == 67) e) [
                        | inl e ↦ subst P (sym (eqb-true n 66 e)) b
                        | inr e ↦ subst P (sym (eqb-true n 67 e)) c
                      ]
                  | inr e ↦ subst P (sym (eqb-true n 83 e)) s
                ]
            | inr e ↦ subst P (sym (eqb-true n 73 e)) i
          ]
      | inr e ↦ subst P (sym (eqb-true n 74 e)) j
    ]

-- ---- how many classes there are

own_count : length (map name_of builtin_classes) ≡ 23
unfolding builtin_classes
own_count = refl

program_count : (cs : List ClassListing) → length (map name_of cs) ≡ length cs
program_count [] = refl
program_count (c ∷ cs) = ap suc (program_count cs)

pub names_count : (program : List ClassListing) → length (class_names program) ≡ length program + 23
names_count program =
    length-append (map name_of program) (map name_of builtin_classes)
    ∙ ap (λ n. n + length (map name_of builtin_classes)) (program_count program)
    ∙ ap (λ n. length program + n) own_count

pub number_within : (program : List ClassListing) (n : ℕ) (name : List ℕ) → slice_get (class_names program) n
    ≡ Some name
    → n < length program + 23
number_within program n name e =
    subst (λ (m : ℕ). n < m) (names_count program) (slice_get_within (class_names program) n name e)

module _ (program : List ClassListing) (few : length program ≤ 256) where
  pub record IsClassNumber (n : ℕ) : Type 0 where
    pub low : is_letter n ≡ false
    pub there : is_element program n ≡ true

  pub class_element : (n : ℕ) → n < length program + 23 → IsClassNumber n
  class_element n inside =
      let low : is_letter n ≡ false = lt-leb 32768 n (omega (arith, few, inside)) in
      record {
        low = low;
        there =
            ap (λ b. if b then is_number_letter (n - 32768) else nat_lt n (length program + 23)) low
            ∙ lt-ltb n (length program + 23) inside;
      }

  -- ---- types that are there

  there-on : (n : ℕ) (name : List ℕ) → is_there_within (suc n) program name
      ≡ type_is_there (is_some (class_named program name)) (λ element. is_there_within n program element)
      (element_of name)
  unfolding is_there_within
  there-on n name = refl

  there-none : (name : List ℕ) → is_there_within 0 program name ≡ true → ⊥
  unfolding is_there_within
  there-none name e = cc

  class-there : (n : ℕ) (name : List ℕ) → is_bracketed name ≡ false → is_there_within n program name ≡ true
      → is_some (class_named program name) ≡ true
  class-there zero name plain e = absurd (there-none name e)
  class-there (suc n) name plain e =
      ap (type_is_there (is_some (class_named program name)) (λ element. is_there_within n program element))
      (sym (no_array name plain)) ∙ sym (there-on n name) ∙ e

  class-number : (n : ℕ) (name : List ℕ) → is_bracketed name ≡ false → is_there_within n program name ≡ true
      → HasNumber program name
  class-number n name plain e = by (class_named program name) refl (class-there n name plain e)
    where
      by : (c : Option ClassListing) → class_named program name ≡ c → is_some c ≡ true → HasNumber program name
      by None is k = cc
      by (Some c) is k = number-of program name c is

  -- ---- descriptors

  abbrev type_with : ℕ → ℕ → TypeNumber
  type_with dimensions element = record { dimensions = dimensions; element = element }

  -- what a descriptor holds at last has a number, and the descriptor is that of the numbers
  record IsWord (word : List ℕ) : Type 0 where
    element : ℕ
    is : element_number program (described (drop (dimensions word) word)) ≡ Some element
    there : is_element program element ≡ true
    same : word ≡ type_name program (type_with (dimensions word) element)

  letter-word : (letter : ℕ) → is_number_letter letter ≡ true → IsWord (letter ∷ [])
  letter-word =
      letters (λ letter. IsWord (letter ∷ []))
      (record { element = 32834; is = refl; there = refl; same = refl })
      (record { element = 32835; is = refl; there = refl; same = refl })
      (record { element = 32851; is = refl; there = refl; same = refl })
      (record { element = 32841; is = refl; there = refl; same = refl })
      (record { element = 32842; is = refl; there = refl; same = refl })

  one-letter : (letter : ℕ) (word : List ℕ) → is_number_letter letter ≡ true → bytes_eq word (letter ∷ []) ≡ true
      → IsWord word
  one-letter letter word is e = subst IsWord (sym ((bytes_eq-Decides word (letter ∷ [])).0 e)) (letter-word letter is)

  -- ---- a class's name between `L` and `;`

  abbrev ends : ℕ → Bool
  ends b = b == 59

  one-less : (bytes : List ℕ) → length bytes ≡ 0 → bytes ≡ []
  one-less [] e = refl
  one-less (b ∷ bs) e = cc

  ended : (bytes : List ℕ) → position_or_len ends bytes + 1 ≡ length bytes
      → bytes ≡ take (position_or_len ends bytes) bytes ++ 59 ∷ []
  ended [] e = absurd (omega (arith, e))
  ended (b ∷ bs) e = by (ends b) refl e (λ shorter. ended bs shorter)
    where
      place : Bool → ℕ
      place c = cond (not c) (1 + position_or_len ends bs) 0

      by : (c : Bool) → ends b ≡ c → place (ends b) + 1 ≡ suc (length bs)
          → (position_or_len ends bs + 1 ≡ length bs → bs ≡ take (position_or_len ends bs) bs ++ 59 ∷ [])
          → b ∷ bs ≡ take (place (ends b)) (b ∷ bs) ++ 59 ∷ []
      by true is e rest =
          let at : 0 + 1 ≡ suc (length bs) = ap (λ c. place c + 1) (sym is) ∙ e in
          let none : bs ≡ [] = one-less bs (omega (arith, at)) in
          ap (λ xs. b ∷ xs) none ∙ ap (λ x. x ∷ []) (eqb-true b 59 is)
          ∙ ap (λ c. take (place c) (b ∷ bs) ++ 59 ∷ []) (sym is)
      by false is e rest =
          let at : 1 + position_or_len ends bs + 1 ≡ suc (length bs) = ap (λ c. place c + 1) (sym is) ∙ e in
          let next : 1 + position_or_len ends bs ≡ suc (position_or_len ends bs) = omega arith in
          ap (λ xs. b ∷ xs) (rest (omega (arith, at))) ∙ ap (λ n. take n (b ∷ bs) ++ 59 ∷ []) (sym next)
          ∙ ap (λ c. take (place c) (b ∷ bs) ++ 59 ∷ []) (sym is)

  pub between : (name : List ℕ) → described (76 ∷ name ++ 59 ∷ []) ≡ Some (Reference name)
  between name =
      let long : length (name ++ 59 ∷ []) ≡ length name + 1 = length-append name (59 ∷ []) in
      let less : length (name ++ 59 ∷ []) - 1 ≡ length name = omega (arith, long) in
      ap (λ xs. Some (Reference xs))
      (ap (λ n. take n (name ++ 59 ∷ [])) less ∙ take_at name (59 ∷ []) (length name) refl)

  -- the word of a class that is there
  class-word : (name : List ℕ) → HasNumber program name → IsWord (76 ∷ name ++ 59 ∷ [])
  class-word name class =
      let there : slice_get (class_names program) class.number ≡ Some name = number-names program name class.number
      class.is in
      let number = class_element class.number (number_within program class.number name there) in
      record {
        element = class.number;
        is = ap (element_number program) (between name) ∙ class.is;
        there = number.there;
        same =
            ap (λ (o : Option (List ℕ)). 76 ∷ name_or_none o ++ 59 ∷ []) (sym there)
            ∙ ap (λ b. if b then (class.number % 256) ∷ [] else 76 ∷ class_name program class.number ++ 59 ∷ [])
            (sym number.low);
      }

  class-type : (bytes : List ℕ) (n : ℕ) → position_or_len ends bytes + 1 ≡ length bytes
      → are_parts false (take (position_or_len ends bytes) bytes) ≡ true
      → is_there_within n program (91 ∷ 76 ∷ bytes) ≡ true → IsWord (76 ∷ bytes)
  class-type bytes zero place parts e = absurd (there-none (91 ∷ 76 ∷ bytes) e)
  class-type bytes (suc n) place parts e =
      let whole : bytes ≡ take (position_or_len ends bytes) bytes ++ 59 ∷ [] = ended bytes place in
      let named : element_of (91 ∷ 76 ∷ bytes) ≡ Some (Reference (take (position_or_len ends bytes) bytes)) =
      ap (λ xs. described (76 ∷ xs)) whole ∙ between (take (position_or_len ends bytes) bytes) in
      let there : is_there_within n program (take (position_or_len ends bytes) bytes) ≡ true =
      ap (type_is_there (is_some (class_named program (91 ∷ 76 ∷ bytes)))
      (λ element. is_there_within n program element)) (sym named)
      ∙ sym (there-on n (91 ∷ 76 ∷ bytes)) ∙ e in
      subst (λ xs. IsWord (76 ∷ xs)) (sym whole)
      (class-word (take (position_or_len ends bytes) bytes) (class-number n (take (position_or_len ends bytes) bytes)
      (parts_unbracketed (take (position_or_len ends bytes) bytes) parts) there))

  -- ---- a word that is no array's

  last-word : (b : ℕ) (bs : List ℕ) (n : ℕ) → is_element_type (b ∷ bs) ≡ true → is_there_within n program (91 ∷ b ∷ bs)
      ≡ true
      → IsWord (b ∷ bs)
  last-word b bs n word e =
      elim (or_cases (is_int_type (b ∷ bs) || is_long_type (b ∷ bs)) (is_class_type (b ∷ bs)) word) [
        | inl h ↦
            elim (or_cases (is_int_type (b ∷ bs)) (is_long_type (b ∷ bs)) h) [
              | inl h ↦ int h
              | inr h ↦ one-letter 74 (b ∷ bs) refl h
            ]
        | inr h ↦ class h
      ]
    where
      int : is_int_type (b ∷ bs) ≡ true → IsWord (b ∷ bs)
      int h =
          elim (or_cases (bytes_eq (b ∷ bs) (codes "B") || bytes_eq (b ∷ bs) (codes "C")
          || bytes_eq (b ∷ bs) (codes "S")) (bytes_eq (b ∷ bs) (codes "I")) h) [
            | inl h ↦
                elim (or_cases (bytes_eq (b ∷ bs) (codes "B") || bytes_eq (b ∷ bs) (codes "C"))
                (bytes_eq (b ∷ bs) (codes "S")) h) [
                  | inl h ↦
                      elim (or_cases (bytes_eq (b ∷ bs) (codes "B")) (bytes_eq (b ∷ bs) (codes "C")) h) [
                        | inl h ↦ one-letter 66 (b ∷ bs) refl h
                        | inr h ↦ one-letter 67 (b ∷ bs) refl h
                      ]
                  | inr h ↦ one-letter 83 (b ∷ bs) refl h
                ]
            | inr h ↦ one-letter 73 (b ∷ bs) refl h
          ]

      class : is_class_type (b ∷ bs) ≡ true → IsWord (b ∷ bs)
      class h =
          let parts = and_parts (b == 76 && position_or_len ends bs + 1 == length bs)
          (are_parts false (before_first ends bs)) h in
          let head = and_parts (b == 76) (position_or_len ends bs + 1 == length bs) parts.0 in
          let first : b ≡ 76 = eqb-true b 76 head.0 in
          subst (λ (x : ℕ). IsWord (x ∷ bs)) (sym first)
          (class-type bs n (eqb-true (position_or_len ends bs + 1) (length bs) head.1) parts.1
          (subst (λ (x : ℕ). is_there_within n program (91 ∷ x ∷ bs) ≡ true) first e))

  -- ---- a word with its brackets

  one_more : (n : ℕ) → 1 + n ≡ suc n
  one_more n = omega arith

  bracketed : (word : List ℕ) → IsWord word → IsWord (91 ∷ word)
  bracketed word w = record {
    element = w.element;
    is = ap (λ n. element_number program (described (drop n (91 ∷ word)))) (one_more (dimensions word)) ∙ w.is;
    there = w.there;
    same =
        ap (λ xs. 91 ∷ xs) w.same
        ∙ ap (λ n. type_name program (type_with n w.element)) (sym (one_more (dimensions word)));
  }

  word-of : (word : List ℕ) (n : ℕ) → is_element_type (drop (dimensions word) word) ≡ true
      → is_there_within n program (91 ∷ word) ≡ true → IsWord word
  word-of [] n word e = cc
  word-of (b ∷ bs) n word e = by (b == 91) refl word (λ n word e. word-of bs n word e)
    where
      Of : ℕ → Type 0
      Of x = is_element_type (drop (dimensions (x ∷ bs)) (x ∷ bs)) ≡ true → is_there_within n program (91 ∷ x ∷ bs)
          ≡ true → IsWord (x ∷ bs)

      more : ((n : ℕ) → is_element_type (drop (dimensions bs) bs) ≡ true → is_there_within n program (91 ∷ bs) ≡ true
          → IsWord bs) → Of 91
      more rest word e = inner n e
        where
          inner : (n : ℕ) → is_there_within n program (91 ∷ 91 ∷ bs) ≡ true → IsWord (91 ∷ bs)
          inner zero e = absurd (there-none (91 ∷ 91 ∷ bs) e)
          inner (suc n) e =
              bracketed bs
              (rest n (ap (λ k. is_element_type (drop k (91 ∷ bs))) (sym (one_more (dimensions bs))) ∙ word)
              (sym (there-on n (91 ∷ 91 ∷ bs)) ∙ e))

      by : (c : Bool) → (b == 91) ≡ c → is_element_type (drop (if b == 91 then 1 + dimensions bs else 0) (b ∷ bs))
          ≡ true
          → ((n : ℕ) → is_element_type (drop (dimensions bs) bs) ≡ true → is_there_within n program (91 ∷ bs) ≡ true
          → IsWord bs)
          → IsWord (b ∷ bs)
      by true is word rest = subst Of (sym (eqb-true b 91 is)) (more rest) word e
      by false is word rest =
          last-word b bs n (ap (λ c. is_element_type (drop (if c then 1 + dimensions bs else 0) (b ∷ bs))) (sym is)
          ∙ word) e

  -- ---- the types that instructions name

  -- a class, by its number
  pub record IsClass (name : List ℕ) (type : TypeNumber) : Type 0 where
    pub plain : type.dimensions ≡ 0
    pub low : is_letter type.element ≡ false
    pub named : slice_get (class_names program) type.element ≡ Some name
    pub unbracketed : is_bracketed name ≡ false

  -- an array, by its dimensions and what it holds at last
  pub record IsArray (name : List ℕ) (type : TypeNumber) : Type 0 where
    pub inner : ℕ
    pub dimensions : type.dimensions ≡ suc inner
    pub named : name ≡ 91 ∷ type_name program (type_with inner type.element)

  pub record HasType (name : List ℕ) : Type 0 where
    pub type : TypeNumber
    pub is : type_of program name ≡ Some type
    pub there : is_element program type.element ≡ true
    pub what : IsClass name type ⊎ IsArray name type

  class-typed : (name : List ℕ) → is_bracketed name ≡ false → is_type program name ≡ true → HasType name
  class-typed name plain e =
      let class = class-number (length name + 1) name plain e in
      let none : dimensions name ≡ 0 = no_dimensions name plain in
      let there : slice_get (class_names program) class.number ≡ Some name = number-names program name class.number
      class.is in
      let number = class_element class.number (number_within program class.number name there) in
      record {
        type = type_with 0 class.number;
        is =
            ap (λ n. option_map (λ element. type_with (counted_dimensions n) element) (last_number program n name)) none
            ∙ ap (option_map (λ element. type_with 0 element)) class.is;
        there = number.there;
        what = inl (record { plain = refl; low = number.low; named = there; unbracketed = plain });
      }

  array-typed : (word : List ℕ) → is_array_descriptor (91 ∷ word) ≡ true → is_type program (91 ∷ word) ≡ true
      → HasType (91 ∷ word)
  array-typed word named e =
      let field = and_parts (fits (91 ∷ word)) (is_type_word (91 ∷ word)) named in
      let count : brackets (91 ∷ word) ≡ suc (dimensions word) = brackets_are (91 ∷ word) ∙ one_more (dimensions word)
      in
      let type = and_parts (nat_le (brackets (91 ∷ word)) 255)
      (is_element_type (drop (brackets (91 ∷ word)) (91 ∷ word))) field.1 in
      let few : brackets (91 ∷ word) ≤ 255 = leb-true (brackets (91 ∷ word)) 255 type.0 in
      let counted : nat_le (suc (dimensions word)) 65535 ≡ true =
      le-leb (suc (dimensions word)) 65535 (omega (arith, few, count)) in
      let w = word-of word (length (91 ∷ word) + 1)
      (ap (λ n. is_element_type (drop n (91 ∷ word))) (sym count) ∙ type.1) e in
      record {
        type = type_with (suc (dimensions word)) w.element;
        is =
            ap (λ n. option_map (λ element. type_with (counted_dimensions n) element)
            (last_number program n (91 ∷ word)))
            (one_more (dimensions word))
            ∙ ap (option_map (λ element. type_with (counted_dimensions (suc (dimensions word))) element)) w.is
            ∙ ap (λ b. Some (type_with (if b then suc (dimensions word) else 65535) w.element)) counted;
        there = w.there;
        what = inr (record { inner = dimensions word; dimensions = refl; named = ap (λ xs. 91 ∷ xs) w.same });
      }

  -- a type that is there, under a name of class files, has a number
  pub typed : (name : List ℕ) → names_class name ≡ true → is_type program name ≡ true → HasType name
  typed name named e =
      elim (or_cases (is_class_name name) (is_array_descriptor name) named) [
        | inl h ↦ class-typed name (name_unbracketed name h) e
        | inr h ↦ array name h e
      ]
    where
      array : (name : List ℕ) → is_array_descriptor name ≡ true → is_type program name ≡ true → HasType name
      array [] h e = cc
      array (b ∷ bs) h e =
          let first : b ≡ 91 = eqb-true b 91 (and_parts (b == 91) (is_field_descriptor (b ∷ bs)) h).0 in
          subst (λ (x : ℕ). is_array_descriptor (x ∷ bs) ≡ true → is_type program (x ∷ bs) ≡ true → HasType (x ∷ bs))
          (sym first)
          (array-typed bs) h e

  -- arrays of a type have the descriptor that its numbers show
  pub elements_named : (name : List ℕ) → names_class name ≡ true → (t : HasType name) → descriptor_of name
      ≡ type_name program t.type
  elements_named name named t = elim t.what [ inl c ↦ class name t.type named c | inr a ↦ array name t.type a ]
    where
      class : (name : List ℕ) (type : TypeNumber) → names_class name ≡ true → IsClass name type → descriptor_of name
          ≡ type_name program type
      class [] type named c = cc
      class (b ∷ bs) type named c =
          ap (λ t. if t then b ∷ bs else 76 ∷ b ∷ bs ++ 59 ∷ []) c.unbracketed
          ∙ ap (λ (o : Option (List ℕ)). 76 ∷ name_or_none o ++ 59 ∷ []) (sym c.named)
          ∙ ap (λ t. if t then (type.element % 256) ∷ [] else 76 ∷ class_name program type.element ++ 59 ∷ [])
          (sym c.low)
          ∙ ap (λ n. replicate n 91 ++ last_element program type.element) (sym c.plain)

      array : (name : List ℕ) (type : TypeNumber) → IsArray name type → descriptor_of name ≡ type_name program type
      array name type a =
          ap descriptor_of a.named ∙ ap (λ n. type_name program (type_with n type.element)) (sym a.dimensions)
