-- What the types of a program are below, by numbers.
use Rattle.std.proofs.Common.{◌≡◌, ◌⊎◌, inl, inr, ◌<◌, ◌≤◌, ◌+◌, ◌-◌, ◌%◌, ℕ, zero, suc, List, [], ◌∷◌, ◌++◌, ◌&&◌}
use Rattle.std.proofs.Common.{◌==◌, Bool, true, false, cond, not, drop, length, map, replicate, slice_get, is_none}
use Rattle.std.proofs.Common.{is_some, Option, Some, None, refl, sym, ap, subst, arith, ◌∙◌, length-append}
use Rattle.std.specs.Prelude.{codes, nat_le, nat_lt, slice_index_or, if◌then◌else◌}
use Rattle.std.specs.List.{find, list_all}
use Rattle.std.specs.Option.{option_map}
use Rattle.std.specs.Str.{bytes_eq}
use Rattle.std.proofs.lemmas.Bool.{and_from, and_parts, cases_eq, eq-eqb, false_from_ne_true, le-leb, leb-true, lt-leb}
use Rattle.std.proofs.lemmas.Bool.{ltb-true, ne_eqb, not-true, not_from_false}
use Rattle.std.proofs.lemmas.List.{length-map, length-replicate}
use Rattle.std.proofs.lemmas.List.Folds.{list_all-append, list_all-map}
use Rattle.std.proofs.lemmas.Option.{slice_get-map}
use Rattle.std.proofs.lemmas.Slice.Eq.{bytes_eq-Decides}
use Rattle.model.specs.Accepted.BuiltinNames.{has_builtin_name}
use Rattle.model.specs.Accepted.Superclasses.{has_missing_parent}
use Rattle.model.specs.ClassListings.{ClassListing}
use Rattle.model.specs.Classes.Builtin.{builtin_classes}
use Rattle.model.specs.Classes.Named.{builtin, class_named, is_named, listed, or_else, parents_in, parents_named}
use Rattle.model.specs.Classes.Named.{parents_of}
use Rattle.model.specs.Classes.Subclass.{HasName, Subclass}
use Rattle.model.specs.Classes.Subclass.Subclass.{same, parent, through}
use Rattle.model.specs.Classes.Subclasses.{is_subclass}
use Rattle.model.specs.Classes.Types.{Element, described, element_of, is_subtype, is_subtype_within, types_compare}
use Rattle.model.specs.Classes.Types.Element.{Number, Reference}
use Rattle.model.specs.Texts.Names.{is_class_name}
use Rattle.model.specs.WellNamed.{is_well_named, types_are_named}
use Rattle.model.proofs.SubclassTest.{is_within-Subclass}
use Rattle.resolve.specs.Hierarchies.{IsHierarchy}
use Rattle.resolve.specs.Numbers.{all_classes, class_names, name_of}
use Rattle.resolve.proofs.ListLemmas.{all-found, all-of, and-left, and-right, none-fails}
use Rattle.resolve.proofs.ReachedLemmas.{any-has}
use Rattle.linking.specs.declared.operations.TypeNumber.{TypeNumber}
use Rattle.linking.specs.ClassTables.{class_facts, class_tables, is_below, is_subtype_in}
use Rattle.linking.proofs.ClassTableLemmas.{name-at, subtype-names}
use Rattle.instructions.specs.declared.kinds.Kind.TheVariants.{Instance}
use Rattle.instructions.specs.Shown.{class_name, last_element, name_or_none, type_name}
use Rattle.instructions.specs.TypeNumbers.{is_array_below, is_element, is_element_below, is_kind_of, is_letter}
use Rattle.instructions.specs.TypeNumbers.{is_number_letter, object_class}
use Rattle.instructions.proofs.ByNumberLemmas.{number-names, number-of}
use Rattle.instructions.proofs.TypeNames.{IsArray, IsClass, between, is_bracketed, letters, name_unbracketed}
use Rattle.instructions.proofs.TypeNames.{names_count, no_array}

-- ---- tests of numbers

eqb-suc : (a b : ℕ) → (suc a == suc b) ≡ (a == b)
eqb-suc a b =
    elim (cases_eq a b) [
      | inl e ↦ eq-eqb (suc a) (suc b) (ap suc e) ∙ sym (eq-eqb a b e)
      | inr n ↦ ne_eqb (suc a) (suc b) (λ e. n (omega (arith, e))) ∙ sym (ne_eqb a b n)
    ]

leb-suc : (a b : ℕ) → nat_le (suc a) (suc b) ≡ nat_le a b
leb-suc a b = by (nat_le a b) refl
  where
    by : (c : Bool) → nat_le a b ≡ c → nat_le (suc a) (suc b) ≡ c
    by true e = le-leb (suc a) (suc b) (omega (arith, leb-true a b e))
    by false e = false_from_ne_true (nat_le (suc a) (suc b))
        (λ h. differ (le-leb a b (omega (arith, leb-true (suc a) (suc b) h))) e)
      where
        differ : nat_le a b ≡ true → nat_le a b ≡ false → ⊥
        differ p q = cc

-- ---- names of classes

-- a name with bytes that is no array's
abbrev pub is_proper : List ℕ → Bool
is_proper [] = false
is_proper (b ∷ bs) = not (b == 91)

proper-name : (name : List ℕ) → is_class_name name ≡ true → is_proper name ≡ true
proper-name [] e = cc
proper-name (b ∷ bs) e = not_from_false (b == 91) (name_unbracketed (b ∷ bs) e)

pub proper-unbracketed : (name : List ℕ) → is_proper name ≡ true → is_bracketed name ≡ false
proper-unbracketed [] e = refl
proper-unbracketed (b ∷ bs) e = not-true (b == 91) e

own-proper : list_all (λ (c : ClassListing). is_proper c.name) builtin_classes ≡ true
unfolding builtin_classes
own-proper = refl

own-parents : list_all (λ (c : ClassListing). list_all (λ p. not (is_bracketed p)) (parents_of c)) builtin_classes
    ≡ true
unfolding builtin_classes
own-parents = refl

abbrev object : List ℕ
object = codes "java/lang/Object"

own-first : map name_of builtin_classes ≡ object ∷ drop 1 (map name_of builtin_classes)
unfolding builtin_classes
own-first = refl

own-others : list_all (λ name. not (bytes_eq name object)) (drop 1 (map name_of builtin_classes)) ≡ true
unfolding builtin_classes
own-others = refl

object-there : is_some (builtin object) ≡ true
unfolding builtin_classes
object-there = refl

differ : {b : Bool} → b ≡ true → b ≡ false → ⊥
differ p q = cc

no-object : (c : ClassListing) → has_builtin_name c ≡ false → bytes_eq c.name object ≡ false
unfolding has_builtin_name
no-object c own =
    false_from_ne_true (bytes_eq c.name object)
    (λ e. differ (ap (λ name. is_some (builtin name)) ((bytes_eq-Decides c.name object).0 e) ∙ object-there) own)

cond-none : {A : Type 0} (b : Bool) (x : A) (rest : Option A) → cond b (Some x) rest ≡ None → (b ≡ false)
    × (rest ≡ None)
cond-none true x rest e = cc
cond-none false x rest e = (refl, e)

no-objects : (cs : List ClassListing) → find has_builtin_name cs ≡ None
    → list_all (λ name. not (bytes_eq name object)) (map name_of cs) ≡ true
no-objects [] none = refl
no-objects (c ∷ cs) none =
    let parts = cond-none (has_builtin_name c) c (find has_builtin_name cs) none in
    and_from (not (bytes_eq c.name object)) (list_all (λ name. not (bytes_eq name object)) (map name_of cs))
    (not_from_false (bytes_eq c.name object) (no-object c parts.0)) (no-objects cs parts.1)

-- ---- the place of a name that stands once in a list

all-at : (p : List ℕ → Bool) (xs : List (List ℕ)) (n : ℕ) (x : List ℕ) → list_all p xs ≡ true → slice_get xs n ≡ Some x
    → p x ≡ true
all-at p [] n x all e = cc
all-at p (y ∷ ys) zero x all e = let same : y ≡ x = cc in ap p (sym same) ∙ and-left (p y) (list_all p ys) all
all-at p (y ∷ ys) (suc n) x all e = all-at p ys n x (and-right (p y) (list_all p ys) all) e

once : (x : List ℕ) (names more : List (List ℕ)) (n : ℕ) (name : List ℕ)
    → list_all (λ y. not (bytes_eq y x)) names ≡ true → list_all (λ y. not (bytes_eq y x)) more ≡ true
    → slice_get (names ++ x ∷ more) n ≡ Some name → bytes_eq name x ≡ (n == length names)
once x [] more zero name before following e =
    let same : x ≡ name = cc in ap (λ y. bytes_eq y x) (sym same) ∙ (bytes_eq-Decides x x).1 refl
once x [] more (suc n) name before following e =
    not-true (bytes_eq name x) (all-at (λ y. not (bytes_eq y x)) more n name following e)
    ∙ sym (ne_eqb (suc n) 0 (λ h. omega (arith, h)))
once x (y ∷ ys) more zero name before following e =
    let same : y ≡ name = cc in
    ap (λ z. bytes_eq z x) (sym same)
    ∙ not-true (bytes_eq y x) (and-left (not (bytes_eq y x)) (list_all (λ y. not (bytes_eq y x)) ys) before)
    ∙ sym (ne_eqb 0 (suc (length ys)) (λ h. omega (arith, h)))
once x (y ∷ ys) more (suc n) name before following e =
    once x ys more n name (and-right (not (bytes_eq y x)) (list_all (λ y. not (bytes_eq y x)) ys) before) following e
    ∙ sym (eqb-suc n (length ys))

-- the classes of the program have classes' names
abbrev pub AreClassNames : List ClassListing → Type 0
AreClassNames program = list_all (λ (c : ClassListing). is_class_name c.name) program ≡ true

class-name : (c : ClassListing) → is_well_named c ≡ true → is_class_name c.name ≡ true
unfolding is_well_named
class-name c e = (and_parts (is_class_name c.name) (types_are_named c.methods) e).0

pub named-classes : (program : List ClassListing) → list_all is_well_named program ≡ true → AreClassNames program
named-classes [] e = refl
named-classes (c ∷ cs) e =
    let parts = and_parts (is_well_named c) (list_all is_well_named cs) e in
    and_from (is_class_name c.name) (list_all (λ (c : ClassListing). is_class_name c.name) cs) (class-name c parts.0)
    (named-classes cs parts.1)

proper-names : (cs : List ClassListing) → AreClassNames cs → list_all is_proper (map name_of cs) ≡ true
proper-names [] e = refl
proper-names (c ∷ cs) e =
    let parts = and_parts (is_class_name c.name) (list_all (λ (c : ClassListing). is_class_name c.name) cs) e in
    and_from (is_proper c.name) (list_all is_proper (map name_of cs)) (proper-name c.name parts.0)
    (proper-names cs parts.1)

module _ (program : List ClassListing) (few : length program ≤ 256) (names : AreClassNames program)
    (hierarchy : IsHierarchy program) (hides : find has_builtin_name program ≡ None) where
  all-proper : list_all is_proper (class_names program) ≡ true
  all-proper =
      list_all-append is_proper (map name_of program) (map name_of builtin_classes)
      ∙ and_from (list_all is_proper (map name_of program)) (list_all is_proper (map name_of builtin_classes))
      (proper-names program names) (list_all-map is_proper name_of builtin_classes ∙ own-proper)

  proper-at : (n : ℕ) (name : List ℕ) → slice_get (class_names program) n ≡ Some name → is_proper name ≡ true
  proper-at n name e = all-at is_proper (class_names program) n name all-proper e

  -- a class that is there has such a name
  pub proper-named : (name : List ℕ) (c : ClassListing) → class_named program name ≡ Some c → is_proper name ≡ true
  proper-named name c e =
      let class = number-of program name c e
      in proper-at class.number name (number-names program name class.number class.is)

  pub class_unbracketed : (n : ℕ) → is_bracketed (class_name program n) ≡ false
  class_unbracketed n = by (slice_get (class_names program) n) refl
    where
      by : (o : Option (List ℕ)) → slice_get (class_names program) n ≡ o → is_bracketed (name_or_none o) ≡ false
      by None e = refl
      by (Some name) e = proper-unbracketed name (proper-at n name e)

  -- ---- nothing but arrays is below an array

  parents-there : (c : ClassListing) (p : List ℕ) → has_missing_parent program c ≡ false → HasName (parents_of c) p
      → is_bracketed p ≡ false
  unfolding has_missing_parent
  parents-there c p none h = by (class_named program p) refl
    where
      by : (o : Option ClassListing) → class_named program p ≡ o → is_bracketed p ≡ false
      by None e =
          absurd (differ (any-has (λ name. is_none (class_named program name)) (parents_of c) p h
          (ap (λ (o : Option ClassListing). is_none o) e)) none)
      by (Some d) e = proper-unbracketed p (proper-named p d e)

  parents-plain : (name p : List ℕ) → HasName (parents_named program name) p → is_bracketed p ≡ false
  parents-plain name p h = by (listed program name) (builtin name) refl refl h
    where
      by : (o k : Option ClassListing) → listed program name ≡ o → builtin name ≡ k
          → HasName (parents_in (or_else o k)) p → is_bracketed p ≡ false
      by None None e f h = absurd h
      by None (Some c) e f h =
          not-true (is_bracketed p)
          (all-of (λ p. not (is_bracketed p)) (parents_of c) p
          (all-found (λ (c : ClassListing). list_all (λ p. not (is_bracketed p)) (parents_of c)) (is_named name)
          builtin_classes c own-parents f) h)
      by (Some c) k e f h =
          parents-there c p (none-fails (has_missing_parent program) (is_named name) program c hierarchy.0 e) h

  plain-above : {name above : List ℕ} → Subclass program name above → is_bracketed name ≡ false → is_bracketed above
      ≡ false
  plain-above same plain = plain
  plain-above (parent {name = name} {above = above} h) plain = parents-plain name above h
  plain-above (through middle p q) plain = plain-above q (plain-above p plain)

  no-array-above : (name above : List ℕ) → is_bracketed name ≡ false → is_bracketed above ≡ true
      → is_subclass program name above ≡ false
  no-array-above name above plain array =
      false_from_ne_true (is_subclass program name above)
      (λ e. differ array (plain-above (is_within-Subclass (length program + 23) program name above e) plain))

  -- nothing is above the empty name, which no class has
  nobody-named : class_named program [] ≡ None
  nobody-named = by (class_named program []) refl
    where
      by : (o : Option ClassListing) → class_named program [] ≡ o → o ≡ None
      by None e = refl
      by (Some c) e = let wrong : is_proper [] ≡ true = proper-named [] c e in cc

  alone : {name above : List ℕ} → Subclass program name above → name ≡ [] → above ≡ []
  alone same e = e
  alone (parent {name = name} {above = above} h) e =
      absurd (subst (λ (o : Option ClassListing). HasName (parents_in o) above) (ap (class_named program) e
      ∙ nobody-named) h)
  alone (through middle p q) e = alone q (alone p e)

  nothing-above : (above : List ℕ) → is_proper above ≡ true → is_subclass program [] above ≡ false
  nothing-above above proper =
      false_from_ne_true (is_subclass program [] above)
      (λ e.
      let none : above ≡ [] = alone (is_within-Subclass (length program + 23) program [] above e) refl in
      let wrong : is_proper [] ≡ true = subst (λ name. is_proper name ≡ true) none proper in
      absurd (differ wrong refl))

  -- ---- a type that is no array

  subtype-on : (n : ℕ) (name above : List ℕ) → is_subtype_within (suc n) program name above
      ≡ types_compare (is_subclass program name above) (bytes_eq above object)
      (λ n' m. is_subtype_within n program n' m) (element_of name) (element_of above)
  unfolding is_subtype_within
  subtype-on n name above = refl

  plain-subtype : (n : ℕ) (name above : List ℕ) → is_bracketed name ≡ false → 1 ≤ n
      → is_subtype_within n program name above ≡ is_subclass program name above
  plain-subtype zero name above plain some = absurd (omega (arith, some))
  plain-subtype (suc n) name above plain some =
      subtype-on n name above
      ∙ ap (λ o. types_compare (is_subclass program name above) (bytes_eq above object)
      (λ n' m. is_subtype_within n program n' m) o (element_of above)) (no_array name plain)

  pub plain-is : (name above : List ℕ) → is_bracketed name ≡ false → is_subtype program name above
      ≡ is_subclass program name above
  plain-is name above plain = plain-subtype (length name + 1) name above plain (omega arith)

  -- ---- classes by their numbers

  pub record IsListed (n : ℕ) : Type 0 where
    pub class : ClassListing
    pub there : slice_get (all_classes program) n ≡ Some class
    pub name : slice_get (class_names program) n ≡ Some (class_name program n)
    pub proper : is_proper (class_name program n) ≡ true
    pub named : class.name ≡ class_name program n

  pub listed-at : (n : ℕ) → n < length program + 23 → IsListed n
  listed-at n inside = by (slice_get (all_classes program) n) refl
    where
      by : (o : Option ClassListing) → slice_get (all_classes program) n ≡ o → IsListed n
      by None e =
          let none : slice_get (class_names program) n ≡ None = name-at program n
          ∙ ap (option_map (λ (c : ClassListing). c.name)) e in
          absurd (gone none)
        where
          gone : slice_get (class_names program) n ≡ None → ⊥
          gone none = past (class_names program) n (subst (λ (m : ℕ). n < m) (sym (names_count program)) inside) none
            where
              past : (xs : List (List ℕ)) (k : ℕ) → k < length xs → slice_get xs k ≡ None → ⊥
              past [] k inside none = omega (arith, inside)
              past (x ∷ xs) zero inside none = cc
              past (x ∷ xs) (suc k) inside none = past xs k (omega (arith, inside)) none
      by (Some c) e =
          let name : slice_get (class_names program) n ≡ Some c.name = name-at program n
          ∙ ap (option_map (λ (c : ClassListing). c.name)) e in
          let is : class_name program n ≡ c.name = ap name_or_none name in
          record {
            class = c;
            there = e;
            name = name ∙ ap (λ x. Some x) (sym is);
            proper = ap is_proper is ∙ proper-at n c.name name;
            named = sym is;
          }

  class_inside : (n : ℕ) → is_letter n ≡ false → is_element program n ≡ true → n < length program + 23
  class_inside n low there =
      ltb-true n (length program + 23)
      (ap (λ b. if b then is_number_letter (n - 32768) else nat_lt n (length program + 23)) (sym low) ∙ there)

  pub element-listed : (n : ℕ) → is_letter n ≡ false → is_element program n ≡ true → IsListed n
  element-listed n low there = listed-at n (class_inside n low there)

  -- letters are above all classes
  letter-past : (n : ℕ) → is_letter n ≡ true → length program + 23 ≤ n
  letter-past n high = omega (arith, few, leb-true 32768 n high)

  pub object-is : (n : ℕ) → is_letter n ≡ false → is_element program n ≡ true → bytes_eq (class_name program n) object
      ≡ (n == object_class program)
  object-is n low there =
      let class = element-listed n low there in
      once object (map name_of program) (drop 1 (map name_of builtin_classes)) n (class_name program n)
      (no-objects program hides) own-others
      (ap (λ more. slice_get (map name_of program ++ more) n) (sym own-first) ∙ class.name)
      ∙ ap (λ k. n == k) (length-map {A = ClassListing} {B = List ℕ} program name_of)

  -- ---- letters by their numbers

  pub numbered_letters : (P : ℕ → Type 0) → P 32834 → P 32835 → P 32851 → P 32841 → P 32842
      → (n : ℕ) → is_letter n ≡ true → is_element program n ≡ true → P n
  numbered_letters P b c s i j n high there =
      let letter : is_number_letter (n - 32768) ≡ true =
      ap (λ t. if t then is_number_letter (n - 32768) else nat_lt n (length program + 23)) (sym high) ∙ there in
      let whole : 32768 + (n - 32768) ≡ n = omega (arith, leb-true 32768 n high) in
      subst P whole (letters (λ k. P (32768 + k)) b c s i j (n - 32768) letter)

  -- ---- what arrays hold

  abbrev type_with : ℕ → ℕ → TypeNumber
  type_with dimensions element = record { dimensions = dimensions; element = element }

  abbrev word : ℕ → ℕ → List ℕ
  word dimensions element = type_name program (type_with dimensions element)

  abbrev array : ℕ → ℕ → List ℕ
  array dimensions element = 91 ∷ word dimensions element

  abbrev held_last : Bool → ℕ → Element
  held_last true element = Number (element % 256)
  held_last false element = Reference (class_name program element)

  abbrev held_in : ℕ → ℕ → Element
  held_in zero element = held_last (is_letter element) element
  held_in (suc n) element = Reference (array n element)

  pub word-holds : (n e : ℕ) → is_element program e ≡ true → described (word n e) ≡ Some (held_in n e)
  word-holds (suc n) e there = refl
  word-holds zero e there = by (is_letter e) refl
    where
      by : (b : Bool) → is_letter e ≡ b → described (if is_letter e then (e % 256) ∷ [] else 76 ∷ class_name program e
          ++ 59 ∷ []) ≡ Some (held_last (is_letter e) e)
      by true high =
          numbered_letters (λ e. described (if is_letter e then (e % 256) ∷ [] else 76 ∷ class_name program e
          ++ 59 ∷ []) ≡ Some (held_last (is_letter e) e))
          refl refl refl refl refl e high there
      by false low =
          ap (λ b. described (if b then (e % 256) ∷ [] else 76 ∷ class_name program e ++ 59 ∷ [])) low
          ∙ between program few (class_name program e)
          ∙ ap (λ b. Some (held_last b e)) (sym low)

  -- ---- an array below a class

  abbrev compared : ℕ → List ℕ → List ℕ → Option Element → Option Element → Bool
  compared n name above = types_compare (is_subclass program name above) (bytes_eq above object)
      (λ x y. is_subtype_within n program x y)

  array-on : (n d e : ℕ) (above : List ℕ) → is_element program e ≡ true
      → is_subtype_within (suc n) program (array d e) above ≡ compared n (array d e) above (Some (held_in d e))
      (element_of above)
  array-on n d e above there =
      subtype-on n (array d e) above ∙ ap (λ o. compared n (array d e) above o (element_of above))
      (word-holds d e there)

  below-class : (n d e c : ℕ) → is_element program e ≡ true → is_letter c ≡ false → is_element program c ≡ true → 1 ≤ n
      → is_subtype_within n program (array d e) (class_name program c) ≡ (c == object_class program)
  below-class zero d e c there low class some = absurd (omega (arith, some))
  below-class (suc n) d e c there low class some =
      array-on n d e (class_name program c) there
      ∙ ap (compared n (array d e) (class_name program c) (Some (held_in d e)))
      (no_array (class_name program c) (class_unbracketed c))
      ∙ object-is c low class

  -- ---- what arrays hold at last, compared

  past-above : (n above : ℕ) → length program + 23 ≤ above → is_subtype_in (class_tables program) n above ≡ false
  past-above n above past =
      ap (is_below above) (slice_get-map (class_facts program) (all_classes program) n)
      ∙ by (slice_get (all_classes program) n)
    where
      none-at : (f : List ℕ → Bool) (xs : List (List ℕ)) (k : ℕ) → length xs ≤ k → slice_index_or (map f xs) k false
          ≡ false
      none-at f [] k past = refl
      none-at f (x ∷ xs) zero past = absurd (omega (arith, past))
      none-at f (x ∷ xs) (suc k) past = none-at f xs k (omega (arith, past))

      by : (o : Option ClassListing) → is_below above (option_map (class_facts program) o) ≡ false
      by None = refl
      by (Some c) = none-at (is_subtype program c.name) (class_names program) above
          (subst (λ (m : ℕ). m ≤ above) (sym (names_count program)) past)

  abbrev last_compared : ℕ → ℕ → ℕ → Bool
  last_compared n e c = compared n (array 0 e) (array 0 c) (Some (held_last (is_letter e) e))
      (Some (held_last (is_letter c) c))

  last-is : (n e c : ℕ) → is_element program e ≡ true → is_element program c ≡ true → 1 ≤ n
      → last_compared n e c ≡ is_element_below program e c
  last-is n e c there other some = by (is_letter e) (is_letter c) refl refl
    where
      Held : Bool → Bool → Type 0
      Held b d =
          compared n (array 0 e) (array 0 c) (Some (held_last b e)) (Some (held_last d c))
          ≡ (if b then e == c else is_subtype_in (class_tables program) e c)

      letters-compared : is_letter e ≡ true → is_letter c ≡ true → (e % 256 == c % 256) ≡ (e == c)
      letters-compared high above =
          numbered_letters (λ e. (e % 256 == c % 256) ≡ (e == c))
          (numbered_letters (λ c. (32834 % 256 == c % 256) ≡ (32834 == c)) refl refl refl refl refl c above other)
          (numbered_letters (λ c. (32835 % 256 == c % 256) ≡ (32835 == c)) refl refl refl refl refl c above other)
          (numbered_letters (λ c. (32851 % 256 == c % 256) ≡ (32851 == c)) refl refl refl refl refl c above other)
          (numbered_letters (λ c. (32841 % 256 == c % 256) ≡ (32841 == c)) refl refl refl refl refl c above other)
          (numbered_letters (λ c. (32842 % 256 == c % 256) ≡ (32842 == c)) refl refl refl refl refl c above other)
          e high there

      here : (b d : Bool) → is_letter e ≡ b → is_letter c ≡ d → Held b d
      here true true high above = letters-compared high above
      here true false high low =
          sym (ne_eqb e c (λ same. omega (arith, letter-past e high, class_inside c low other, same)))
      here false true low above = sym (past-above e c (letter-past c above))
      here false false low less =
          let class = element-listed e low there in
          let over = element-listed c less other in
          plain-subtype n (class_name program e) (class_name program c) (class_unbracketed e) some
          ∙ sym (plain-is (class_name program e) (class_name program c) (class_unbracketed e))
          ∙ ap (λ name. is_subtype program name (class_name program c)) (sym class.named)
          ∙ sym (subtype-names program e c class.class (class_name program c) class.there over.name)

      by : (b d : Bool) → is_letter e ≡ b → is_letter c ≡ d → last_compared n e c ≡ is_element_below program e c
      by b d is other_is =
          ap (λ b. compared n (array 0 e) (array 0 c) (Some (held_last b e)) (Some (held_last (is_letter c) c))) is
          ∙ ap (λ d. compared n (array 0 e) (array 0 c) (Some (held_last b e)) (Some (held_last d c))) other_is
          ∙ here b d is other_is
          ∙ ap (λ b. if b then e == c else is_subtype_in (class_tables program) e c) (sym is)

  -- ---- an array below an array

  abbrev is_below_by : ℕ → ℕ → ℕ → ℕ → Bool
  is_below_by d e above c = is_array_below program (type_with d e) (type_with above c)

  fewer : (d e above c : ℕ) → above ≤ d → is_below_by d e above c ≡ (c == object_class program)
  fewer d e above c le =
      ap (λ b. if b then c == object_class program else (above == d + 1 && is_element_below program e c))
      (le-leb above d le)

  more : (d e above c : ℕ) → d + 1 < above → is_below_by d e above c ≡ false
  more d e above c less =
      ap (λ b. if b then c == object_class program else (above == d + 1 && is_element_below program e c))
      (lt-leb above d (omega (arith, less)))
      ∙ ap (λ b. b && is_element_below program e c) (ne_eqb above (d + 1) (λ same. omega (arith, less, same)))

  shift : (d e above c : ℕ) → is_below_by d e above c ≡ is_below_by (suc d) e (suc above) c
  shift d e above c =
      let one : suc d + 1 ≡ suc (d + 1) = omega arith in
      ap (λ b. if b then c == object_class program else (above == d + 1 && is_element_below program e c))
      (sym (leb-suc above d))
      ∙ ap (λ b. if nat_le (suc above) (suc d) then c == object_class program else (b && is_element_below program e c))
      (sym (eqb-suc above (d + 1)) ∙ ap (λ k. suc above == k) (sym one))

  not_object : (c : ℕ) → is_letter c ≡ true → (c == object_class program) ≡ false
  not_object c high = ne_eqb c (length program) (λ same. omega (arith, letter-past c high, same))

  array-below : (d n e above c : ℕ) → d + 2 ≤ n → is_element program e ≡ true → is_element program c ≡ true
      → is_subtype_within n program (array d e) (array above c) ≡ is_below_by d e (suc above) c
  array-below d zero e above c steps there other = absurd (omega (arith, steps))
  array-below d (suc n) e above c steps there other =
      array-on n d e (array above c) there
      ∙ ap (compared n (array d e) (array above c) (Some (held_in d e))) (word-holds above c other)
      ∙ by d above (omega (arith, steps)) (λ d above steps. array-below d n e above c steps there other)
    where
      Smaller : Type 0
      Smaller = (d above : ℕ) → d + 2 ≤ n → is_subtype_within n program (array d e) (array above c)
          ≡ is_below_by d e (suc above) c

      by : (d above : ℕ) → d + 1 ≤ n → Smaller
          → compared n (array d e) (array above c) (Some (held_in d e)) (Some (held_in above c))
          ≡ is_below_by d e (suc above) c
      by zero zero steps rest = last-is n e c there other (omega (arith, steps))
      by zero (suc above) steps rest = last (is_letter e) refl ∙ sym (more 0 e (suc (suc above)) c (omega arith))
        where
          last : (b : Bool) → is_letter e ≡ b
              → compared n (array 0 e) (array (suc above) c) (Some (held_last (is_letter e) e))
              (Some (Reference (array above c))) ≡ false
          last true high = ap (λ b. compared n (array 0 e) (array (suc above) c) (Some (held_last b e))
              (Some (Reference (array above c)))) high
          last false low =
              ap (λ b. compared n (array 0 e) (array (suc above) c) (Some (held_last b e))
              (Some (Reference (array above c)))) low
              ∙ plain-subtype n (class_name program e) (array above c) (class_unbracketed e) (omega (arith, steps))
              ∙ no-array-above (class_name program e) (array above c) (class_unbracketed e) refl
      by (suc d) zero steps rest = last (is_letter c) refl ∙ sym (fewer (suc d) e 1 c (omega arith))
        where
          last : (b : Bool) → is_letter c ≡ b
              → compared n (array (suc d) e) (array 0 c) (Some (Reference (array d e)))
              (Some (held_last (is_letter c) c)) ≡ (c == object_class program)
          last true high =
              ap (λ b. compared n (array (suc d) e) (array 0 c) (Some (Reference (array d e))) (Some (held_last b c)))
              high ∙ sym (not_object c high)
          last false low =
              ap (λ b. compared n (array (suc d) e) (array 0 c) (Some (Reference (array d e))) (Some (held_last b c)))
              low
              ∙ below-class n d e c there low other (omega (arith, steps))
      by (suc d) (suc above) steps rest = rest d above (omega (arith, steps)) ∙ shift d e (suc above) c

  -- ---- what an object is of

  -- the class of what isn't there is empty
  pub nobody-below : (name : List ℕ) (type : TypeNumber)
      → (IsClass program few name type) ⊎ (IsArray program few name type)
      → is_subtype program [] name ≡ false
  nobody-below name type (inl c) =
      plain-is [] name refl ∙ nothing-above name (proper-at type.element name c.named)
  nobody-below name type (inr a) =
      plain-is [] name refl ∙ no-array-above [] name refl (ap is_bracketed a.named)

  abbrev Named : List ℕ → TypeNumber → Type 0
  Named name type = (IsClass program few name type) ⊎ (IsArray program few name type)

  pub instance-below : (k : ℕ) (name : List ℕ) (type : TypeNumber) → Named name type
      → is_subtype program (class_name program k) name ≡ is_kind_of program (Instance k) type
  instance-below k name type (inl c) =
      by (slice_get (all_classes program) k) refl
      ∙ ap (λ d. d == 0 && is_subtype_in (class_tables program) k type.element) (sym c.plain)
    where
      by : (o : Option ClassListing) → slice_get (all_classes program) k ≡ o
          → is_subtype program (class_name program k) name ≡ is_subtype_in (class_tables program) k type.element
      by None e =
          let none : class_name program k
          ≡ [] = ap name_or_none (name-at program k ∙ ap (option_map (λ (c : ClassListing). c.name)) e) in
          ap (λ x. is_subtype program x name) none ∙ nobody-below name type (inl c)
          ∙ sym (ap (is_below type.element) (slice_get-map (class_facts program) (all_classes program) k
          ∙ ap (option_map (class_facts program)) e))
      by (Some d) e =
          let is : class_name program k ≡ d.name = ap name_or_none (name-at program k
          ∙ ap (option_map (λ (c : ClassListing). c.name)) e) in
          ap (λ x. is_subtype program x name) is ∙ sym (subtype-names program k type.element d name e c.named)
  instance-below k name type (inr a) =
      plain-is (class_name program k) name (class_unbracketed k)
      ∙ no-array-above (class_name program k) name (class_unbracketed k) (ap is_bracketed a.named)
      ∙ sym (ap (λ b. b && is_subtype_in (class_tables program) k type.element)
      (ne_eqb type.dimensions 0 (λ same. omega (arith, same, a.dimensions))))

  long : (d e : ℕ) → d + 2 ≤ length (array d e) + 1
  long d e =
      let brackets : List ℕ = replicate d 91 in
      let whole : length (brackets ++ last_element program e) ≡ length brackets + length (last_element program e) =
      length-append brackets (last_element program e) in
      let front : length brackets ≡ d = length-replicate {A = ℕ} d 91 in
      omega (arith, whole, front)

  pub array-kind : (type : TypeNumber) (name : List ℕ) (above : TypeNumber) → is_element program type.element ≡ true
      → is_element program above.element ≡ true → Named name above
      → is_subtype program (array type.dimensions type.element) name ≡ is_array_below program type above
  array-kind type name above there other (inl c) =
      let is : class_name program above.element ≡ name = ap name_or_none c.named in
      ap (λ x. is_subtype program (array type.dimensions type.element) x) (sym is)
      ∙ below-class (length (array type.dimensions type.element) + 1) type.dimensions type.element above.element there
      c.low other (omega arith)
      ∙ sym (fewer type.dimensions type.element above.dimensions above.element (omega (arith, c.plain)))
  array-kind type name above there other (inr a) =
      ap (λ x. is_subtype program (array type.dimensions type.element) x) a.named
      ∙ array-below type.dimensions (length (array type.dimensions type.element) + 1) type.element a.inner above.element
      (long type.dimensions type.element) there other
      ∙ ap (λ d. is_below_by type.dimensions type.element d above.element) (sym a.dimensions)
