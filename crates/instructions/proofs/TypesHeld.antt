-- What a world says of the types of its objects, by the heap's numbers.
use Rattle.std.proofs.Common.{◌≡◌, ◌⊎◌, inl, inr, ◌≤◌, ◌+◌, ◌%◌, ℕ, ℤ, pos, negsuc, zero, suc, List, [], ◌&&◌, ◌||◌}
use Rattle.std.proofs.Common.{◌==◌, Bool, true, false, not, length, slice_get, Option, Some, None, refl, sym, ap, subst}
use Rattle.std.proofs.Common.{arith, ◌∙◌}
use Rattle.std.specs.Option.{option_map}
use Rattle.std.proofs.lemmas.Bool.{leb-false, ne_eqb}
use Rattle.model.specs.declared.instructions.ElementKind.{ElementKind}
use Rattle.model.specs.declared.instructions.ElementKind.TheVariants.{Int as IntElement, Long as LongElement}
use Rattle.model.specs.declared.instructions.ElementKind.TheVariants.{Ref as RefElement, Byte as ByteElement}
use Rattle.model.specs.declared.instructions.ElementKind.TheVariants.{Char as CharElement, Short as ShortElement}
use Rattle.model.specs.declared.values.Value.{Value}
use Rattle.model.specs.Accepted.Refusals.{refusal_of}
use Rattle.model.specs.ClassListings.{ClassListing}
use Rattle.model.specs.Classes.Types.{Element, described, dimensions, is_subtype}
use Rattle.model.specs.Classes.Types.Element.{Number, Reference}
use Rattle.model.specs.Objects.{class_at, class_if, class_of, object_at}
use Rattle.model.specs.Table.Arrays.{element_in, element_place, has_elements, if_array, index_in, indexed, is_array_of}
use Rattle.model.specs.Table.Arrays.{is_element_of, letter_for}
use Rattle.model.specs.Words.{contents_at, contents_if}
use Rattle.model.specs.Worlds.{Object, World}
use Rattle.join.specs.OnCells.{nobody}
use Rattle.linking.specs.declared.operations.TypeNumber.{TypeNumber}
use Rattle.linking.proofs.RunLemmas.{accepted_runs, hierarchy as accepted_hierarchy, none_hides}
use Rattle.cells.specs.Objects.{StoredObject, object_if, words_if}
use Rattle.instructions.specs.declared.kinds.Kind.{Kind}
use Rattle.instructions.specs.declared.kinds.Kind.TheVariants.{Instance, Array}
use Rattle.instructions.specs.ByNumbers.{AreStored, HoldsStored, IsStored}
use Rattle.instructions.specs.Heaps.{HeapValue, held, kind_held}
use Rattle.instructions.specs.Shown.{class_name, contents_shown, object_shown, objects_shown, type_name}
use Rattle.instructions.specs.TypeNumbers.{holds, holds_references, is_array_of_kind, is_element, is_kind_of, is_letter}
use Rattle.instructions.specs.TypeNumbers.{is_object_of, takes_object}
use Rattle.instructions.specs.TypesByNumbers.{index_within, place_of_element}
use Rattle.instructions.proofs.HeldLemmas.{object-shown}
use Rattle.instructions.proofs.StoredLemmas.{held-stored}
use Rattle.instructions.proofs.TypeNames.{IsArray, IsClass}
use Rattle.instructions.proofs.TypeOrder.{AreClassNames, array-kind, class_unbracketed, element-listed, instance-below}
use Rattle.instructions.proofs.TypeOrder.{nobody-below, numbered_letters, word-holds}

module _ (program : List ClassListing) (accepted : refusal_of program ≡ None) (names : AreClassNames program) where
  pub few : length program ≤ 256
  few = (accepted_runs program accepted).few

  abbrev pub type_with : ℕ → ℕ → TypeNumber
  type_with dimensions element = record { dimensions = dimensions; element = element }

  letters-hold : (P : ℕ → Type 0) → P 32834 → P 32835 → P 32851 → P 32841 → P 32842
      → (n : ℕ) → is_letter n ≡ true → is_element program n ≡ true → P n
  letters-hold = numbered_letters program few names (accepted_hierarchy program accepted) (none_hides program accepted)

  -- ---- what arrays hold

  abbrev held_last : Bool → ℕ → Element
  held_last true element = Number (element % 256)
  held_last false element = Reference (class_name program element)

  abbrev HoldsLast : ElementKind → ℕ → Type 0
  HoldsLast kind e = has_elements (letter_for kind) (Some (held_last (is_letter e) e)) ≡ holds kind (type_with 0 e)

  -- letters are told apart by their numbers
  letter-holds : (kind : ElementKind) (e : ℕ) → is_letter e ≡ true → is_element program e ≡ true → HoldsLast kind e
  letter-holds IntElement = letters-hold (HoldsLast IntElement) refl refl refl refl refl
  letter-holds LongElement = letters-hold (HoldsLast LongElement) refl refl refl refl refl
  letter-holds RefElement = letters-hold (HoldsLast RefElement) refl refl refl refl refl
  letter-holds ByteElement = letters-hold (HoldsLast ByteElement) refl refl refl refl refl
  letter-holds CharElement = letters-hold (HoldsLast CharElement) refl refl refl refl refl
  letter-holds ShortElement = letters-hold (HoldsLast ShortElement) refl refl refl refl refl

  -- an array of objects or arrays
  refers : (kind : ElementKind) (name : List ℕ) (type : TypeNumber) → (type.dimensions == 0 && is_letter type.element)
      ≡ false
      → ((letter : ℕ) → (type.dimensions == 0 && type.element == 32768 + letter) ≡ false)
      → has_elements (letter_for kind) (Some (Reference name)) ≡ holds kind type
  refers IntElement name type none other = sym (other 73)
  refers LongElement name type none other = sym (other 74)
  refers RefElement name type none other = sym (ap not none)
  refers ByteElement name type none other = sym (other 66)
  refers CharElement name type none other = sym (other 67)
  refers ShortElement name type none other = sym (other 83)

  nested : (d e : ℕ) (b : Bool) → (suc d == 0 && b) ≡ false
  nested d e b = ap (λ c. c && b) (ne_eqb (suc d) 0 (λ same. omega (arith, same)))

  holds-is : (kind : ElementKind) (d e : ℕ) → is_element program e ≡ true
      → has_elements (letter_for kind) (described (type_name program (type_with d e))) ≡ holds kind (type_with d e)
  holds-is kind (suc d) e there =
      refers kind (type_name program (type_with (suc d) e)) (type_with (suc d) e) (nested d e (is_letter e))
      (λ letter. nested d e (e == 32768 + letter))
  holds-is kind zero e there =
      ap (has_elements (letter_for kind)) (word-holds program few names (accepted_hierarchy program accepted)
      (none_hides program accepted) 0 e there)
      ∙ by (is_letter e) refl
    where
      by : (b : Bool) → is_letter e ≡ b → HoldsLast kind e
      by true high = letter-holds kind e high there
      by false low =
          ap (λ b. has_elements (letter_for kind) (Some (held_last b e))) low
          ∙ refers kind (class_name program e) (type_with 0 e) low
          (λ letter. ne_eqb e (32768 + letter) (λ same. omega (arith, same, leb-false 32768 e low)))

  -- ---- what an object is of

  abbrev pub Named : List ℕ → TypeNumber → Type 0
  Named name type = (IsClass program few name type) ⊎ (IsArray program few name type)

  kind-of : (kind : Kind) (words : List Value) (name : List ℕ) (type : TypeNumber) → IsStored program kind words
      → is_element program type.element ≡ true → Named name type
      → is_subtype program (class_of (contents_shown program kind words)) name ≡ is_kind_of program kind type
  kind-of (Instance class) words name type stored there named =
      instance-below program few names (accepted_hierarchy program accepted) (none_hides program accepted) class name
      type named
  kind-of (Array element) words name type stored there named =
      array-kind program few names (accepted_hierarchy program accepted) (none_hides program accepted) element name type
      stored there named

  none-of : (name : List ℕ) (type : TypeNumber) → Named name type → is_subtype program [] name ≡ false
  none-of name type named = nobody-below program few names (accepted_hierarchy program accepted)
      (none_hides program accepted) name type named

  -- ---- the objects of a world that the heap shows

  module _ (h : HeapValue) (w : World) (shown : w.objects ≡ objects_shown program h.objects)
      (stored : AreStored program h.objects) where
    -- what holds of none, of nobody and of each stored object
    pub at-birth : (P : Option Object → Option (StoredObject Kind) → Type 0) → P None None → P (Some nobody) None
        → ((o : StoredObject Kind) → IsStored program o.kind o.words
        → P (Some (object_shown program (Some o))) (Some o))
        → (birth : ℕ) → P (object_at w birth) (held h birth)
    at-birth P none nobody some zero = subst (λ objects. P (slice_get objects 0) None) (sym shown) nobody
    at-birth P none nobody some (suc cell) =
        subst (λ o. P o (held h (suc cell))) (sym (object-shown program h w shown cell))
        (by (slice_get h.objects cell) (held-stored program h.objects cell stored))
      where
        by : (o : Option (Option (StoredObject Kind))) → HoldsStored program (object_if o)
            → P (option_map (object_shown program) o) (object_if o)
        by None fits = none
        by (Some None) fits = nobody
        by (Some (Some o)) fits = some o fits

    pub object-of : (birth : ℕ) (name : List ℕ) (type : TypeNumber) → is_element program type.element ≡ true
        → Named name type
        → is_subtype program (class_at w birth) name ≡ is_object_of program (held h birth) type
    object-of birth name type there named =
        at-birth (λ x o. is_subtype program (class_if x) name ≡ is_object_of program o type) (none-of name type named)
        (none-of name type named) (λ o fits. kind-of o.kind o.words name type fits there named) birth

    -- ---- which objects an array takes

    taken : (class : List ℕ) (o : Option (StoredObject Kind)) (d e : ℕ) → is_element program e ≡ true
        → ((name : List ℕ) → Named name (type_with d e) → is_subtype program class name
        ≡ is_object_of program o (type_with d e))
        → is_element_of program class (described (type_name program (type_with d e)))
        ≡ (not (holds_references (type_with d e)) || is_object_of program o (type_with d e))
    taken class o (suc d) e there of =
        of (type_name program (type_with (suc d) e)) (inr (record { inner = d; dimensions = refl; named = refl }))
        ∙ ap (λ b. not (not b) || is_object_of program o (type_with (suc d) e)) (sym (nested d e (is_letter e)))
    taken class o zero e there of =
        ap (is_element_of program class) (word-holds program few names (accepted_hierarchy program accepted)
        (none_hides program accepted) 0 e there)
        ∙ by (is_letter e) refl
      where
        by : (b : Bool) → is_letter e ≡ b
            → is_element_of program class (Some (held_last (is_letter e) e))
            ≡ (not (not (is_letter e)) || is_object_of program o (type_with 0 e))
        by true high =
            ap (λ b. is_element_of program class (Some (held_last b e))) high
            ∙ ap (λ b. not (not b) || is_object_of program o (type_with 0 e)) (sym high)
        by false low =
            let class_of = element-listed program few names (accepted_hierarchy program accepted)
            (none_hides program accepted) e low there in
            ap (λ b. is_element_of program class (Some (held_last b e))) low
            ∙ of (class_name program e) (inl (record {
              plain = refl;
              low = low;
              named = class_of.name;
              unbracketed = class_unbracketed program few names (accepted_hierarchy program accepted)
                  (none_hides program accepted) e;
            }))
            ∙ ap (λ b. not (not b) || is_object_of program o (type_with 0 e)) (sym low)

    abbrev pub kind_if : Option (StoredObject Kind) → Option Kind
    kind_if o = option_map (λ (o : StoredObject Kind). o.kind) o

    pub takes-is : (value : ℕ) (birth : ℕ)
        → is_element_of program (class_at w value) (element_in (contents_at w birth))
        ≡ takes_object program (kind_held h birth) (held h value)
    takes-is value birth =
        at-birth (λ x o. is_element_of program (class_at w value) (element_in (contents_if x))
        ≡ takes_object program (kind_if o) (held h value))
        refl refl (λ o fits. by o.kind o.words fits) birth
      where
        by : (kind : Kind) (words : List Value) → IsStored program kind words
            → is_element_of program (class_at w value) (element_in (contents_shown program kind words))
            ≡ takes_object program (Some kind) (held h value)
        by (Instance class) words fits = refl
        by (Array type) words fits =
            taken (class_at w value) (held h value) type.dimensions type.element fits
            (λ name named. object-of value name type fits named)

    -- ---- the place of an element

    index-is : (type : TypeNumber) (words : List Value) (z : ℤ) → index_in z (contents_shown program (Array type) words)
        ≡ index_within z (length words)
    index-is type words (pos n) = refl
    index-is type words (negsuc n) = refl

    pub place-is : (kind : ElementKind) (z : ℤ) (o : Option ℕ) → element_place w kind z o ≡ place_of_element h kind z o
    place-is kind z None = refl
    place-is kind z (Some birth) =
        at-birth (λ x o. if_array (is_array_of kind (contents_if x)) (indexed birth (index_in z (contents_if x)))
        ≡ if_array (is_array_of_kind kind (kind_if o)) (indexed birth (index_within z (length (words_if o)))))
        refl refl (λ o fits. by o.kind o.words fits) birth
      where
        by : (k : Kind) (words : List Value) → IsStored program k words
            → if_array (is_array_of kind (contents_shown program k words))
            (indexed birth (index_in z (contents_shown program k words)))
            ≡ if_array (is_array_of_kind kind (Some k)) (indexed birth (index_within z (length words)))
        by (Instance class) words fits = refl
        by (Array type) words fits =
            ap (λ i. if_array (has_elements (letter_for kind) (described (type_name program type))) (indexed birth i))
            (index-is type words z)
            ∙ ap (λ b. if_array b (indexed birth (index_within z (length words))))
            (holds-is kind type.dimensions type.element fits)
