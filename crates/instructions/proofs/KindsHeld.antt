-- The class of what a heap holds, by its number: whether it is of a class named, and that nobody is of any.
use Rattle.std.proofs.Common.{◌≡◌, ℕ, zero, suc, ◌+◌, List, [], ◌∷◌, ◌++◌, ◌-◌, length, map, replicate, take, Bool}
use Rattle.std.proofs.Common.{true, false, cond, ◌==◌, Option, Some, None, refl, sym, ap, arith, ◌∙◌}
use Rattle.std.specs.Prelude.{codes, is_some, nat_le, slice_get, ◌%◌}
use Rattle.std.specs.List.{find, position}
use Rattle.std.specs.Option.{option_map}
use Rattle.std.specs.Str.{bytes_eq}
use Rattle.std.proofs.lemmas.Bool.Decides.{Decides-eqb}
use Rattle.std.proofs.lemmas.Option.{slice_get-map}
use Rattle.std.proofs.lemmas.Slice.Eq.{bytes_eq-Decides}
use Rattle.model.specs.Accepted.BuiltinNames.{has_builtin_name}
use Rattle.model.specs.ClassListings.{ClassListing}
use Rattle.model.specs.Classes.Builtin.{builtin_classes}
use Rattle.model.specs.Classes.Named.{builtin, class_named, or_else}
use Rattle.model.specs.Classes.Subclasses.{is_within}
use Rattle.model.specs.Classes.Types.Element.{Number, Reference}
use Rattle.model.specs.Classes.Types.{Element, described, element_of, is_subtype, is_subtype_within}
use Rattle.model.specs.Objects.{class_at, class_if}
use Rattle.model.specs.Worlds.{World}
use Rattle.resolve.specs.Hierarchies.{IsHierarchy}
use Rattle.resolve.specs.Numbers.{all_classes, class_names, class_number, name_of}
use Rattle.linking.specs.declared.operations.TypeNumber.{TypeNumber}
use Rattle.linking.specs.ClassTables.{class_facts, class_tables, is_below, is_subtype_in}
use Rattle.linking.proofs.ClassTableLemmas.{name-at, subtype-names}
use Rattle.cells.specs.Objects.{StoredObject, object_if}
use Rattle.instructions.specs.declared.kinds.Kind.{Kind}
use Rattle.instructions.specs.declared.kinds.Kind.TheVariants.{Instance, Array}
use Rattle.instructions.specs.CallsByNumbers.{is_kind_of}
use Rattle.instructions.specs.Heaps.{HeapValue, kind_held}
use Rattle.instructions.specs.Shown.{class_name, kind_name, kind_name_if, last_element, name_or_none, object_shown}
use Rattle.instructions.specs.Shown.{objects_shown, type_name}
use Rattle.resolve.proofs.NumberLemmas.{number-own, place_after}
use Rattle.instructions.proofs.ByNumberLemmas.{HasNumber, name-some, number-names, number-of}
use Rattle.instructions.proofs.ListPlaces.{Each, first_nowhere}
use Rattle.instructions.proofs.Upwards.{nameless}

-- ---- the class that a world shows

pub class_held : (program : List ClassListing) (h : HeapValue) (w : World) → w.objects ≡ objects_shown program h.objects
    → (birth : ℕ) → class_at w birth ≡ kind_name_if program (kind_held h birth)
class_held program h w shown zero = ap (λ objects. class_if (slice_get objects 0)) shown
class_held program h w shown (suc cell) =
    ap (λ objects. class_if (slice_get objects (suc cell))) shown
    ∙ ap class_if (slice_get-map (object_shown program) h.objects cell) ∙ by (slice_get h.objects cell)
  where
    of_kind : (object : StoredObject Kind) (kind : Kind)
        → class_if (Some (object_shown program (Some (record object { kind = kind })))) ≡ kind_name program kind
    of_kind object (Instance class) = refl
    of_kind object (Array type) = refl

    by : (o : Option (Option (StoredObject Kind)))
        → class_if (option_map (object_shown program) o) ≡ kind_name_if program (option_map (λ o. o.kind) (object_if o))
    by None = refl
    by (Some None) = refl
    by (Some (Some object)) = of_kind object object.kind

-- ---- the class without a name

own-nameless : builtin [] ≡ None
unfolding builtin_classes
own-nameless = refl

same-bool : (a b : Bool) → (a ≡ true → b ≡ true) → (b ≡ true → a ≡ true) → a ≡ b
same-bool true b f g = sym (f refl)
same-bool false true f g = g refl
same-bool false false f g = refl

one : {A : Type 0} (x y : A) → Some x ≡ Some y → x ≡ y
one x y e = cc

refuted : (b : Bool) → (b ≡ true → ⊥) → b ≡ false
refuted true h = absurd (h refl)
refuted false h = refl

nonempty : (b : ℕ) (bs : List ℕ) → bytes_eq [] (b ∷ bs) ≡ false
nonempty b bs = refl

-- a type that is no class is one of Object alone among classes
described-some : (b : ℕ) (bs : List ℕ) → (e : Element) × (described (b ∷ bs) ≡ Some e)
described-some b bs = by (b == 76) refl (b == 91) refl
  where
    by : (x : Bool) → (b == 76) ≡ x → (y : Bool) → (b == 91) ≡ y → (e : Element) × (described (b ∷ bs) ≡ Some e)
    by true h y k = (Reference (take (length bs - 1) bs), rw h refl)
    by false h true k = (Reference (b ∷ bs), rw (h, k) refl)
    by false h false k = (Number b, rw (h, k) refl)

type-some : (program : List ClassListing) (type : TypeNumber) → (b : ℕ) × (bs : List ℕ)
    × (type_name program type ≡ b ∷ bs)
type-some program type = by type.dimensions
  where
    last : (x : Bool) → nat_le 32768 type.element ≡ x → (b : ℕ) × (bs : List ℕ)
        × (last_element program type.element ≡ b ∷ bs)
    last true e = (type.element % 256, [], rw e refl)
    last false e = (76, class_name program type.element ++ 59 ∷ [], rw e refl)

    by : (n : ℕ) → (b : ℕ) × (bs : List ℕ) × (replicate n 91 ++ last_element program type.element ≡ b ∷ bs)
    by zero = last (nat_le 32768 type.element) refl
    by (suc n) = (91, replicate n 91 ++ last_element program type.element, refl)

object-own : is_some (builtin (codes "java/lang/Object")) ≡ true
unfolding builtin_classes
object-own = refl

object-first : position (bytes_eq (codes "java/lang/Object")) (map name_of builtin_classes) ≡ Some 0
unfolding builtin_classes
object-first = refl

module _ (program : List ClassListing) (hierarchy : IsHierarchy program) (hides : find has_builtin_name program ≡ None)
    (above : List ℕ) (c : ClassListing) (named : class_named program above ≡ Some c) where
  unnamed : class_named program [] ≡ None
  unnamed = ap (λ o. or_else o (builtin [])) (nameless program hierarchy hides) ∙ own-nameless

  is_something : bytes_eq [] above ≡ false
  is_something =
      refuted (bytes_eq [] above)
      (λ e. let is : [] ≡ above = (bytes_eq-Decides [] above).0 e in
      let none : None ≡ Some c = sym unnamed ∙ ap (class_named program) is ∙ named in absurd (cc))

  within-none : (n : ℕ) → is_within (suc n) program [] above ≡ false
  unfolding is_within
  within-none n = rw (is_something, unnamed) refl

  -- nobody is of a class that is there
  pub nobody-below : is_subtype program [] above ≡ false
  unfolding is_subtype_within
  nobody-below =
      let more : length program + 23 ≡ suc (length program + 22) = omega arith in
      ap (λ n. is_within n program [] above) more ∙ within-none (length program + 22)

  -- ---- the class of a number

  pub class : HasNumber program above
  class = number-of program above c named

  instance-below : (k : ℕ) → is_subtype program (class_name program k) above
      ≡ is_subtype_in (class_tables program) k class.number
  instance-below k = by (slice_get (all_classes program) k) refl
    where
      by : (o : Option ClassListing) → slice_get (all_classes program) k ≡ o
          → is_subtype program (class_name program k) above ≡ is_subtype_in (class_tables program) k class.number
      by None e =
          let name : class_name program k
          ≡ [] = ap name_or_none (name-at program k ∙ ap (option_map (λ (c : ClassListing). c.name)) e) in
          ap (λ n. is_subtype program n above) name ∙ nobody-below
          ∙ sym (ap (is_below class.number) (slice_get-map (class_facts program) (all_classes program) k
          ∙ ap (option_map (class_facts program)) e))
      by (Some d) e =
          ap (λ n. is_subtype program n above) (name-some program k d e)
          ∙ sym (subtype-names program k class.number d above e (number-names program above class.number class.is))

  -- ---- arrays

  each-other : (cs : List ClassListing) → find has_builtin_name cs ≡ None
      → Each (λ (n : List ℕ). bytes_eq (codes "java/lang/Object") n ≡ false) (map name_of cs)
  unfolding has_builtin_name
  each-other [] none = tt
  each-other (d ∷ ds) none = (
    refuted (bytes_eq (codes "java/lang/Object") d.name)
        (λ e. own-differs d (by (is_some (builtin d.name)) none) ((bytes_eq-Decides (codes "java/lang/Object") d.name).0
        e)),
    each-other ds (rest (is_some (builtin d.name)) none),
  )
    where
      own-differs : (d : ClassListing) → is_some (builtin d.name) ≡ false → codes "java/lang/Object" ≡ d.name → ⊥
      own-differs d none is =
          let some : is_some (builtin d.name) ≡ true = ap (λ n. is_some (builtin n)) (sym is) ∙ object-own in cc

      by : (b : Bool) → cond b (Some d) (find has_builtin_name ds) ≡ None → b ≡ false
      by true e = cc
      by false e = refl

      rest : (b : Bool) → cond b (Some d) (find has_builtin_name ds) ≡ None → find has_builtin_name ds ≡ None
      rest true e = cc
      rest false e = e

  object-number : class_number program (codes "java/lang/Object") ≡ Some (length program + 0)
  object-number =
      sym (number-own program (codes "java/lang/Object")
      (sym (first_nowhere (bytes_eq (codes "java/lang/Object")) (map name_of program) (each-other program hides))))
      ∙ ap (place_after (length program)) object-first

  pub array-object : bytes_eq above (codes "java/lang/Object") ≡ (class.number == length program)
  array-object =
      same-bool (bytes_eq above (codes "java/lang/Object")) (class.number == length program)
      (λ e. (Decides-eqb class.number (length program)).1
      (let same = one class.number (length program + 0)
      (sym class.is ∙ ap (class_number program) ((bytes_eq-Decides above (codes "java/lang/Object")).0 e)
      ∙ object-number) in
      omega (arith, same)))
      (λ e. (bytes_eq-Decides above (codes "java/lang/Object")).1
      (one above (codes "java/lang/Object")
      (let at : class.number ≡ length program + 0 = more ((Decides-eqb class.number (length program)).0 e) in
      sym (number-names program above class.number class.is) ∙ ap (slice_get (class_names program)) at
      ∙ number-names program (codes "java/lang/Object") (length program + 0) object-number)))
    where
      more : class.number ≡ length program → class.number ≡ length program + 0
      more e = omega (arith, e)

  array-of : (e : Element) (t : List ℕ) → described t ≡ Some e → element_of above ≡ None
      → is_subtype program (91 ∷ t) above ≡ bytes_eq above (codes "java/lang/Object")
  unfolding is_subtype_within
  array-of e t is plain =
      let more : length (91 ∷ t) + 1 ≡ suc (length t + 1) = omega arith in
      rw (more, is, plain) refl

  array-below : (type : TypeNumber) → element_of above ≡ None
      → is_subtype program (91 ∷ type_name program type) above ≡ (class.number == length program)
  array-below type plain =
      let some = type-some program type in
      ap (λ t. is_subtype program (91 ∷ t) above) some.2
      ∙ (let e = described-some some.0 some.1 in array-of e.0 (some.0 ∷ some.1) e.1 plain) ∙ array-object

  pub kind-below : element_of above ≡ None → (kind : Kind)
      → is_subtype program (kind_name program kind) above ≡ is_kind_of program kind class.number
  kind-below plain (Instance k) = instance-below k
  kind-below plain (Array type) = array-below type plain
