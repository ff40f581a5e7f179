-- Operations on arrays, and tests of types, by numbers are what the instruction table says by names.
use Rattle.std.proofs.Common.{◌≡◌, ◌⊎◌, ◌≤◌, ℕ, ℤ, zero, suc, List, [], ◌∷◌, ◌==◌, Bool, true, false, cond, drop}
use Rattle.std.proofs.Common.{length, slice_get, Option, Some, None, Result, Ok, Err, refl, sym, ap, subst, ◌∙◌}
use Rattle.std.specs.Prelude.{nat_lt}
use Rattle.std.specs.List.{list_all}
use Rattle.std.specs.Option.{option_and_then}
use Rattle.std.proofs.lemmas.Bool.{and_parts}
use Rattle.model.specs.declared.instructions.ArrayOperation.{ArrayOperation}
use Rattle.model.specs.declared.instructions.ArrayOperation.TheVariants.{New as NewArray, NewOf, Length, Load, Store}
use Rattle.model.specs.declared.instructions.ClassOperation.TheVariants.{New as NewObject, CheckCast, InstanceOf}
use Rattle.model.specs.declared.instructions.ElementKind.{ElementKind}
use Rattle.model.specs.declared.instructions.ElementKind.TheVariants.{Int as IntElement, Long as LongElement}
use Rattle.model.specs.declared.instructions.ElementKind.TheVariants.{Ref as RefElement, Byte as ByteElement}
use Rattle.model.specs.declared.instructions.ElementKind.TheVariants.{Char as CharElement, Short as ShortElement}
use Rattle.model.specs.declared.instructions.Instruction.TheVariants.{Nop, Constant, Local, Stack, Number as NumberOf}
use Rattle.model.specs.declared.instructions.Instruction.TheVariants.{Branch, TableSwitch, LookupSwitch, Return}
use Rattle.model.specs.declared.instructions.Instruction.TheVariants.{Static as StaticField, Field as FieldOf}
use Rattle.model.specs.declared.instructions.Instruction.TheVariants.{Array as ArrayOf, Class as ClassOf, Invoke, Throw}
use Rattle.model.specs.declared.instructions.Instruction.TheVariants.{Monitor}
use Rattle.model.specs.declared.instructions.Primitive.{Primitive}
use Rattle.model.specs.declared.instructions.Primitive.TheVariants.{Char as Chars, Byte as Bytes, Short as Shorts}
use Rattle.model.specs.declared.instructions.Primitive.TheVariants.{Int as Ints, Long as Longs}
use Rattle.model.specs.declared.listings.Method.{Method}
use Rattle.model.specs.declared.listings.Placed.{Placed}
use Rattle.model.specs.declared.places.MethodPlace.{MethodPlace}
use Rattle.model.specs.declared.turns.Abrupt.{Abrupt}
use Rattle.model.specs.declared.turns.Fault.{Fault}
use Rattle.model.specs.declared.values.Value.{Value}
use Rattle.model.specs.declared.values.Value.TheVariants.{Int, Long, Ref}
use Rattle.model.specs.Accepted.References.{resolves}
use Rattle.model.specs.Accepted.Refusals.{refusal_of}
use Rattle.model.specs.ClassFiles.References.{names_class}
use Rattle.model.specs.ClassListings.{ClassListing}
use Rattle.model.specs.Classes.Named.{or_else}
use Rattle.model.specs.Classes.Types.{dimensions, is_type}
use Rattle.model.specs.CodeListings.{CodeListing}
use Rattle.model.specs.Completions.{Site}
use Rattle.model.specs.Frames.{Frame, both, int_on, ref_on}
use Rattle.model.specs.Locals.{value_on}
use Rattle.model.specs.Programs.{code_at, empty_initializer, method_at, method_in, placed_at}
use Rattle.model.specs.Stores.{Storage, storage_kind}
use Rattle.model.specs.Table.Arrays.{array_made, array_stored, descriptor_of, element_got, element_put, length_of}
use Rattle.model.specs.Table.Arrays.{loaded, may_hold, measured, put_if, storage_in}
use Rattle.model.specs.Table.Next.{Listed, by_family}
use Rattle.model.specs.Table.Objects.{cast, cast_if, is_instance, tested, reported_if}
use Rattle.model.specs.Words.{contents_at, contents_if}
use Rattle.linking.specs.declared.operations.Operation.{Operation}
use Rattle.linking.specs.declared.operations.Operation.TheVariants.{Invalid, Newarray, Anewarray}
use Rattle.linking.specs.declared.operations.Operation.TheVariants.{Arraylength, Checkcast}
use Rattle.linking.specs.declared.operations.Operation.TheVariants.{Instanceof}
use Rattle.linking.specs.declared.operations.TypeNumber.{TypeNumber}
use Rattle.linking.specs.Operations.{operation_of}
use Rattle.linking.specs.ResolvedOperations.{array_operation, casts, load_of, makes_array, primitive_letter, store_of}
use Rattle.linking.specs.ResolvedOperations.{tests_type, type_of}
use Rattle.resolve.proofs.ListLemmas.{all-found}
use Rattle.model.specs.Texts.Names.{is_class_name}
use Rattle.model.specs.WellNamed.{is_well_named, type_is_named, types_are_named, types_are_named_in}
use Rattle.linking.proofs.RunLemmas.{all_resolve}
use Rattle.plain_steps.specs.PlainMoves.{plain_move}
use Rattle.instructions.specs.ByNumbers.{IsNumbered}
use Rattle.instructions.specs.Heaps.{HeapValue, held, kind_held}
use Rattle.instructions.specs.NamedThings.{goes_by_type}
use Rattle.instructions.specs.Shown.{type_name}
use Rattle.instructions.specs.TypeNumbers.{is_element, is_object_of}
use Rattle.instructions.specs.TypesByNumbers.{array_made_if, cast_by, element_put_by, length_in, loaded_by, measured_by}
use Rattle.instructions.specs.TypesByNumbers.{operated_by_types, place_of_element, stored_by, takes, tested_by}
use Rattle.instructions.proofs.CodeResolves.{placed-resolves}
use Rattle.instructions.proofs.TypeNames.{HasType, IsArray, IsClass, elements_named, typed}
use Rattle.instructions.proofs.TypeOrder.{AreClassNames, named-classes}
use Rattle.instructions.proofs.TypesHeld.{at-birth, few, object-of, place-is, takes-is}

-- an operation comes to what the table says, is one, and isn't plain
pub record AgreesByType (s : Site) (h : HeapValue) (i : Listed) (operation : Operation) : Type 0 where
  pub same : by_family s i ≡ operated_by_types s h operation
  pub valid : operation ≡ Invalid → ⊥
  pub stays : (next : ℕ) (f : Frame) → plain_move next operation f ≡ None

module _ (s : Site) (h : HeapValue) (slots : List Value) (shown : IsNumbered s h slots) (accepted : refusal_of s.program
    ≡ None)
    (names : AreClassNames s.program) where
  abbrev few_classes : length s.program ≤ 256
  few_classes = few s.program accepted names

  -- ---- arraylength

  length-same : (r : Result (Option ℕ) Fault) → measured s r ≡ measured_by s h r
  length-same (Err fault) = refl
  length-same (Ok None) = refl
  length-same (Ok (Some birth)) =
      at-birth s.program accepted names h s.world shown.objects_are shown.stored
      (λ x o. length_of s (contents_if x) ≡ length_in s o) refl refl (λ o fits. refl) birth

  -- ---- loads and stores

  load-same : (kind : ElementKind) (r : Result (ℤ × Option ℕ) Fault) → loaded s kind r ≡ loaded_by s h kind r
  load-same kind (Err fault) = refl
  load-same kind (Ok operands) =
      ap (element_got s) (place-is s.program accepted names h s.world shown.objects_are shown.stored kind operands.0
      operands.1)

  holds-same : (v : Value) (birth : ℕ) → may_hold s (contents_at s.world birth) v
      ≡ takes s.program h (kind_held h birth) v
  holds-same (Int z) birth = refl
  holds-same (Long z) birth = refl
  holds-same (Ref None) birth = refl
  holds-same (Ref (Some value)) birth = takes-is s.program accepted names h s.world shown.objects_are shown.stored value
      birth

  put-same : (storage : Storage) (v : Value) (r : Result (ℕ × ℕ) Abrupt) → element_put s storage v r
      ≡ element_put_by s h storage v r
  put-same storage v (Err abrupt) = refl
  put-same storage v (Ok place) = ap (put_if s storage v place) (holds-same v place.0)

  store-same : (kind : ElementKind) (r : Result (Value × (ℤ × Option ℕ)) Fault) → array_stored s kind r
      ≡ stored_by s h kind r
  store-same kind (Err fault) = refl
  store-same kind (Ok operands) =
      ap (element_put s (storage_in kind) operands.0)
      (place-is s.program accepted names h s.world shown.objects_are shown.stored kind operands.1.0 operands.1.1)
      ∙ put-same (storage_in kind) operands.0 (place_of_element h kind operands.1.0 operands.1.1)

  -- ---- tests of types

  module _ (name : List ℕ) (type : TypeNumber) (there : is_element s.program type.element ≡ true)
      (what : (IsClass s.program few_classes name type) ⊎ (IsArray s.program few_classes name type)) where
    instance-same : (birth : ℕ) → is_instance s name birth ≡ is_object_of s.program (held h birth) type
    instance-same birth =
        object-of s.program accepted names h s.world shown.objects_are shown.stored birth name type there what

    cast-same : (r : Result (Option ℕ) Fault) → cast s name r ≡ cast_by s h type r
    cast-same (Err fault) = refl
    cast-same (Ok None) = refl
    cast-same (Ok (Some birth)) = ap (cast_if s birth) (instance-same birth)

    test-same : (r : Result (Option ℕ) Fault) → tested s name r ≡ tested_by s h type r
    test-same (Err fault) = refl
    test-same (Ok None) = refl
    test-same (Ok (Some birth)) = ap (reported_if s) (instance-same birth)

  -- ---- each instruction

  abbrev Agrees : Listed → Operation → Type 0
  Agrees = AgreesByType s h

  primitive-case : (primitive : Primitive)
      → Agrees (ArrayOf (NewArray primitive)) (Newarray (primitive_letter primitive))
  unfolding plain_move
  primitive-case Chars = record { same = refl; valid = λ e. cc; stays = λ next f. refl }
  primitive-case Bytes = record { same = refl; valid = λ e. cc; stays = λ next f. refl }
  primitive-case Shorts = record { same = refl; valid = λ e. cc; stays = λ next f. refl }
  primitive-case Ints = record { same = refl; valid = λ e. cc; stays = λ next f. refl }
  primitive-case Longs = record { same = refl; valid = λ e. cc; stays = λ next f. refl }

  array-case : (name : List ℕ) (type : TypeNumber) → is_element s.program type.element ≡ true → descriptor_of name
      ≡ type_name s.program type
      → Agrees (ArrayOf (NewOf name)) (Anewarray type)
  unfolding plain_move
  array-case name type there named = record {
    same =
        ap (λ element. array_made s element (int_on s.frame.stack)) named
        ∙ ap (array_made_if s type) (sym there);
    valid = λ e. cc;
    stays = λ next f. refl;
  }

  load-case : (kind : ElementKind) → Agrees (ArrayOf (Load kind)) (load_of kind)
  unfolding plain_move
  load-case IntElement = record {
    same = load-same IntElement
        (both (int_on s.frame.stack) (ref_on (drop 1 s.frame.stack)));
    valid = λ e. cc;
    stays = λ next f. refl;
  }
  load-case LongElement = record {
    same = load-same LongElement
        (both (int_on s.frame.stack) (ref_on (drop 1 s.frame.stack)));
    valid = λ e. cc;
    stays = λ next f. refl;
  }
  load-case RefElement = record {
    same = load-same RefElement
        (both (int_on s.frame.stack) (ref_on (drop 1 s.frame.stack)));
    valid = λ e. cc;
    stays = λ next f. refl;
  }
  load-case ByteElement = record {
    same = load-same ByteElement
        (both (int_on s.frame.stack) (ref_on (drop 1 s.frame.stack)));
    valid = λ e. cc;
    stays = λ next f. refl;
  }
  load-case CharElement = record {
    same = load-same CharElement
        (both (int_on s.frame.stack) (ref_on (drop 1 s.frame.stack)));
    valid = λ e. cc;
    stays = λ next f. refl;
  }
  load-case ShortElement = record {
    same = load-same ShortElement
        (both (int_on s.frame.stack) (ref_on (drop 1 s.frame.stack)));
    valid = λ e. cc;
    stays = λ next f. refl;
  }

  abbrev operands : ElementKind → Result (Value × (ℤ × Option ℕ)) Fault
  operands kind =
      both (value_on (storage_kind (storage_in kind)) s.frame.stack)
      (both (int_on (drop 1 s.frame.stack)) (ref_on (drop 2 s.frame.stack)))

  store-case : (kind : ElementKind) → Agrees (ArrayOf (Store kind)) (store_of kind)
  unfolding plain_move
  store-case IntElement = record {
    same = store-same IntElement (operands IntElement);
    valid = λ e. cc;
    stays = λ next f. refl;
  }
  store-case LongElement = record {
    same = store-same LongElement (operands LongElement);
    valid = λ e. cc;
    stays = λ next f. refl;
  }
  store-case RefElement = record {
    same = store-same RefElement (operands RefElement);
    valid = λ e. cc;
    stays = λ next f. refl;
  }
  store-case ByteElement = record {
    same = store-same ByteElement (operands ByteElement);
    valid = λ e. cc;
    stays = λ next f. refl;
  }
  store-case CharElement = record {
    same = store-same CharElement (operands CharElement);
    valid = λ e. cc;
    stays = λ next f. refl;
  }
  store-case ShortElement = record {
    same = store-same ShortElement (operands ShortElement);
    valid = λ e. cc;
    stays = λ next f. refl;
  }

  length-case : Agrees (ArrayOf Length) Arraylength
  unfolding plain_move
  length-case = record { same = length-same (ref_on s.frame.stack); valid = λ e. cc; stays = λ next f. refl }

  cast-case : (name : List ℕ) (t : HasType s.program few_classes name)
      → Agrees (ClassOf CheckCast name) (Checkcast t.type)
  unfolding plain_move
  cast-case name t = record {
    same = cast-same name t.type t.there t.what (ref_on s.frame.stack);
    valid = λ e. cc;
    stays = λ next f. refl;
  }

  test-case : (name : List ℕ) (t : HasType s.program few_classes name)
      → Agrees (ClassOf InstanceOf name) (Instanceof t.type)
  unfolding plain_move
  test-case name t = record {
    same = test-same name t.type t.there t.what (ref_on s.frame.stack);
    valid = λ e. cc;
    stays = λ next f. refl;
  }

  array-agrees : (operation : ArrayOperation (List ℕ)) → resolves s.program (ArrayOf operation) ≡ true
      → type_is_named (ArrayOf operation) ≡ true → Agrees (ArrayOf operation) (array_operation s.program operation)
  array-agrees (NewArray primitive) there named = primitive-case primitive
  array-agrees (NewOf name) there named =
      let t = typed s.program few_classes name named (and_parts (is_type s.program name) (nat_lt (dimensions name) 255)
      there).0 in
      subst (λ o. Agrees (ArrayOf (NewOf name)) (makes_array o)) (sym t.is)
      (array-case name t.type t.there (elements_named s.program few_classes name named t))
  array-agrees Length there named = length-case
  array-agrees (Load kind) there named = load-case kind
  array-agrees (Store kind) there named = store-case kind

  cast-agrees : (name : List ℕ) → is_type s.program name ≡ true → names_class name ≡ true
      → Agrees (ClassOf CheckCast name) (casts (type_of s.program name))
  cast-agrees name there named =
      let t = typed s.program few_classes name named there in
      subst (λ o. Agrees (ClassOf CheckCast name) (casts o)) (sym t.is) (cast-case name t)

  test-agrees : (name : List ℕ) → is_type s.program name ≡ true → names_class name ≡ true
      → Agrees (ClassOf InstanceOf name) (tests_type (type_of s.program name))
  test-agrees name there named =
      let t = typed s.program few_classes name named there in
      subst (λ o. Agrees (ClassOf InstanceOf name) (tests_type o)) (sym t.is) (test-case name t)

  -- an instruction that names a type or works on arrays, what it refers to being there
  pub agrees_by_type : (superclass : List ℕ) (i : Listed) → goes_by_type i ≡ true → resolves s.program i ≡ true
      → type_is_named i ≡ true → AgreesByType s h i (operation_of s.program superclass i)
  agrees_by_type superclass (ArrayOf operation) goes there named = array-agrees operation there named
  agrees_by_type superclass (ClassOf CheckCast name) goes there named = cast-agrees name there named
  agrees_by_type superclass (ClassOf InstanceOf name) goes there named = test-agrees name there named
  agrees_by_type superclass (ClassOf NewObject name) goes there named = cc
  agrees_by_type superclass Nop goes there named = cc
  agrees_by_type superclass (Constant c) goes there named = cc
  agrees_by_type superclass (Local access) goes there named = cc
  agrees_by_type superclass (Stack operation) goes there named = cc
  agrees_by_type superclass (NumberOf operation) goes there named = cc
  agrees_by_type superclass (Branch test target) goes there named = cc
  agrees_by_type superclass (TableSwitch table) goes there named = cc
  agrees_by_type superclass (LookupSwitch lookup) goes there named = cc
  agrees_by_type superclass (Return kind) goes there named = cc
  agrees_by_type superclass (StaticField access m) goes there named = cc
  agrees_by_type superclass (FieldOf access m) goes there named = cc
  agrees_by_type superclass (Invoke invocation m) goes there named = cc
  agrees_by_type superclass Throw goes there named = cc
  agrees_by_type superclass (Monitor operation) goes there named = cc

-- ---- in code of a program whose classes have the names of class files

all-at : {A : Type 0} (p : A → Bool) (xs : List A) (n : ℕ) (x : A) → list_all p xs ≡ true → slice_get xs n ≡ Some x
    → p x ≡ true
all-at p [] n x all e = cc
all-at p (y ∷ ys) zero x all e = let same : y ≡ x = cc in ap p (sym same) ∙ (and_parts (p y) (list_all p ys) all).0
all-at p (y ∷ ys) (suc n) x all e = all-at p ys n x (and_parts (p y) (list_all p ys) all).1 e

and_then-some : {A B : Type 0} (f : A → Option B) (o : Option A) (y : B) → option_and_then f o ≡ Some y
    → (x : A) × (o ≡ Some x) × (f x ≡ Some y)
and_then-some f None y e = cc
and_then-some f (Some x) y e = (x, refl, e)

types-named : (c : ClassListing) → is_well_named c ≡ true → types_are_named c.methods ≡ true
unfolding is_well_named
types-named c e = (and_parts (is_class_name c.name) (types_are_named c.methods) e).1

module _ (program : List ClassListing) (names : list_all is_well_named program ≡ true) where
  abbrev are_named : Method → Bool
  are_named m = types_are_named_in m.code

  in_empty : (b : Bool) (m : Method) → cond b (Some empty_initializer) None ≡ Some m → are_named m ≡ true
  in_empty true m e = let same : empty_initializer ≡ m = cc in ap are_named (sym same)
  in_empty false m e = cc

  in_methods : (c : ClassListing) (n : ℕ) (m : Method) → list_all are_named c.methods ≡ true → method_in c n ≡ Some m
      → are_named m ≡ true
  in_methods c n m all e = by (slice_get c.methods n) refl e
    where
      by : (o : Option Method) → slice_get c.methods n ≡ o
          → or_else o (cond (n == length c.methods) (Some empty_initializer) None) ≡ Some m
          → are_named m ≡ true
      by None at k = in_empty (n == length c.methods) m k
      by (Some x) at k = all-at are_named c.methods n m all (at ∙ k)

  pub placed-named : (place : MethodPlace) (code : CodeListing) (pc : ℕ) (i : Placed) → code_at program place
      ≡ Some code
      → placed_at code pc ≡ Some i → type_is_named i.instruction ≡ true
  placed-named place code pc i there at =
      let method = and_then-some (λ (m : Method). m.code) (method_at program place) code there in
      let class = and_then-some (λ (c : ClassListing). method_in c place.method) (slice_get program place.class)
      method.0 method.1 in
      let named : types_are_named class.0.methods
      ≡ true = types-named class.0 (all-at is_well_named program place.class class.0 names class.1) in
      let whole : types_are_named_in (Some code) ≡ true =
      ap types_are_named_in (sym method.2)
      ∙ in_methods class.0 place.method method.0 named class.2 in
      all-found (λ (i : Placed). type_is_named i.instruction) (λ (i : Placed). i.pc == pc) code.instructions i whole at

-- at a pc of a method
pub code-by_types : (s : Site) (h : HeapValue) (slots : List Value) → IsNumbered s h slots → refusal_of s.program ≡ None
    → list_all is_well_named s.program ≡ true → (superclass : List ℕ) (place : MethodPlace) (code : CodeListing)
    (pc : ℕ) (i : Placed)
    → code_at s.program place ≡ Some code → placed_at code pc ≡ Some i → goes_by_type i.instruction ≡ true
    → AgreesByType s h i.instruction (operation_of s.program superclass i.instruction)
code-by_types s h slots shown accepted names superclass place code pc i there at goes =
    agrees_by_type s h slots shown accepted (named-classes s.program names) superclass i.instruction goes
    (placed-resolves s.program (all_resolve s.program accepted) place code pc i there at)
    (placed-named s.program names place code pc i there at)
