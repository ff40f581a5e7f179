-- Calls on objects by numbers are what the instruction table says by names.
use Rattle.std.proofs.Common.{◌≡◌, ℕ, List, length, Bool, true, false, ◌==◌, ◌&&◌, ◌||◌, not, Option, Some, None}
use Rattle.std.proofs.Common.{Result, Ok, Err, refl, sym, ap, subst, ◌∙◌}
use Rattle.std.specs.Prelude.{drop, if◌then◌else◌}
use Rattle.std.specs.List.{find, list_any}
use Rattle.std.specs.Option.{option_and_then, option_map, option_zip}
use Rattle.std.specs.Str.{bytes_eq}
use Rattle.model.specs.declared.builtins.Builtin.{Builtin}
use Rattle.model.specs.declared.instructions.Invocation.TheVariants.{Virtual, Special, Interface}
use Rattle.model.specs.declared.listings.Method.{Method}
use Rattle.model.specs.declared.names.Member.{Member}
use Rattle.model.specs.declared.places.MethodPlace.{MethodPlace}
use Rattle.model.specs.declared.turns.Fault.{Fault}
use Rattle.model.specs.declared.turns.Fault.TheVariants.{NoMethod, WrongClass}
use Rattle.model.specs.declared.values.Value.{Value}
use Rattle.model.specs.Accepted.BuiltinNames.{has_builtin_name}
use Rattle.model.specs.Callees.{callee_of}
use Rattle.model.specs.ClassListings.{ClassListing}
use Rattle.model.specs.Classes.Flags.{is_private, is_static}
use Rattle.model.specs.Classes.MethodPlaces.{is_method, member_of}
use Rattle.model.specs.Classes.Named.{class_named}
use Rattle.model.specs.Classes.Resolution.{is_initializer, resolved_method}
use Rattle.model.specs.Classes.Search.{Declared, superclasses}
use Rattle.model.specs.Classes.Selection.{selected}
use Rattle.model.specs.Classes.Special.{special_method, superclass_at}
use Rattle.model.specs.Classes.Types.{element_of, is_subtype}
use Rattle.model.specs.Completions.{Completion, Site}
use Rattle.model.specs.Completions.Completion.{Faults}
use Rattle.model.specs.Frames.{ref_on}
use Rattle.model.specs.Objects.{class_at}
use Rattle.model.specs.Programs.{builtin_of}
use Rattle.model.specs.Signatures.{argument_kinds}
use Rattle.model.specs.Table.Builtins.{builtin_call}
use Rattle.model.specs.Table.Invokes.{Call, arguments_in, called, called_on as called_by_name, on_object, selected_for}
use Rattle.model.specs.Table.Invokes.{special_for, with_arguments}
use Rattle.resolve.specs.Hierarchies.{IsHierarchy}
use Rattle.linking.specs.declared.operations.Operation.TheVariants as operation
use Rattle.linking.specs.MethodTables.{body_of, method_facts}
use Rattle.linking.specs.ResolvedOperations.{calls_none, calls_selected, calls_special, method_named, method_number}
use Rattle.linking.specs.ResolvedOperations.{special_call, virtual_call}
use Rattle.linking.specs.Selections.{is_virtual_of}
use Rattle.linking.specs.Selectors.{selector_of}
use Rattle.instructions.specs.declared.kinds.Kind.{Kind}
use Rattle.instructions.specs.declared.kinds.Kind.TheVariants.{Instance, Array}
use Rattle.instructions.specs.ByNumbers.{IsNumbered}
use Rattle.instructions.specs.CallsByNumbers.{called_as, called_at, called_by, called_known, called_none, called_object}
use Rattle.instructions.specs.CallsByNumbers.{called_on, called_selected, called_special, is_kind_of, known_at}
use Rattle.instructions.specs.CallsByNumbers.{place_if, place_of_number, runs, selected_place}
use Rattle.instructions.specs.Heaps.{HeapValue, kind_held}
use Rattle.instructions.specs.OwnCalls.{is_printing}
use Rattle.instructions.specs.Shown.{class_name, kind_name_if}
use Rattle.instructions.proofs.AcceptedClasses.{Unrefused}
use Rattle.instructions.proofs.ByNumberLemmas.{HasNumber}
use Rattle.instructions.proofs.CallAgreement.{CallAgrees, HasSignature, callee_same, resolved-found, signature-same}
use Rattle.instructions.proofs.DeclaredMethods as methods
use Rattle.instructions.proofs.DeclaredMethods.{IsFound, declared-found, found-test}
use Rattle.instructions.proofs.KindsHeld.{class as class_numbered, class_held, kind-below, nobody-below}
use Rattle.instructions.proofs.OwnCalls.{own_called, own_descriptor, own_name}
use Rattle.instructions.proofs.SelectorsCalled.{HasSelector}

and-both : (a b : Bool) → (a && b) ≡ true → (a ≡ true) × (b ≡ true)
and-both true b e = (refl, e)
and-both false b e = cc

neither : (a b : Bool) → not (a || b) ≡ true → a ≡ false
neither true b e = cc
neither false b e = refl

-- what the machine's own methods come to that are called as a member is, none of them static
abbrev pub OwnAlike : (Site → Builtin → Completion) → Site → Member → Type 0
OwnAlike own s m =
    (builtin : Builtin) → is_printing builtin ≡ false → m.name ≡ own_name builtin → m.descriptor
    ≡ own_descriptor builtin
    → builtin_call s builtin ≡ own s builtin

module _ (own : Site → Builtin → Completion) (s : Site) (h : HeapValue) (slots : List Value)
    (shown : IsNumbered s h slots)
    (free : Unrefused s.program) (hierarchy : IsHierarchy s.program) (hides : find has_builtin_name s.program ≡ None)
    (m : Member) (c : ClassListing) (named : class_named s.program m.class ≡ Some c) (plain : element_of m.class ≡ None)
  where
    abbrev pub class : HasNumber s.program m.class
    class = class_numbered s.program hierarchy hides m.class c named

    abbrev call : ℕ → Call
    call birth = record { site = s; member = m; object = Some birth }

    -- ---- a method that goes by the object, and one that goes by its kind

    abbrev MethodsAgree : (ℕ → Option (Declared Method)) → (Kind → Option MethodPlace) → Type 0
    MethodsAgree method by_kind =
        (birth : ℕ) (kind : Kind) → kind_held h birth ≡ Some kind → is_kind_of s.program kind class.number ≡ true
        → called (call birth) (callee_of s.program (method birth)) ≡ called_at (own s) s birth (by_kind kind)

    object-same : (method : ℕ → Option (Declared Method)) (by_kind : Kind → Option MethodPlace)
        → MethodsAgree method by_kind
        → (r : Result (Option ℕ) Fault) → called_by_name s m method r ≡ called_object (own s) s h class.number by_kind r
    object-same method by_kind agree (Err fault) = refl
    object-same method by_kind agree (Ok None) = refl
    object-same method by_kind agree (Ok (Some birth)) = by (kind_held h birth) refl
      where
        table : Bool → Completion
        table b = if not b then Faults WrongClass else called (call birth) (callee_of s.program (method birth))

        subtype_of : List ℕ → Bool
        subtype_of n = is_subtype s.program n m.class

        if-same : (kind : Kind) → kind_held h birth ≡ Some kind → (b : Bool)
            → is_kind_of s.program kind class.number ≡ b
            → table b ≡ (if not b then Faults WrongClass else called_at (own s) s birth (by_kind kind))
        if-same kind e true k = agree birth kind e k
        if-same kind e false k = refl

        by : (o : Option Kind) → kind_held h birth ≡ o
            → table (subtype_of (class_at s.world birth)) ≡ called_as (own s) s class.number by_kind birth o
        by None e =
            ap table (ap subtype_of (class_held s.program h s.world shown.objects_are birth
            ∙ ap (kind_name_if s.program) e)
            ∙ nobody-below s.program hierarchy hides m.class c named)
        by (Some kind) e =
            ap table (ap subtype_of (class_held s.program h s.world shown.objects_are birth
            ∙ ap (kind_name_if s.program) e)
            ∙ kind-below s.program hierarchy hides m.class c named plain kind)
            ∙ if-same kind e (is_kind_of s.program kind class.number) refl

    on_object-same : (method : ℕ → Option (Declared Method)) (by_kind : Kind → Option MethodPlace)
        → MethodsAgree method by_kind
        → on_object s m method ≡ called_on (own s) s h class.number (argument_kinds m.descriptor) by_kind
    on_object-same method by_kind agree =
        ap (with_arguments s m) (object-same method by_kind agree (ref_on (drop (arguments_in m) s.frame.stack)))

    -- ---- a method that was found

    module _ (alike : OwnAlike own s m) (test : Method → Bool) (d : Declared Method) (is : IsFound s.program test d)
        (signature : HasSignature m d) (instance : is_static d.member ≡ false) where
      abbrev place : MethodPlace
      place = methods.where_it_is s.program free hides test d is

      found-own : (builtin : Builtin) → builtin_of (member_of d) ≡ Some builtin → builtin_call s builtin ≡ own s builtin
      found-own builtin e =
          let name = own_called (member_of d) builtin e in
          alike builtin (sym (methods.own_is_static s.program free hides test d is builtin e) ∙ instance)
          (sym signature.name ∙ name.name) (sym signature.descriptor ∙ name.descriptor)

      known-same : (birth : ℕ)
          → called_at (own s) s birth (Some place)
          ≡ runs (own s) s place (method_facts s.program d.class d.member) (Some birth) (body_of d.class d.member)
      known-same birth =
          ap (called_known (own s) s birth place) (methods.known s.program free hides test d is)
          ∙ ap (λ b. if b then Faults NoMethod else runs (own s) s place (method_facts s.program d.class d.member)
          (Some birth) (body_of d.class d.member)) instance

      found-same : (birth : ℕ)
          → called (call birth) (callee_of s.program (Some d)) ≡ called_at (own s) s birth (Some place)
      found-same birth =
          callee_same (call birth) (own s) free hides test d is signature.descriptor found-own ∙ sym (known-same birth)

      placed-same : place_if s.program (Some d) ≡ Some place
      placed-same = ap (option_map place_of_number) (methods.numbered s.program free hides test d is)

      -- ---- invokespecial of it

      special_number : method_named s.program m d ≡ Some (class.number, (place.class, place.method))
      special_number =
          ap (λ o. option_zip o (method_number s.program d)) class.is
          ∙ ap (option_zip (Some class.number)) (methods.numbered s.program free hides test d is)

      abbrev called_kinds : List ℕ → Completion
      called_kinds descriptor = called_on (own s) s h class.number (argument_kinds descriptor) (λ kind. Some place)

      special-same : on_object s m (λ birth. Some d) ≡ called_by own s h (calls_special (method_named s.program m d))
      special-same =
          on_object-same (λ birth. Some d) (λ kind. Some place) (λ birth kind e k. found-same birth)
          ∙ sym (ap called_kinds signature.descriptor)
          ∙ sym (ap (called_special (own s) s h class.number place) (methods.known s.program free hides test d is))
          ∙ sym (ap (λ n. called_by own s h (calls_special n)) special_number)

      special-valid : calls_special (method_named s.program m d) ≡ operation.Invalid → ⊥
      special-valid e =
          let one : operation.Invokespecial class.number place.class place.method ≡ operation.Invalid =
          sym (ap calls_special special_number) ∙ e in cc

      none-valid : calls_none (method_named s.program m d) ≡ operation.Invalid → ⊥
      none-valid e =
          let one : operation.Invokenone class.number place.class place.method ≡ operation.Invalid =
          sym (ap calls_none special_number) ∙ e in cc

      abbrev none_kinds : List ℕ → Completion
      none_kinds descriptor = called_on (own s) s h class.number (argument_kinds descriptor) (λ kind. None)

      none-same : on_object s m (λ birth. None) ≡ called_none (own s) s h class.number (known_at s.program place)
      none-same =
          on_object-same (λ birth. None) (λ kind. None) (λ birth kind e k. refl)
          ∙ sym (ap none_kinds signature.descriptor)
          ∙ sym (ap (called_none (own s) s h class.number) (methods.known s.program free hides test d is))

      none-numbered : called_none (own s) s h class.number (known_at s.program place)
          ≡ called_by own s h (calls_none (method_named s.program m d))
      none-numbered = sym (ap (λ n. called_by own s h (calls_none n)) special_number)

    -- ---- a method that is selected

    module _ (alike : OwnAlike own s m) where
      virtual-found : (class_name : List ℕ) (d : Declared Method) → selected s.program class_name m.name m.descriptor
          ≡ Some d
          → IsFound s.program (is_virtual_of m.name m.descriptor) d
      virtual-found class_name d e =
          declared-found s.program (is_virtual_of m.name m.descriptor) (superclasses s.program class_name) d e

      record IsVirtual (d : Declared Method) : Type 0 where
        signature : HasSignature m d
        instance : is_static d.member ≡ false

      virtual-is : (d : Declared Method) → IsFound s.program (is_virtual_of m.name m.descriptor) d → IsVirtual d
      virtual-is d is =
          let parts = and-both (is_method m.name m.descriptor d.member)
          (not (is_static d.member || is_private d.member))
          (found-test s.program (is_virtual_of m.name m.descriptor) d is) in
          record {
            signature = signature-same m d parts.0;
            instance = neither (is_static d.member) (is_private d.member) parts.1;
          }

      selected-agrees : ((class.number == length s.program) ≡ true → ⊥)
          → MethodsAgree (selected_for s m) (selected_place s.program (m.name, m.descriptor))
      selected-agrees no_object birth (Array type) e k = absurd (no_object k)
      selected-agrees no_object birth (Instance j) e k =
          ap (λ n. called (call birth) (callee_of s.program (selected s.program n m.name m.descriptor)))
          (class_held s.program h s.world shown.objects_are birth ∙ ap (kind_name_if s.program) e)
          ∙ by (selected s.program (class_name s.program j) m.name m.descriptor) refl
        where
          by : (o : Option (Declared Method)) → selected s.program (class_name s.program j) m.name m.descriptor ≡ o
              → called (call birth) (callee_of s.program o) ≡ called_at (own s) s birth (place_if s.program o)
          by None is = refl
          by (Some d) is =
              let found = virtual-found (class_name s.program j) d is in
              let good = virtual-is d found in
              found-same alike (is_virtual_of m.name m.descriptor) d found good.signature good.instance birth
              ∙ sym (ap (called_at (own s) s birth) (placed-same alike (is_virtual_of m.name m.descriptor) d found
              good.signature good.instance))

      module _ (selector : HasSelector s.program m) (no_object : (class.number == length s.program) ≡ true → ⊥) where
        virtual_number : virtual_call s.program m ≡ operation.Invokevirtual class.number selector.selector
        virtual_number =
            ap (λ o. calls_selected (option_zip o (selector_of s.program m.name m.descriptor))) class.is
            ∙ ap (λ o. calls_selected (option_zip (Some class.number) o)) selector.is

        virtual-same : on_object s m (selected_for s m) ≡ called_by own s h (virtual_call s.program m)
        virtual-same =
            on_object-same (selected_for s m) (selected_place s.program (m.name, m.descriptor))
            (selected-agrees no_object)
            ∙ sym (ap (called_selected (own s) s h class.number) selector.there)
            ∙ sym (ap (called_by own s h) virtual_number)

        virtual-valid : virtual_call s.program m ≡ operation.Invalid → ⊥
        virtual-valid e =
            let one : operation.Invokevirtual class.number selector.selector ≡ operation.Invalid =
            sym virtual_number ∙ e
            in cc

        pub virtual-case : CallAgrees own s h Virtual m (virtual_call s.program m)
        virtual-case = record { same = virtual-same; valid = virtual-valid }

        pub interface-case : (count : ℕ) → CallAgrees own s h (Interface count) m (virtual_call s.program m)
        interface-case count = record { same = virtual-same; valid = virtual-valid }

      -- ---- a method that the object has no part in

      module _ (d : Declared Method) (resolved : resolved_method s.program m ≡ Some d) (instance : is_static d.member
          ≡ false) where
        abbrev above : List ℕ
        above = superclass_at s.program s.frame.method.class

        resolved_is : IsFound s.program (is_method m.name m.descriptor) d
        resolved_is = resolved-found s.program m d resolved

        resolved_signature : HasSignature m d
        resolved_signature = signature-same m d (found-test s.program (is_method m.name m.descriptor) d resolved_is)

        abbrev SpecialAgrees : Option (Declared Method) → Type 0
        SpecialAgrees o = CallAgrees own s h Special m (special_call s.program m o (Some d))

        special-by : (o : Option (Declared Method)) → special_for s m ≡ o
            → on_object s m (λ birth. o) ≡ called_by own s h (special_call s.program m o (Some d))
            → (special_call s.program m o (Some d) ≡ operation.Invalid → ⊥) → SpecialAgrees o
        special-by o e same valid = record { same = ap (λ o. on_object s m (λ birth. o)) e ∙ same; valid = valid }

        special-none : special_for s m ≡ None → SpecialAgrees None
        special-none e =
            special-by None e
            (none-same alike (is_method m.name m.descriptor) d resolved_is resolved_signature instance
            ∙ none-numbered alike (is_method m.name m.descriptor) d resolved_is resolved_signature instance)
            (none-valid alike (is_method m.name m.descriptor) d resolved_is resolved_signature instance)

        special-some : (test : Method → Bool) (x : Declared Method) → special_for s m ≡ Some x
            → IsFound s.program test x
            → HasSignature m x
            → is_static x.member ≡ false → SpecialAgrees (Some x)
        special-some test x e is signature static =
            special-by (Some x) e (special-same alike test x is signature static)
            (special-valid alike test x is signature
            static)

        pub special-case : CallAgrees own s h Special m (special_call s.program m (special_method s.program above m)
            (resolved_method s.program m))
        special-case =
            subst (λ o. CallAgrees own s h Special m (special_call s.program m (special_method s.program above m) o))
            (sym resolved)
            (by (not (is_initializer m.name) && list_any (bytes_eq d.class) (superclasses s.program above)) refl)
          where
            chosen : Bool → Option (Declared Method)
            chosen b = if b then selected s.program above m.name m.descriptor else Some d

            chosen-is : (b : Bool)
                → (not (is_initializer m.name) && list_any (bytes_eq d.class) (superclasses s.program above)) ≡ b
                → special_for s m ≡ chosen b
            chosen-is b e = ap (option_and_then _) resolved ∙ ap chosen e

            selected-by : (o : Option (Declared Method)) → selected s.program above m.name m.descriptor ≡ o
                → special_for s m ≡ o → SpecialAgrees o
            selected-by None is e = special-none e
            selected-by (Some x) is e =
                let found = virtual-found above x is in
                let good = virtual-is x found in
                special-some (is_virtual_of m.name m.descriptor) x e found good.signature good.instance

            by : (b : Bool) → (not (is_initializer m.name) && list_any (bytes_eq d.class)
                (superclasses s.program above))
                ≡ b
                → SpecialAgrees (special_for s m)
            by true e =
                subst SpecialAgrees (sym (chosen-is true e))
                (selected-by (selected s.program above m.name m.descriptor) refl (chosen-is true e))
            by false e =
                subst SpecialAgrees (sym (chosen-is false e))
                (special-some (is_method m.name m.descriptor) d (chosen-is false e) resolved_is resolved_signature
                instance)
