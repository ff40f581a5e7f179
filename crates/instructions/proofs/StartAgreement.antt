-- What a thread begins with, by numbers, is what the instruction table says by names.
use Rattle.std.proofs.Common.{◌≡◌, inl, inr, ℕ, suc, ◌+◌, List, [], ◌∷◌, length, Bool, true, false, Option, Some, None}
use Rattle.std.proofs.Common.{Result, Ok, Err, refl, sym, ap, arith, ◌∙◌}
use Rattle.std.specs.Prelude.{codes, is_some, nat_le}
use Rattle.std.specs.List.{find, list_all}
use Rattle.std.specs.Option.{option_map}
use Rattle.model.specs.declared.builtins.Builtin.{Builtin}
use Rattle.model.specs.declared.builtins.Builtin.TheVariants.{PrintInt, PrintLong, PutByte, Initialize, RunThread}
use Rattle.model.specs.declared.builtins.Builtin.TheVariants.{StartThread, JoinThread}
use Rattle.model.specs.declared.listings.Method.{Method}
use Rattle.model.specs.declared.names.Member.{Member}
use Rattle.model.specs.declared.places.MethodPlace.{MethodPlace}
use Rattle.model.specs.declared.turns.Fault.{Fault}
use Rattle.model.specs.Accepted.BuiltinNames.{has_builtin_name}
use Rattle.model.specs.Accepted.Refusals.{refusal_of}
use Rattle.model.specs.Callees.{callee_by, callee_of, coded}
use Rattle.model.specs.ClassListings.{ClassListing}
use Rattle.model.specs.Classes.MethodPlaces.{member_of, place_of}
use Rattle.model.specs.Classes.Named.{class_named}
use Rattle.model.specs.Classes.Search.{Declared, first_declared, superclasses, with_superclasses, upwards}
use Rattle.model.specs.Classes.Selection.{selected, virtual_of}
use Rattle.model.specs.CodeListings.{CodeListing}
use Rattle.model.specs.Completions.{Completion, Site}
use Rattle.model.specs.Frames.{ref_on}
use Rattle.model.specs.Objects.{class_if, class_of, object_at}
use Rattle.model.specs.Programs.{builtin_of}
use Rattle.model.specs.Table.Threads.{begins as begins_by_name, start_if, started as started_by_name}
use Rattle.model.specs.Table.Threads.{starts as starts_by_name}
use Rattle.model.specs.WellNamed.{is_well_named}
use Rattle.model.specs.Worlds.{Object}
use Rattle.resolve.specs.Hierarchies.{IsHierarchy}
use Rattle.linking.specs.MethodTables.{body_by, body_of}
use Rattle.linking.specs.Selections.{is_virtual_of}
use Rattle.linking.proofs.RunLemmas.{hierarchy as accepted_hierarchy, none_hides}
use Rattle.instructions.specs.declared.kinds.Kind.{Kind}
use Rattle.instructions.specs.declared.kinds.Kind.TheVariants.{Instance, Array}
use Rattle.instructions.specs.CallsByNumbers.{place_if, place_of_number}
use Rattle.instructions.specs.Heaps.{HeapValue, kind_held}
use Rattle.instructions.specs.OwnCalls.{begins, begun_at, begun_by, begun_known, begun_of, own_call, started, starts}
use Rattle.instructions.specs.Shown.{class_name, kind_name_if, objects_shown, type_name}
use Rattle.instructions.proofs.AcceptedClasses.{Unrefused, unrefused}
use Rattle.instructions.proofs.CodeCalls.{none-above}
use Rattle.instructions.proofs.DeclaredMethods as methods
use Rattle.instructions.proofs.DeclaredMethods.{IsFound}
use Rattle.instructions.proofs.KindsHeld.{class_held}
use Rattle.instructions.proofs.ObjectCallAgreement.{OwnAlike}
use Rattle.instructions.proofs.SelectedRows.{virtual-is}
use Rattle.instructions.proofs.TypeOrder.{named-classes, proper-named}
use Rattle.instructions.proofs.TypesHeld.{few}
use Rattle.instructions.proofs.Upwards.{next}

module _ (s : Site) (h : HeapValue) (shown : s.world.objects ≡ objects_shown s.program h.objects)
    (accepted : refusal_of s.program ≡ None)
    (names : list_all is_well_named s.program ≡ true) where
  free : Unrefused s.program
  free = unrefused s.program accepted

  hides : find has_builtin_name s.program ≡ None
  hides = none_hides s.program accepted

  hierarchy : IsHierarchy s.program
  hierarchy = accepted_hierarchy s.program accepted

  abbrev run : List ℕ → Option (Declared Method)
  run class = selected s.program class (codes "run") (codes "()V")

  -- ---- classes for whose objects nothing is selected

  run-none : (class : List ℕ) → superclasses s.program class ≡ [] → run class ≡ None
  run-none class e = ap (first_declared s.program (virtual_of (codes "run") (codes "()V"))) e

  run-nobody : run [] ≡ None
  run-nobody = run-none [] (none-above s.program hierarchy hides (length s.program + 23))

  run-array : (name : List ℕ) → run (91 ∷ name) ≡ None
  run-array name =
      let more : length s.program + 23 ≡ suc (length s.program + 22) = omega arith in
      run-none (91 ∷ name)
      (ap (λ n. upwards n s.program (91 ∷ name)) more ∙ next s.program (length s.program + 22) (91 ∷ name)
      ∙ by (class_named s.program (91 ∷ name)) refl)
    where
      by : (o : Option ClassListing) → class_named s.program (91 ∷ name) ≡ o
          → with_superclasses (91 ∷ name) (λ superclass. upwards (length s.program + 22) s.program superclass) o ≡ []
      by None e = refl
      by (Some c) e = absurd (wrong (proper-named s.program (few s.program accepted (named-classes s.program names))
          (named-classes s.program names) hierarchy hides (91 ∷ name) c e))
        where
          wrong : false ≡ true → ⊥
          wrong k = cc

  -- ---- the method that was found

  module _ (birth : ℕ) (object : Object) where
    module _ (d : Declared Method) (is : IsFound s.program (is_virtual_of (codes "run") (codes "()V")) d) where
      abbrev test : Method → Bool
      test m = is_virtual_of (codes "run") (codes "()V") m

      abbrev place : MethodPlace
      place = methods.where_it_is s.program free hides test d is

      coded-same : (code : Option CodeListing) → d.member.code ≡ code
          → begins_by_name s birth object (coded d.member code (place_of s.program d))
          ≡ begins s birth object (begun_by place birth (body_by None code))
      coded-same None e = refl
      coded-same (Some code) e =
          elim (methods.placed s.program free hides test d is) [
            | inl at ↦ ap (λ p. begins_by_name s birth object (coded d.member (Some code) p)) at
            | inr none ↦ absurd (differ (sym e ∙ none))
          ]
        where
          differ : Some code ≡ None → ⊥
          differ e = cc

      callee-same : begins_by_name s birth object (callee_of s.program (Some d))
          ≡ begins s birth object (begun_by place birth (body_of d.class d.member))
      callee-same = by (builtin_of (member_of d))
        where
          by : (builtin : Option Builtin)
              → begins_by_name s birth object (callee_by s.program d builtin)
              ≡ begins s birth object (begun_by place birth (body_by builtin d.member.code))
          by None = coded-same d.member.code refl
          by (Some builtin) = refl

      found-same : begins_by_name s birth object (callee_of s.program (Some d))
          ≡ begins s birth object (begun_at s.program birth (place_if s.program (Some d)))
      found-same =
          callee-same
          ∙ sym (ap (λ f. begins s birth object (begun_known place birth f)) (methods.known s.program free hides test d
          is))
          ∙ sym (ap (λ n. begins s birth object (begun_at s.program birth (option_map place_of_number n)))
          (methods.numbered s.program free hides test d is))

    by-kind : (o : Option Kind)
        → begins_by_name s birth object (callee_of s.program (run (kind_name_if s.program o)))
        ≡ begins s birth object (begun_of s.program birth o)
    by-kind None = ap (λ d. begins_by_name s birth object (callee_of s.program d)) run-nobody
    by-kind (Some (Array type)) = ap (λ d. begins_by_name s birth object (callee_of s.program d))
        (run-array (type_name s.program type))
    by-kind (Some (Instance class)) = by (run (class_name s.program class)) refl
      where
        by : (o : Option (Declared Method)) → run (class_name s.program class) ≡ o
            → begins_by_name s birth object (callee_of s.program o)
            ≡ begins s birth object (begun_at s.program birth (place_if s.program o))
        by None e = refl
        by (Some d) e =
            found-same d (virtual-is s.program free hides (class_name s.program class) (codes "run") (codes "()V") d e)

  starts-same : (birth : ℕ) (o : Option Object) → object_at s.world birth ≡ o → starts_by_name s birth o
      ≡ starts s h birth o
  starts-same birth None e = refl
  starts-same birth (Some object) e =
      let class : class_of object.contents ≡ kind_name_if s.program (kind_held h birth) =
      sym (ap class_if e) ∙ class_held s.program h s.world shown birth in
      ap (λ (begun : Completion). start_if begun (is_some object.thread) (nat_le 64 (length s.world.threads)))
      (ap (λ n. begins_by_name s birth object (callee_of s.program (run n))) class
      ∙ by-kind birth object (kind_held h birth))

  started-same : (r : Result (Option ℕ) Fault) → started_by_name s r ≡ started s h r
  started-same (Err fault) = refl
  started-same (Ok None) = refl
  started-same (Ok (Some birth)) = starts-same birth (object_at s.world birth) refl

  -- the machine's own methods on objects
  pub own-alike : (m : Member) → OwnAlike (own_call h) s m
  own-alike m PrintInt printing name descriptor = cc
  own-alike m PrintLong printing name descriptor = cc
  own-alike m PutByte printing name descriptor = cc
  own-alike m Initialize printing name descriptor = refl
  own-alike m RunThread printing name descriptor = refl
  own-alike m StartThread printing name descriptor = started-same (ref_on s.frame.stack)
  own-alike m JoinThread printing name descriptor = refl
