-- athrow by numbers is what the instruction table says by names.
use Rattle.std.proofs.Common.{◌≡◌, ℕ, ◌+◌, List, length, slice_get, Bool, true, false, Option, Some, None, Result, Ok}
use Rattle.std.proofs.Common.{Err, is_some, refl, sym, ap, ◌∙◌}
use Rattle.std.specs.Prelude.{codes, if◌then◌else◌}
use Rattle.std.specs.List.{find}
use Rattle.std.specs.Option.{option_map}
use Rattle.model.specs.declared.instructions.Instruction.TheVariants.{Throw}
use Rattle.model.specs.declared.turns.Fault.{Fault}
use Rattle.model.specs.declared.turns.Fault.TheVariants.{WrongClass}
use Rattle.model.specs.declared.values.Value.{Value}
use Rattle.model.specs.Accepted.BuiltinNames.{has_builtin_name}
use Rattle.model.specs.Accepted.Refusals.{refusal_of}
use Rattle.model.specs.ClassListings.{ClassListing}
use Rattle.model.specs.Classes.Builtin.{builtin_classes}
use Rattle.model.specs.Classes.Named.{builtin, class_named, or_else}
use Rattle.model.specs.Classes.Types.{is_subtype}
use Rattle.model.specs.Completions.{Completion, Site}
use Rattle.model.specs.Completions.Completion.{Faults, Throws}
use Rattle.model.specs.Frames.{ref_on}
use Rattle.model.specs.Objects.{class_if}
use Rattle.model.specs.Table.Next.{by_family}
use Rattle.model.specs.Table.Throws.{throws}
use Rattle.model.specs.Worlds.{Object}
use Rattle.resolve.specs.Hierarchies.{IsHierarchy}
use Rattle.resolve.specs.Numbers.{all_classes}
use Rattle.linking.proofs.ClassTableLemmas.{name-at, subtype-names}
use Rattle.linking.proofs.RunLemmas.{hierarchy as accepted_hierarchy, none_hides}
use Rattle.instructions.specs.declared.kinds.Kind.{Kind}
use Rattle.instructions.specs.declared.kinds.Kind.TheVariants.{Instance, Array}
use Rattle.instructions.specs.ByNumbers.{IsNumbered}
use Rattle.instructions.specs.Heaps.{HeapValue, kind_held}
use Rattle.instructions.specs.Shown.{class_name, kind_name, kind_name_if, name_or_none}
use Rattle.instructions.specs.Throwing.{is_throwable, throws_kind, throws_operand}
use Rattle.instructions.proofs.CatchLemmas.{class-nowhere, throwable-at}
use Rattle.instructions.proofs.KindsHeld.{array-object, kind-below, nobody-below}
use Rattle.instructions.proofs.Throwables.{class_held}
use Rattle.instructions.proofs.Upwards.{unlisted}

-- ---- Throwable is there

throwable-own : is_some (builtin (codes "java/lang/Throwable")) ≡ true
unfolding builtin_classes
throwable-own = refl

module _ (program : List ClassListing) (hierarchy : IsHierarchy program)
    (hides : find has_builtin_name program ≡ None) where
  record IsThere : Type 0 where
    class : ClassListing
    named : class_named program (codes "java/lang/Throwable") ≡ Some class

  there : IsThere
  there =
      by (class_named program (codes "java/lang/Throwable")) refl
      (ap (λ o. is_some (or_else o (builtin (codes "java/lang/Throwable"))))
      (unlisted program hierarchy hides (codes "java/lang/Throwable") throwable-own) ∙ throwable-own)
    where
      by : (o : Option ClassListing) → class_named program (codes "java/lang/Throwable") ≡ o → is_some o ≡ true
          → IsThere
      by None is e = cc
      by (Some c) is e = record { class = c; named = is }

  -- ---- what is thrown

  nobody : is_subtype program (kind_name_if program None) (codes "java/lang/Throwable") ≡ false
  nobody = nobody-below program hierarchy hides (codes "java/lang/Throwable") there.class there.named

  instance : (k : ℕ) (o : Option ClassListing) → slice_get (all_classes program) k ≡ o
      → is_subtype program (class_name program k) (codes "java/lang/Throwable") ≡ is_throwable program (Instance k)
  instance k None is =
      ap (λ names. is_subtype program (name_or_none names) (codes "java/lang/Throwable"))
      (name-at program k ∙ ap (option_map (λ (c : ClassListing). c.name)) is)
      ∙ nobody ∙ sym (class-nowhere program k (length program + 1) is)
  instance k (Some c) is =
      ap (λ names. is_subtype program (name_or_none names) (codes "java/lang/Throwable"))
      (name-at program k ∙ ap (option_map (λ (c : ClassListing). c.name)) is)
      ∙ sym (subtype-names program k (length program + 1) c (codes "java/lang/Throwable") is (throwable-at program))

  -- what can be thrown by its number can be by its name
  pub throwable-named : (kind : Kind)
      → is_subtype program (kind_name program kind) (codes "java/lang/Throwable") ≡ is_throwable program kind
  throwable-named (Instance k) = instance k (slice_get (all_classes program) k) refl
  throwable-named (Array type) =
      kind-below program hierarchy hides (codes "java/lang/Throwable") there.class there.named refl (Array type)
      ∙ sym (array-object program hierarchy hides (codes "java/lang/Throwable") there.class there.named)

  abbrev thrown_if : ℕ → Bool → Completion
  thrown_if birth b = if b then Throws birth else Faults WrongClass

  of-kind : (birth : ℕ) (o : Option Kind)
      → thrown_if birth (is_subtype program (kind_name_if program o) (codes "java/lang/Throwable"))
      ≡ throws_kind program birth o
  of-kind birth None = ap (thrown_if birth) nobody
  of-kind birth (Some kind) = ap (thrown_if birth) (throwable-named kind)

pub throw_agrees : (s : Site) (h : HeapValue) (slots : List Value) → IsNumbered s h slots → refusal_of s.program ≡ None
    → by_family s Throw ≡ throws_operand s.program h (ref_on s.frame.stack)
throw_agrees s h slots shown accepted = by (ref_on s.frame.stack)
  where
    by : (r : Result (Option ℕ) Fault) → throws s r ≡ throws_operand s.program h r
    by (Err fault) = refl
    by (Ok None) = refl
    by (Ok (Some birth)) =
        ap (λ name. if is_subtype s.program name (codes "java/lang/Throwable") then Throws birth else Faults WrongClass)
        (ap (λ (objects : List Object). class_if (slice_get objects birth)) shown.objects_are
        ∙ class_held s.program h birth)
        ∙ of-kind s.program (accepted_hierarchy s.program accepted) (none_hides s.program accepted) birth
        (kind_held h birth)
