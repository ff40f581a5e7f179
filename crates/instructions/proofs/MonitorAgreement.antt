-- monitorenter and monitorexit by numbers are what the instruction table says by names.
use Rattle.std.proofs.Common.{◌≡◌, ℕ, List, length, true, ◌==◌, Option, Some, None, Result, Ok, Err, refl, sym, ap, ◌∙◌}
use Rattle.std.specs.Prelude.{codes, is_some}
use Rattle.std.specs.List.{find}
use Rattle.std.proofs.lemmas.Bool.Decides.{Decides-eqb}
use Rattle.model.specs.declared.instructions.Instruction.TheVariants.{Monitor}
use Rattle.model.specs.declared.instructions.MonitorOperation.{MonitorOperation}
use Rattle.model.specs.declared.turns.Fault.{Fault}
use Rattle.model.specs.declared.values.Value.{Value}
use Rattle.model.specs.Accepted.BuiltinNames.{has_builtin_name}
use Rattle.model.specs.Accepted.Refusals.{refusal_of}
use Rattle.model.specs.ClassListings.{ClassListing}
use Rattle.model.specs.Classes.Builtin.{builtin_classes}
use Rattle.model.specs.Classes.Named.{builtin, class_named, or_else}
use Rattle.model.specs.Classes.Types.{is_subtype}
use Rattle.model.specs.Completions.{Site}
use Rattle.model.specs.Frames.{ref_on}
use Rattle.model.specs.Table.Monitors.{operates_if, operates_on}
use Rattle.model.specs.Table.Next.{by_family}
use Rattle.resolve.specs.Hierarchies.{IsHierarchy}
use Rattle.linking.specs.ClassTables.{class_tables, is_subtype_in}
use Rattle.linking.proofs.RunLemmas.{hierarchy as accepted_hierarchy, none_hides}
use Rattle.instructions.specs.declared.kinds.Kind.{Kind}
use Rattle.instructions.specs.declared.kinds.Kind.TheVariants.{Instance, Array}
use Rattle.instructions.specs.ByNumbers.{IsNumbered}
use Rattle.instructions.specs.Heaps.{HeapValue, kind_held}
use Rattle.instructions.specs.MonitorsByNumbers.{is_object, operated_by_monitors, operates_by}
use Rattle.instructions.specs.Shown.{kind_name_if}
use Rattle.instructions.proofs.KindsHeld.{array-object, class, class_held, kind-below, nobody-below}
use Rattle.instructions.proofs.Upwards.{unlisted}

-- ---- Object is there

object-own : is_some (builtin (codes "java/lang/Object")) ≡ true
unfolding builtin_classes
object-own = refl

module _ (program : List ClassListing) (hierarchy : IsHierarchy program)
    (hides : find has_builtin_name program ≡ None) where
  record IsThere : Type 0 where
    listing : ClassListing
    named : class_named program (codes "java/lang/Object") ≡ Some listing

  there : IsThere
  there =
      by (class_named program (codes "java/lang/Object")) refl
      (ap (λ o. is_some (or_else o (builtin (codes "java/lang/Object"))))
      (unlisted program hierarchy hides (codes "java/lang/Object") object-own) ∙ object-own)
    where
      by : (o : Option ClassListing) → class_named program (codes "java/lang/Object") ≡ o → is_some o ≡ true
          → IsThere
      by None is e = cc
      by (Some c) is e = record { listing = c; named = is }

  abbrev number : ℕ
  number = (class program hierarchy hides (codes "java/lang/Object") there.listing there.named).number

  -- its number is that of the first of the machine's own classes
  first : true ≡ (number == length program)
  first = array-object program hierarchy hides (codes "java/lang/Object") there.listing there.named

  number-is : number ≡ length program
  number-is = (Decides-eqb number (length program)).0 (sym first)

  -- what is an Object by its number is one by its name
  pub object-named : (o : Option Kind) → is_subtype program (kind_name_if program o) (codes "java/lang/Object")
      ≡ is_object program o
  object-named None = nobody-below program hierarchy hides (codes "java/lang/Object") there.listing there.named
  object-named (Some (Instance k)) =
      kind-below program hierarchy hides (codes "java/lang/Object") there.listing there.named refl (Instance k)
      ∙ ap (is_subtype_in (class_tables program) k) number-is
  object-named (Some (Array type)) =
      kind-below program hierarchy hides (codes "java/lang/Object") there.listing there.named refl (Array type)
      ∙ sym first

pub monitor_agrees : (s : Site) (h : HeapValue) (slots : List Value) → IsNumbered s h slots → refusal_of s.program
    ≡ None
    → (operation : MonitorOperation) → by_family s (Monitor operation) ≡ operated_by_monitors s h operation
monitor_agrees s h slots shown accepted operation = by (ref_on s.frame.stack)
  where
    by : (r : Result (Option ℕ) Fault) → operates_on s operation r ≡ operates_by s h operation r
    by (Err fault) = refl
    by (Ok None) = refl
    by (Ok (Some birth)) =
        ap (λ name. operates_if s operation birth (is_subtype s.program name (codes "java/lang/Object")))
        (class_held s.program h s.world shown.objects_are birth)
        ∙ ap (operates_if s operation birth)
        (object-named s.program (accepted_hierarchy s.program accepted) (none_hides s.program accepted)
        (kind_held h birth))
