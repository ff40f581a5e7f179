use Rattle.std.proofs.Common.{◌≡◌, ℕ, pos, List, [], ◌∷◌, Bool, true, false, Option, Some, None, Result, Ok, Err, refl}
use Rattle.std.proofs.Common.{◌∙◌, ap}
use Rattle.model.specs.declared.instructions.ClassOperation.{ClassOperation}
use Rattle.model.specs.declared.instructions.ClassOperation.TheVariants.{New, CheckCast, InstanceOf}
use Rattle.model.specs.declared.turns.Fault.{Fault}
use Rattle.model.specs.declared.values.Value.TheVariants.{Int, Ref}
use Rattle.model.specs.declared.colours.Cell.{Cell}
use Rattle.model.specs.Classes.Types.{is_subtype}
use Rattle.model.specs.Frames.{ref_on, running, replaced}
use Rattle.model.specs.Completions.{Site, frames_in, moves_in}
use Rattle.model.specs.Table.Objects.{is_instance, cast_if, cast, reported_if, tested, class_operated}
use Rattle.model.specs.Collector.Places.{Reach}
use Rattle.model.proofs.CollectorLemmas.Known.{stack_known}
use Rattle.model.proofs.CollectorLemmas.Words.{ref_on-known}
use Rattle.join.specs.Naming.{Naming, named_ref}
use Rattle.join.specs.OnCells.{site_on, completion_on, InCell, ReachedInCells}
use Rattle.join.proofs.Cells.{class_in_cell}
use Rattle.join.proofs.Naming.{renamed, ref_on_named, replaced_named}
use Rattle.join.proofs.Completions.{moves_on_cells}

-- new, checkcast and instanceof come to the same on cells: a birth has the class of its cell's object

module _ (h : Naming) (cells : List Cell) (s : Site) (u : ReachedInCells h cells s.world) where
  abbrev image : Site
  image = site_on h cells s

  pub instance_on_cells : (name : List ℕ) (b : ℕ) → InCell h cells s.world b → is_instance image name (h b)
      ≡ is_instance s name b
  instance_on_cells name b k = ap (λ class. is_subtype s.program class name) (class_in_cell h cells s.world b k)

  cast_if_on_cells : (b : ℕ) (is : Bool) → cast_if image (h b) is ≡ completion_on h cells (cast_if s b is)
  cast_if_on_cells b true = ap (moves_in image.world image) (replaced_named h s.next s.frame 1 (Ref (Some b) ∷ []))
      ∙ moves_on_cells h cells s.world s (replaced s.next s.frame 1 (Ref (Some b) ∷ []))
  cast_if_on_cells b false = refl

  reported_on_cells : (is : Bool) → reported_if image is ≡ completion_on h cells (reported_if s is)
  reported_on_cells true = ap (moves_in image.world image) (replaced_named h s.next s.frame 1 (Int (pos 1) ∷ []))
      ∙ moves_on_cells h cells s.world s (replaced s.next s.frame 1 (Int (pos 1) ∷ []))
  reported_on_cells false = ap (moves_in image.world image) (replaced_named h s.next s.frame 1 (Int (pos 0) ∷ []))
      ∙ moves_on_cells h cells s.world s (replaced s.next s.frame 1 (Int (pos 0) ∷ []))

  cast_on_cells : (name : List ℕ) (r : Result (Option ℕ) Fault) → ((b : ℕ) → r ≡ Ok (Some b) → Reach s.world b)
      → cast image name (renamed h (named_ref h) r) ≡ completion_on h cells (cast s name r)
  cast_on_cells name (Err fault) k = refl
  cast_on_cells name (Ok None) k = ap (moves_in image.world image) (replaced_named h s.next s.frame 1 (Ref None ∷ []))
      ∙ moves_on_cells h cells s.world s (replaced s.next s.frame 1 (Ref None ∷ []))
  cast_on_cells name (Ok (Some b)) k = ap (cast_if image (h b)) (instance_on_cells name b (u.reached b (k b refl)))
      ∙ cast_if_on_cells b (is_instance s name b)

  tested_on_cells : (name : List ℕ) (r : Result (Option ℕ) Fault) → ((b : ℕ) → r ≡ Ok (Some b) → Reach s.world b)
      → tested image name (renamed h (named_ref h) r) ≡ completion_on h cells (tested s name r)
  tested_on_cells name (Err fault) k = refl
  tested_on_cells name (Ok None) k = reported_on_cells false
  tested_on_cells name (Ok (Some b)) k = ap (reported_if image) (instance_on_cells name b (u.reached b (k b refl)))
      ∙ reported_on_cells (is_instance s name b)

  module _ (e : running (frames_in s) ≡ Some s.frame) where
    pub operand_reached : (b : ℕ) → ref_on s.frame.stack ≡ Ok (Some b) → Reach s.world b
    operand_reached b k = ref_on-known (Reach s.world) s.frame.stack b (stack_known s.world s.thread _ s.frame e) k

    pub class_operated_on_cells : (operation : ClassOperation) (name : List ℕ) → class_operated image operation name
        ≡ completion_on h cells (class_operated s operation name)
    class_operated_on_cells New name = refl
    class_operated_on_cells CheckCast name = rw (ref_on_named h s.frame.stack) (cast_on_cells name _ operand_reached)
    class_operated_on_cells InstanceOf name = rw (ref_on_named h s.frame.stack) (tested_on_cells name _ operand_reached)
