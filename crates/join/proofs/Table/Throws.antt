use Rattle.std.proofs.Common.{◌≡◌, ℕ, List, Bool, true, false, if◌then◌else◌, codes, Option, Some, None, Result, Ok}
use Rattle.std.proofs.Common.{Err, refl, ◌∙◌, ap}
use Rattle.model.specs.declared.turns.Fault.{Fault}
use Rattle.model.specs.declared.turns.Fault.TheVariants.{WrongClass}
use Rattle.model.specs.declared.colours.Cell.{Cell}
use Rattle.model.specs.Frames.{running}
use Rattle.model.specs.Completions.{Site, frames_in}
use Rattle.model.specs.Completions.Completion.{Throws, Faults}
use Rattle.model.specs.Table.Throws.{throws, threw}
use Rattle.model.specs.Collector.Places.{Reach}
use Rattle.join.specs.Naming.{Naming, named_ref}
use Rattle.join.specs.OnCells.{site_on, completion_on, ReachedInCells}
use Rattle.join.proofs.Naming.{renamed, ref_on_named}
use Rattle.join.proofs.Table.Objects.{instance_on_cells, operand_reached}

-- athrow comes to the same on cells

module _ (h : Naming) (cells : List Cell) (s : Site) (u : ReachedInCells h cells s.world) where
  abbrev image : Site
  image = site_on h cells s

  throw_if_on_cells : (b : ℕ) (is : Bool) → (if is then Throws (h b) else Faults WrongClass)
      ≡ completion_on h cells (if is then Throws b else Faults WrongClass)
  throw_if_on_cells b true = refl
  throw_if_on_cells b false = refl

  throws_on_cells : (r : Result (Option ℕ) Fault) → ((b : ℕ) → r ≡ Ok (Some b) → Reach s.world b)
      → throws image (renamed h (named_ref h) r) ≡ completion_on h cells (throws s r)
  throws_on_cells (Err fault) k = refl
  throws_on_cells (Ok None) k = refl
  throws_on_cells (Ok (Some b)) k = ap (λ (is : Bool). if is then Throws (h b) else Faults WrongClass)
      (instance_on_cells h cells s u (codes "java/lang/Throwable") b (u.reached b (k b refl))) ∙ throw_if_on_cells b _

  pub threw_on_cells : running (frames_in s) ≡ Some s.frame → threw image ≡ completion_on h cells (threw s)
  threw_on_cells e = rw (ref_on_named h s.frame.stack) (throws_on_cells _ (operand_reached h cells s u e))
