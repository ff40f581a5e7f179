use Rattle.std.proofs.Common.{codes, ◌≡◌, ℕ, List, [], Bool, true, false, if◌then◌else◌, Option, Some, None, Result, Ok}
use Rattle.std.proofs.Common.{Err, refl, ◌∙◌, ap}
use Rattle.model.specs.declared.turns.Fault.{Fault}
use Rattle.model.specs.declared.turns.Exception.TheVariants.{IllegalMonitorState}
use Rattle.model.specs.declared.instructions.MonitorOperation.{MonitorOperation}
use Rattle.model.specs.declared.instructions.MonitorOperation.TheVariants.{Enter, Exit}
use Rattle.model.specs.declared.colours.Cell.{Cell}
use Rattle.model.specs.Frames.{ref_on, running, replaced}
use Rattle.model.specs.Worlds.{World}
use Rattle.model.specs.Monitors.{is_owner, entered, exited, monitor_of, with_monitor_of}
use Rattle.model.specs.Completions.{Completion, Site, frames_in, moves_in, raises}
use Rattle.model.specs.Table.Monitors.{moved_with, enter_if, enters, exits, operates, operates_if, operates_on}
use Rattle.model.specs.Table.Monitors.{monitor_operated}
use Rattle.model.specs.Table.Objects.{is_instance}
use Rattle.model.specs.Collector.Places.{Reach}
use Rattle.model.proofs.CollectorLemmas.Known.{stack_known}
use Rattle.model.proofs.CollectorLemmas.Words.{ref_on-known}
use Rattle.join.specs.Naming.{Naming, named_ref}
use Rattle.join.specs.OnCells.{site_on, completion_on, on_cells, InCell, ReachedInCells}
use Rattle.join.proofs.Monitors.{monitor_of_on_cells, with_monitor_on_cells}
use Rattle.join.proofs.Naming.{renamed, ref_on_named, replaced_named}
use Rattle.join.proofs.Completions.{moves_on_cells}
use Rattle.join.proofs.Table.Objects.{instance_on_cells}

-- monitorenter and monitorexit come to the same on cells: a birth's monitor is that of its cell's object

module _ (h : Naming) (cells : List Cell) where
  module _ (s : Site) (u : ReachedInCells h cells s.world) where
    abbrev image : Site
    image = site_on h cells s

    moved_on_cells : (w x : World) → x ≡ on_cells h cells w → moved_with image x
        ≡ completion_on h cells (moved_with s w)
    moved_on_cells w x e = rw e (ap (moves_in (on_cells h cells w) image) (replaced_named h s.next s.frame 1 [])
        ∙ moves_on_cells h cells w s (replaced s.next s.frame 1 []))

    enter_on_cells : (x y : Completion) (may full : Bool) → x ≡ completion_on h cells y → enter_if x may full
        ≡ completion_on h cells (enter_if y may full)
    enter_on_cells x y false full e = refl
    enter_on_cells x y true true e = refl
    enter_on_cells x y true false e = e

    exit_on_cells : (x y : Completion) (owns : Bool) → x ≡ completion_on h cells y
        → (if owns then x else raises IllegalMonitorState) ≡ completion_on h cells (if owns then y
        else raises IllegalMonitorState)
    exit_on_cells x y true e = e
    exit_on_cells x y false e = refl

    operates_on_cells : (operation : MonitorOperation) (b : ℕ) → InCell h cells s.world b
        → operates image operation (h b) ≡ completion_on h cells (operates s operation b)
    operates_on_cells Enter b k =
        ap (enters image (h b)) (monitor_of_on_cells h cells s.world b k)
        ∙ enter_on_cells _ _ _ _ (moved_on_cells (with_monitor_of s.world b (entered s.thread (monitor_of s.world b))) _
        (with_monitor_on_cells h cells s.world b (entered s.thread (monitor_of s.world b)) u.named k))
    operates_on_cells Exit b k =
        ap (exits image (h b)) (monitor_of_on_cells h cells s.world b k)
        ∙ exit_on_cells _ _ (is_owner s.thread (monitor_of s.world b).owner)
        (moved_on_cells (with_monitor_of s.world b (exited (monitor_of s.world b))) _
        (with_monitor_on_cells h cells s.world b (exited (monitor_of s.world b)) u.named k))

    there_on_cells : (operation : MonitorOperation) (b : ℕ) (there : Bool) → InCell h cells s.world b
        → operates_if image operation (h b) there ≡ completion_on h cells (operates_if s operation b there)
    there_on_cells operation b true k = operates_on_cells operation b k
    there_on_cells operation b false k = refl

    operates_on_on_cells : (operation : MonitorOperation) (r : Result (Option ℕ) Fault)
        → ((b : ℕ) → r ≡ Ok (Some b) → Reach s.world b) → operates_on image operation (renamed h (named_ref h) r)
        ≡ completion_on h cells (operates_on s operation r)
    operates_on_on_cells operation (Err fault) k = refl
    operates_on_on_cells operation (Ok None) k = refl
    operates_on_on_cells operation (Ok (Some b)) k =
        let there = u.reached b (k b refl) in
        ap (operates_if image operation (h b)) (instance_on_cells h cells s u (codes "java/lang/Object") b there)
        ∙ there_on_cells operation b (is_instance s (codes "java/lang/Object") b) there

    pub monitor_operated_on_cells : running (frames_in s) ≡ Some s.frame → (operation : MonitorOperation)
        → monitor_operated image operation ≡ completion_on h cells (monitor_operated s operation)
    monitor_operated_on_cells e operation = rw (ref_on_named h s.frame.stack)
        (operates_on_on_cells operation (ref_on s.frame.stack) (λ b k. ref_on-known (Reach s.world) s.frame.stack b
        (stack_known s.world s.thread _ s.frame e) k))
