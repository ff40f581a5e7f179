use Rattle.std.proofs.Common.{◌≡◌, ℕ, ℤ, List, [], Some, Result, Ok, Err, refl, ◌∙◌, ap}
use Rattle.model.specs.declared.builtins.Builtin.{Builtin}
use Rattle.model.specs.declared.builtins.Builtin.TheVariants.{PrintInt, PrintLong, PutByte, Initialize, RunThread}
use Rattle.model.specs.declared.builtins.Builtin.TheVariants.{StartThread, JoinThread}
use Rattle.model.specs.declared.turns.Fault.{Fault}
use Rattle.model.specs.declared.colours.Cell.{Cell}
use Rattle.model.specs.Frames.{running, replaced}
use Rattle.model.specs.Printing.{decimal_line, low_byte}
use Rattle.model.specs.Completions.{Completion, Site, frames_in, with_frame}
use Rattle.model.specs.Completions.Completion.{Prints}
use Rattle.model.specs.Table.Builtins.{prints_on, builtin_call}
use Rattle.model.specs.Collector.Places.{Reach}
use Rattle.model.proofs.CollectorLemmas.Known.{stack_known}
use Rattle.model.proofs.CollectorLemmas.Words.{ref_on-known}
use Rattle.join.specs.Naming.{Naming}
use Rattle.join.specs.OnCells.{site_on, completion_on, ReachedInCells}
use Rattle.join.proofs.Naming.{ref_on_named, int_on_named, long_on_named, replaced_named}
use Rattle.join.proofs.Completions.{frame_on_cells}
use Rattle.join.proofs.Table.Threads.{nothing_on_cells, started_on_cells, joined_on_cells}

-- the machine's own methods come to the same on cells

module _ (h : Naming) (cells : List Cell) (s : Site) (u : ReachedInCells h cells s.world) where
  abbrev image : Site
  image = site_on h cells s

  abbrev image_of : Completion → Completion
  image_of c = completion_on h cells c

  prints_on_cells : (bytes : ℤ → List ℕ) (r : Result ℤ Fault) → prints_on image bytes r ≡ image_of (prints_on s bytes r)
  prints_on_cells bytes (Err fault) = refl
  prints_on_cells bytes (Ok z) =
      ap (λ f. Prints (with_frame image.world image f) (bytes z))
      (ap (λ m. m.frame) (replaced_named h s.next s.frame 1 []))
      ∙ ap (λ w. Prints w (bytes z)) (frame_on_cells h cells s.world s (replaced s.next s.frame 1 []).frame)

  pub builtin_on_cells : running (frames_in s) ≡ Some s.frame → (builtin : Builtin) → builtin_call image builtin
      ≡ image_of (builtin_call s builtin)
  builtin_on_cells e PrintInt = rw (int_on_named h s.frame.stack) (prints_on_cells decimal_line _)
  builtin_on_cells e PrintLong = rw (long_on_named h s.frame.stack) (prints_on_cells decimal_line _)
  builtin_on_cells e PutByte = rw (int_on_named h s.frame.stack) (prints_on_cells low_byte _)
  builtin_on_cells e Initialize = nothing_on_cells h cells s u
  builtin_on_cells e RunThread = nothing_on_cells h cells s u
  builtin_on_cells e StartThread = rw (ref_on_named h s.frame.stack)
      (started_on_cells h cells s u _ (λ b k. ref_on-known (Reach s.world) s.frame.stack b
      (stack_known s.world s.thread _ s.frame e) k))
  builtin_on_cells e JoinThread = rw (ref_on_named h s.frame.stack)
      (joined_on_cells h cells s u _ (λ b k. ref_on-known (Reach s.world) s.frame.stack b
      (stack_known s.world s.thread _ s.frame e) k))
