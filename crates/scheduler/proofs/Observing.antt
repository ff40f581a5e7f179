-- All that a world shows is read off the cells.
use Rattle.std.proofs.Common.{◌≡◌, ◌-◌, ℕ, List, Option, Some, None, length, map, ap, refl, sym, ◌∙◌}
use Rattle.std.proofs.lemmas.List.{length-map}
use Rattle.std.proofs.lemmas.Option.{slice_get-map}
use Rattle.std.specs.Prelude.{slice_get}
use Rattle.std.specs.Option.{option_map}
use Rattle.model.specs.Accounts.{Account}
use Rattle.model.specs.Frames.{Frame, running}
use Rattle.model.specs.Journals.{JournalValue}
use Rattle.model.specs.Machines.{machine_of}
use Rattle.model.specs.Naming.{Naming, named_frame, named_thread}
use Rattle.model.specs.Observers.{ideal, place_in, place_of, place_of_frame}
use Rattle.model.specs.Worlds.{Thread, frames_of}
use Rattle.model.specs.Worlds.Thread.{Live, Ended}
use Rattle.join.specs.ReadBack.{birth_read}
use Rattle.instructions.specs.HeldOnCells.{helds_from}
use Rattle.instructions.specs.ListsShown.{lists_of, lists_on}
use Rattle.instructions.specs.Loaded.{Loaded}
use Rattle.join.specs.TurnsOnCells.{CellMachine}
use Rattle.scheduler.specs.OnCells.{cells_of}
use Rattle.scheduler.specs.Showing.{shown_in}
use Rattle.scheduler.specs.Worlds.{IsOf, recorded}
use Rattle.scheduler.proofs.HeldCells.{helds_are}
use Rattle.scheduler.proofs.Noting.{back}

-- ---- names of births change no place

same_frame : (h : Naming) (f : Option Frame) → option_map place_of_frame (option_map (named_frame h) f)
    ≡ option_map place_of_frame f
same_frame h None = refl
same_frame h (Some f) = refl

same_running : (h : Naming) (frames : List Frame) → option_map place_of_frame (running (map (named_frame h) frames))
    ≡ option_map place_of_frame (running frames)
same_running h frames =
    ap (λ n. option_map place_of_frame (slice_get (map (named_frame h) frames) (n - 1)))
    (length-map frames (named_frame h))
    ∙ ap (λ f. option_map place_of_frame f) (slice_get-map (named_frame h) frames (length frames - 1))
    ∙ same_frame h (slice_get frames (length frames - 1))

same_thread : (h : Naming) (thread : Option Thread)
    → option_map place_of_frame (running (frames_of (option_map (named_thread h) thread)))
    ≡ option_map place_of_frame (running (frames_of thread))
same_thread h None = refl
same_thread h (Some (Live frames)) = same_running h frames
same_thread h (Some (Ended by)) = refl

same_place : (h : Naming) (threads : List Thread) (t : ℕ)
    → option_map place_of_frame (running (frames_of (slice_get (map (named_thread h) threads) t)))
    ≡ option_map place_of_frame (running (frames_of (slice_get threads t)))
same_place h threads t =
    ap (λ thread. option_map place_of_frame (running (frames_of thread))) (slice_get-map (named_thread h) threads t)
    ∙ same_thread h (slice_get threads t)

module _ (s : Loaded) (j : JournalValue) (k : ℕ) (is : IsOf s j k) where
  pub count_is : length s.machine.world.threads ≡ length (ideal (recorded s j)).threads
  count_is =
      sym (length-map s.machine.world.threads (named_thread (birth_read s.machine.account.cells)))
      ∙ ap (λ threads. length threads) (back s j k is).threads

  pub cell_count_is : length s.machine.account.cells ≡ length (machine_of (recorded s j)).account.cells
  cell_count_is = ap (λ (a : Account). length a.cells) (back s j k is).account

  pub lists_are : lists_on s.machine ≡ lists_of (machine_of (recorded s j)).account
  lists_are = ap (λ (a : Account). lists_of a) (back s j k is).account

  pub helds_is : helds_from s.machine 0 s.machine.account.cells
      ≡ map (shown_in (machine_of (recorded s j))) (machine_of (recorded s j)).account.cells
  helds_is = helds_are s.program j.shape j.limits s.machine (machine_of (recorded s j)) is.holds is.joint
      (back s j k is)

  pub helds_on_cells : helds_from s.machine 0 s.machine.account.cells
      ≡ helds_from (cells_of (recorded s j)) 0 (cells_of (recorded s j)).account.cells
  helds_on_cells = ap (λ (x : CellMachine). helds_from x 0 x.account.cells) is.cells_are

  pub place_is : (t : ℕ) → place_in s.machine.world t ≡ place_of (recorded s j) t
  place_is t =
      sym (same_place (birth_read s.machine.account.cells) s.machine.world.threads t)
      ∙ ap (λ threads. option_map place_of_frame (running (frames_of (slice_get threads t)))) (back s j k is).threads
