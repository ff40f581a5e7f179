use Rattle.std.proofs.Common.{◌≡◌, ℕ, List, [], ◌∷◌, map, Result, Ok, Err, refl, sym, ◌∙◌, ap}
use Rattle.model.specs.declared.turns.Exception.{Exception}
use Rattle.model.specs.declared.turns.Exception.TheVariants.{Arithmetic, NullPointer, ClassCast, NegativeArraySize}
use Rattle.model.specs.declared.turns.Exception.TheVariants.{ArrayStore, IllegalMonitorState, ArrayIndexOutOfBounds}
use Rattle.model.specs.declared.turns.Exception.TheVariants.{IllegalThreadState, StackOverflow, ExceptionInInitializer}
use Rattle.model.specs.declared.turns.Exception.TheVariants.{NoClassDefFound}
use Rattle.model.specs.declared.turns.Abrupt.{Abrupt}
use Rattle.model.specs.declared.turns.Abrupt.TheVariants.{Fault as Faulted, Throw}
use Rattle.model.specs.declared.colours.Cell.{Cell}
use Rattle.model.specs.Frames.{Frame, Moved, with_running, replaced}
use Rattle.model.specs.Values.{births_of}
use Rattle.model.specs.declared.values.Value.{Value}
use Rattle.model.specs.Words.{puts}
use Rattle.model.specs.Worlds.{World, with_thread}
use Rattle.model.specs.Worlds.Thread.{Live}
use Rattle.model.specs.Completions.{Site, frames_in, with_frame, moves_in, raises, completes_abruptly, completes}
use Rattle.model.specs.Completions.Completion.{Goes, Throws}
use Rattle.join.specs.Naming.{Naming, named_value, named_frame, named_moved, named_result}
use Rattle.join.specs.OnCells.{on_cells, completion_on, site_on}
use Rattle.join.proofs.Naming.{replaced_named, births_named}
use Rattle.join.proofs.Frames.{running_named, frames_on_cells, thread_on_cells}

-- what the families share: an instruction that changes the running frame alone, or puts one word, or raises an
-- exception, comes to the same on cells

module _ (h : Naming) where
  module _ (cells : List Cell) where
    pub frame_on_cells : (w : World) (s : Site) (f : Frame)
        → with_frame (on_cells h cells w) (site_on h cells s) (named_frame h f) ≡ on_cells h cells (with_frame w s f)
    frame_on_cells w s f =
        ap (λ fs. with_thread (on_cells h cells w) s.thread (Live (with_running fs (named_frame h f))))
        (frames_on_cells h cells s.world s.thread)
        ∙ ap (λ fs. with_thread (on_cells h cells w) s.thread (Live fs)) (running_named h (frames_in s) f)
        ∙ thread_on_cells h cells w s.thread (Live (with_running (frames_in s) f))

    pub moves_on_cells : (w : World) (s : Site) (m : Moved)
        → moves_in (on_cells h cells w) (site_on h cells s) (named_moved h m) ≡ completion_on h cells (moves_in w s m)
    moves_on_cells w s m = ap (λ after. Goes after (map h m.writes)) (frame_on_cells w s m.frame)

    pub raises_on_cells : h 2 ≡ 2 → (e : Exception) → raises e ≡ completion_on h cells (raises e)
    raises_on_cells k Arithmetic = refl
    raises_on_cells k NullPointer = refl
    raises_on_cells k ClassCast = refl
    raises_on_cells k NegativeArraySize = refl
    raises_on_cells k ArrayStore = refl
    raises_on_cells k IllegalMonitorState = refl
    raises_on_cells k ArrayIndexOutOfBounds = refl
    raises_on_cells k IllegalThreadState = refl
    raises_on_cells k StackOverflow = ap Throws (sym k)
    raises_on_cells k ExceptionInInitializer = refl
    raises_on_cells k NoClassDefFound = refl

    pub abruptly_on_cells : h 2 ≡ 2 → (a : Abrupt) → completes_abruptly a ≡ completion_on h cells (completes_abruptly a)
    abruptly_on_cells k (Faulted fault) = refl
    abruptly_on_cells k (Throw exception) = raises_on_cells k exception

    pub completes_on_cells : h 2 ≡ 2 → (s : Site) (r : Result Moved Abrupt)
        → completes (site_on h cells s) (named_result h r) ≡ completion_on h cells (completes s r)
    completes_on_cells k s (Ok m) = moves_on_cells s.world s m
    completes_on_cells k s (Err a) = abruptly_on_cells k a

    -- so many operands go, and a value was put into a slot or a word of a world that is known on cells
    pub puts_on_cells : (after on : World) (s : Site) (n : ℕ) (v : Value) → on ≡ on_cells h cells after
        → puts on (site_on h cells s) n (named_value h v) ≡ completion_on h cells (puts after s n v)
    puts_on_cells after on s n v e =
        rw (e, births_named h (v ∷ []))
        (ap (λ f. Goes (with_frame (on_cells h cells after) (site_on h cells s) f) (map h (births_of (v ∷ []))))
        (ap (λ (m : Moved). m.frame) (replaced_named h s.next s.frame n []))
        ∙ ap (λ w. Goes w (map h (births_of (v ∷ [])))) (frame_on_cells after s (replaced s.next s.frame n []).frame))
