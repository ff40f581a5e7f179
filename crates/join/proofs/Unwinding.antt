use Rattle.std.proofs.Common.{◌≡◌, ℕ, suc, List, [], ◌∷◌, ◌++◌, map, filter, reverse, nat_le, slice_get, Bool, true}
use Rattle.std.proofs.Common.{false, not, ◌&&◌, if◌then◌else◌, Some, refl, sym, ◌∙◌, ap}
use Rattle.std.proofs.lemmas.List.{map-append, reverse-append}
use Rattle.model.specs.declared.turns.Fault.TheVariants.{StackFull}
use Rattle.model.specs.declared.turns.ClassState.TheVariants.{Failed}
use Rattle.model.specs.declared.turns.Mark.{Mark}
use Rattle.model.specs.declared.turns.Mark.TheVariants.{Unmarked, Waiting, Failing}
use Rattle.model.specs.ClassListings.{ClassListing}
use Rattle.model.specs.declared.colours.Cell.{Cell}
use Rattle.model.specs.Frames.{Frame}
use Rattle.model.specs.Worlds.{World, frames_at, with_thread, with_class_states}
use Rattle.model.specs.Worlds.Thread.{Live, Ended}
use Rattle.model.specs.Objects.{class_at}
use Rattle.model.specs.Monitors.{released_all}
use Rattle.model.specs.Initialisation.{runs_initializer, with_states}
use Rattle.model.specs.Results.{faulted}
use Rattle.model.specs.Unwinding.{handler_of, responds, is_error, Response, response_of, Landing, Way, way_from, way_of}
use Rattle.model.specs.Unwinding.{handling, failing, landed, initialised_by, without, thrown}
use Rattle.model.specs.Unwinding.Response.{Handles, Fails, Leaves}
use Rattle.model.specs.Unwinding.Landing.{Handled, Stopped, Unhandled}
use Rattle.join.specs.Naming.{Naming, Named, named_ref, named_frame, named_landing, named_way}
use Rattle.join.specs.OnCells.{on_cells, InCell, Matches}
use Rattle.join.specs.OnCells.Matches.{faults, matches}
use Rattle.join.proofs.Cells.{class_in_cell}
use Rattle.join.proofs.Monitors.{MonitorInCell, MonitorsInCells, all_released, released_fault}
use Rattle.join.proofs.Lists.{reverse-map}
use Rattle.join.proofs.Frames.{frames_on_cells, thread_on_cells}

-- a throwable does the same on cells: where it lands is reported by methods, pcs and marks, and the frames on its way
-- hold monitors of births that paths reach

module _ (h : Naming) where
  -- ---- the way

  handler_named : (program : List ClassListing) (class : List ℕ) (f : Frame) (mark : Mark)
      → handler_of program class (named_frame h f) mark ≡ handler_of program class f mark
  handler_named program class f Unmarked = refl
  handler_named program class f Waiting = refl
  handler_named program class f Failing = refl

  from_named : (f : Frame) (fs : List Frame) (r : Response) (w : Way)
      → way_from (named_frame h f) (map (named_frame h) fs) r (named_way h w) ≡ named_way h (way_from f fs r w)
  from_named f fs (Handles handler) w = refl
  from_named f fs Fails w = refl
  from_named f fs Leaves w = refl

  way_named : (program : List ClassListing) (class : List ℕ) (fs : List Frame)
      → way_of program class (map (named_frame h) fs) ≡ named_way h (way_of program class fs)
  way_named program class [] = refl
  way_named program class (f ∷ fs) =
      ap (λ o. way_from (named_frame h f) (map (named_frame h) fs)
      (responds o (runs_initializer program f && not (is_error program class)))
      (way_of program class (map (named_frame h) fs))) (handler_named program class f f.mark)
      ∙ ap (way_from (named_frame h f) (map (named_frame h) fs) (response_of program class f))
      (way_named program class fs)
      ∙ from_named f fs (response_of program class f) (way_of program class fs)

  monitors_named : (fs : List Frame) → map (λ (f : Frame). f.monitor) (map (named_frame h) fs)
      ≡ map (named_ref h) (map (λ (f : Frame). f.monitor) fs)
  monitors_named [] = refl
  monitors_named (f ∷ fs) = ap (λ ms. named_ref h f.monitor ∷ ms) (monitors_named fs)

  initialised_named : (program : List ClassListing) (fs : List Frame) → initialised_by program (map (named_frame h) fs)
      ≡ initialised_by program fs
  initialised_named program [] = refl
  initialised_named program (f ∷ fs) = go (runs_initializer program f) (initialised_named program fs)
    where
      go : (runs : Bool) → initialised_by program (map (named_frame h) fs) ≡ initialised_by program fs
          → map (λ (g : Frame). g.method.class) (if runs then named_frame h f ∷ filter (runs_initializer program)
          (map (named_frame h) fs) else filter (runs_initializer program) (map (named_frame h) fs))
          ≡ map (λ (g : Frame). g.method.class) (if runs then f ∷ filter (runs_initializer program) fs
          else filter (runs_initializer program) fs)
      go true e = ap (λ cs. f.method.class ∷ cs) e
      go false e = e

  module _ (cells : List Cell) (named : Named h cells) where
    -- ---- frames are left

    abbrev pub MonitorsOfInCells : World → List Frame → Type 0
    MonitorsOfInCells w [] = Unit {0}
    MonitorsOfInCells w (f ∷ fs) = MonitorInCell h cells w f.monitor × MonitorsOfInCells w fs

    frames_in_cells : (w : World) (fs : List Frame) → ((d : ℕ) (f : Frame) → slice_get fs d ≡ Some f
        → MonitorInCell h cells w f.monitor) → MonitorsOfInCells w fs
    frames_in_cells w [] k = tt
    frames_in_cells w (f ∷ fs) k = (k 0 f refl, frames_in_cells w fs (λ d. k (suc d)))

    one_more : (w : World) (fs : List Frame) (f : Frame) → MonitorsOfInCells w fs → MonitorInCell h cells w f.monitor
        → MonitorsOfInCells w (fs ++ f ∷ [])
    one_more w [] f k l = (l, tt)
    one_more w (g ∷ fs) f k l = (k.0, one_more w fs f k.1 l)

    backwards : (w : World) (fs : List Frame) → MonitorsOfInCells w fs → MonitorsOfInCells w (reverse fs)
    backwards w [] k = tt
    backwards w (f ∷ fs) k = rw (reverse-append (f ∷ []) fs) (one_more w (reverse fs) f (backwards w fs k.1) k.0)

    left_in_cells : (w : World) (program : List ClassListing) (class : List ℕ) (fs : List Frame)
        → MonitorsOfInCells w fs
        → MonitorsInCells h cells w (map (λ (f : Frame). f.monitor) (way_of program class fs).left)
    left_in_cells w program class [] k = tt
    left_in_cells w program class (f ∷ fs) k = go (response_of program class f) (left_in_cells w program class fs k.1)
      where
        go : (r : Response) → MonitorsInCells h cells w (map (λ (g : Frame). g.monitor) (way_of program class fs).left)
            → MonitorsInCells h cells w
            (map (λ (g : Frame). g.monitor) (way_from f fs r (way_of program class fs)).left)
        go (Handles handler) rest = tt
        go Fails rest = tt
        go Leaves rest = (k.0, rest)

    without_on_cells : (program : List ClassListing) (w : World) (t : ℕ) (left : List Frame)
        → MonitorsInCells h cells w (map (λ (f : Frame). f.monitor) left)
        → without program (on_cells h cells w) t (map (named_frame h) left)
        ≡ on_cells h cells (without program w t left)
    without_on_cells program w t left k =
        let states = w.statics.states in
        ap (λ cs. with_class_states
        (released_all (on_cells h cells w) t (map (λ (f : Frame). f.monitor) (map (named_frame h) left)))
        (with_states Failed cs states)) (initialised_named program left)
        ∙ ap (λ ms. with_class_states (released_all (on_cells h cells w) t ms)
        (with_states Failed (initialised_by program left) states)) (monitors_named left)
        ∙ ap (λ v. with_class_states v (with_states Failed (initialised_by program left) states))
        (all_released h cells named w t (map (λ (f : Frame). f.monitor) left) k)

    -- ---- the landing

    landed_on_cells : (on before w : World) (t b : ℕ) (class : List ℕ) (l : Landing) → w.fault ≡ before.fault
        → Matches h cells on before t (landed on (on_cells h cells w) t (h b) class (named_landing h l))
        (landed before w t b class l)
    landed_on_cells on before w t b class Unhandled q = matches (ap (λ v. record { after = v; writes = [] })
        (thread_on_cells h cells w t (Ended (Some class)))) q
    landed_on_cells on before w t b class (Stopped f callers) q =
        matches (ap (λ fs. record { after = with_thread (on_cells h cells w) t (Live fs); writes = [] }) frames
        ∙ ap (λ v. record { after = v; writes = [] })
        (thread_on_cells h cells w t (Live (reverse callers ++ failing f ∷ [])))) q
      where
        frames : reverse (map (named_frame h) callers) ++ named_frame h (failing f) ∷ []
            ≡ map (named_frame h) (reverse callers ++ failing f ∷ [])
        frames = ap (λ fs. fs ++ named_frame h (failing f) ∷ []) (reverse-map (named_frame h) callers)
            ∙ sym (map-append (named_frame h) (reverse callers) (failing f ∷ []))
    landed_on_cells on before w t b class (Handled handler f callers) q = go (nat_le 1 f.room)
      where
        frames : reverse (map (named_frame h) callers) ++ named_frame h (handling b handler f) ∷ []
            ≡ map (named_frame h) (reverse callers ++ handling b handler f ∷ [])
        frames = ap (λ fs. fs ++ named_frame h (handling b handler f) ∷ []) (reverse-map (named_frame h) callers)
            ∙ sym (map-append (named_frame h) (reverse callers) (handling b handler f ∷ []))

        go : (room : Bool) → Matches h cells on before t
            (if room then record {
              after = with_thread (on_cells h cells w) t
                  (Live (reverse (map (named_frame h) callers) ++ handling (h b) handler (named_frame h f) ∷ []));
              writes = h b ∷ [];
            } else faulted on t StackFull)
            (if room then record {
              after = with_thread w t (Live (reverse callers ++ handling b handler f ∷ []));
              writes = b ∷ [];
            } else faulted before t StackFull)
        go true = matches (ap (λ fs. record { after = with_thread (on_cells h cells w) t (Live fs); writes = h b ∷ [] })
            frames ∙ ap (λ v. record { after = v; writes = h b ∷ [] })
            (thread_on_cells h cells w t (Live (reverse callers ++ handling b handler f ∷ [])))) q
        go false = faults StackFull refl refl

    pub thrown_on_cells : (program : List ClassListing) (on before w : World) (t b : ℕ) → w.fault ≡ before.fault
        → InCell h cells w b → ((d : ℕ) (f : Frame) → slice_get (frames_at w t) d ≡ Some f
        → MonitorInCell h cells w f.monitor)
        → Matches h cells on before t (thrown program on (on_cells h cells w) t (h b)) (thrown program before w t b)
    thrown_on_cells program on before w t b q s k =
        let class = class_at w b in
        let fs = reverse (frames_at w t) in
        let way = way_of program class fs in
        let image : reverse (frames_at (on_cells h cells w) t)
        ≡ map (named_frame h) fs = ap reverse (frames_on_cells h cells w t)
        ∙ reverse-map (named_frame h) (frames_at w t) in
        let worlds = without_on_cells program w t way.left
        (left_in_cells w program class fs (backwards w (frames_at w t) (frames_in_cells w (frames_at w t) k))) in
        rw (class_in_cell h cells w b s, image, way_named program class fs, worlds)
        (landed_on_cells on before (without program w t way.left) t b class way.landing
        (released_fault w t (map (λ (f : Frame). f.monitor) way.left) ∙ q))
