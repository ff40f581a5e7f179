use Rattle.std.proofs.Common.{◌≡◌, ℕ, zero, suc, ◌+◌, ◌-◌, List, [], ◌∷◌, ◌++◌, length, map, set, take, drop, reverse}
use Rattle.std.proofs.Common.{replicate, slice_get, nat_le, nat_lt, ◌&&◌, Option, Some, None, refl, sym, ◌∙◌, ap}
use Rattle.std.specs.List.{slice_index_or}
use Rattle.std.specs.Option.{option_map}
use Rattle.std.proofs.lemmas.List.{length-map, map-append, map-set, take-map, drop-map}
use Rattle.std.proofs.lemmas.Option.{slice_get-map}
use Rattle.model.specs.declared.places.MethodPlace.{MethodPlace}
use Rattle.model.specs.declared.values.Value.{Value}
use Rattle.model.specs.declared.values.Value.TheVariants.{Int, Long, Ref}
use Rattle.model.specs.declared.values.Entry.TheVariants.{Unset, Holds, UpperHalf}
use Rattle.model.specs.declared.colours.Cell.{Cell}
use Rattle.model.specs.Values.{units_of_all}
use Rattle.model.specs.Frames.{Frame, running, running_frame, no_frame, with_running, callers, units_of_frames}
use Rattle.model.specs.Frames.{has_room_for, within_limits}
use Rattle.model.specs.Locals.{argument_entries, arguments_on, called_frame, frames_of_call}
use Rattle.model.specs.Worlds.{World, Thread, frames_of, frames_at, with_thread}
use Rattle.model.specs.Worlds.Thread.{Live, Ended}
use Rattle.join.specs.Naming.{Naming, named_ref, named_value, named_entry, named_frame, named_thread}
use Rattle.join.specs.OnCells.{on_cells}
use Rattle.join.proofs.Naming.{units_named}
use Rattle.join.proofs.Lists.{reverse-map}

-- a thread's frames under a naming: as many, in as much room, with the same methods, pcs and marks

module _ (h : Naming) where
  pub running_named : (fs : List Frame) (f : Frame) → with_running (map (named_frame h) fs) (named_frame h f)
      ≡ map (named_frame h) (with_running fs f)
  running_named fs f = ap (λ (n : ℕ). set (map (named_frame h) fs) (n - 1) (named_frame h f))
      (length-map fs (named_frame h)) ∙ sym (map-set (named_frame h) fs (length fs - 1) f)

  thread_frames_named : (o : Option Thread) → frames_of (option_map (named_thread h) o)
      ≡ map (named_frame h) (frames_of o)
  thread_frames_named None = refl
  thread_frames_named (Some (Live frames)) = refl
  thread_frames_named (Some (Ended by)) = refl

  pub callers_named : (fs : List Frame) → callers (map (named_frame h) fs) ≡ map (named_frame h) (callers fs)
  callers_named fs = ap (λ (n : ℕ). take (n - 1) (map (named_frame h) fs)) (length-map fs (named_frame h))
      ∙ take-map (named_frame h) (length fs - 1) fs

  pub top_running : (fs : List Frame) → running (map (named_frame h) fs) ≡ option_map (named_frame h) (running fs)
  top_running fs = ap (λ (n : ℕ). slice_get (map (named_frame h) fs) (n - 1)) (length-map fs (named_frame h))
      ∙ slice_get-map (named_frame h) fs (length fs - 1)

  -- ---- a call: the running frame gives its operands to a new one

  pub unset_named : (n : ℕ) → map (named_entry h) (replicate n Unset) ≡ replicate n Unset
  unset_named zero = refl
  unset_named (suc n) = ap (λ es. Unset ∷ es) (unset_named n)

  argument_entries_named : (vs : List Value) → argument_entries (map (named_value h) vs)
      ≡ map (named_entry h) (argument_entries vs)
  argument_entries_named [] = refl
  argument_entries_named (Int z ∷ vs) = ap (λ es. Holds (Int z) ∷ es) (argument_entries_named vs)
  argument_entries_named (Long z ∷ vs) = ap (λ es. Holds (Long z) ∷ UpperHalf ∷ es) (argument_entries_named vs)
  argument_entries_named (Ref r ∷ vs) = ap (λ es. Holds (Ref (named_ref h r)) ∷ es) (argument_entries_named vs)

  pub called_named : (method : MethodPlace) (max_locals max_stack : ℕ) (vs : List Value)
      → called_frame method max_locals max_stack (map (named_value h) vs)
      ≡ named_frame h (called_frame method max_locals max_stack vs)
  called_named method max_locals max_stack vs =
      rw (
        argument_entries_named vs,
        units_named h vs,
        map-append (named_entry h) (argument_entries vs) (replicate (max_locals - units_of_all vs) Unset),
        unset_named (max_locals - units_of_all vs),
      ) refl

  pub arguments_on_named : (n : ℕ) (stack : List Value) → arguments_on n (map (named_value h) stack)
      ≡ map (named_value h) (arguments_on n stack)
  arguments_on_named n stack = ap reverse (take-map (named_value h) n stack)
      ∙ reverse-map (named_value h) (take n stack)

  frame_at_named : (fs : List Frame) (k : ℕ) → slice_index_or (map (named_frame h) fs) k no_frame
      ≡ named_frame h (slice_index_or fs k no_frame)
  frame_at_named [] k = refl
  frame_at_named (f ∷ fs) zero = refl
  frame_at_named (f ∷ fs) (suc k) = frame_at_named fs k

  pub run_named : (fs : List Frame) → running_frame (map (named_frame h) fs) ≡ named_frame h (running_frame fs)
  run_named fs = ap (λ (n : ℕ). slice_index_or (map (named_frame h) fs) (n - 1) no_frame)
      (length-map fs (named_frame h)) ∙ frame_at_named fs (length fs - 1)

  abbrev dropped : ℕ → Frame → Frame
  dropped n f = record f { stack = drop n f.stack }

  pub call_named : (fs : List Frame) (method : MethodPlace) (max_locals max_stack n : ℕ)
      → frames_of_call (map (named_frame h) fs) method max_locals max_stack n
      ≡ map (named_frame h) (frames_of_call fs method max_locals max_stack n)
  call_named fs method max_locals max_stack n =
      let f = running_frame fs in
      ap (λ g. with_running (map (named_frame h) fs) (dropped n g) ++ called_frame method max_locals max_stack
      (arguments_on n g.stack) ∷ []) (run_named fs)
      ∙ ap (λ vs. with_running (map (named_frame h) fs) (record (named_frame h f) { stack = vs })
      ++ called_frame method max_locals max_stack (arguments_on n (map (named_value h) f.stack)) ∷ [])
      (drop-map (named_value h) n f.stack)
      ∙ ap (λ gs. gs ++ called_frame method max_locals max_stack (arguments_on n (map (named_value h) f.stack)) ∷ [])
      (running_named fs (dropped n f))
      ∙ ap (λ g. map (named_frame h) (with_running fs (dropped n f)) ++ g ∷ [])
      (ap (called_frame method max_locals max_stack) (arguments_on_named n f.stack)
      ∙ called_named method max_locals max_stack (arguments_on n f.stack))
      ∙ sym (map-append (named_frame h) (with_running fs (dropped n f)) (called_frame method max_locals max_stack
      (arguments_on n f.stack) ∷ []))

  -- ---- the limits of a thread

  frame_units_named : (fs : List Frame) → units_of_frames (map (named_frame h) fs) ≡ units_of_frames fs
  frame_units_named [] = refl
  frame_units_named (f ∷ fs) = ap (λ (n : ℕ). n + f.room + units_of_frames (map (named_frame h) fs))
      (length-map f.locals _) ∙ ap (λ (n : ℕ). length f.locals + f.room + n) (frame_units_named fs)

  pub room_named : (fs : List Frame) (max_locals max_stack : ℕ)
      → has_room_for (map (named_frame h) fs) max_locals max_stack ≡ has_room_for fs max_locals max_stack
  room_named fs max_locals max_stack =
      ap (λ (n : ℕ). nat_lt n 256 && nat_le (units_of_frames (map (named_frame h) fs) + max_locals + max_stack) 4096)
      (length-map fs (named_frame h))
      ∙ ap (λ (n : ℕ). nat_lt (length fs) 256 && nat_le (n + max_locals + max_stack) 4096) (frame_units_named fs)

  pub limits_named : (fs : List Frame) → within_limits (map (named_frame h) fs) ≡ within_limits fs
  limits_named fs =
      ap (λ (n : ℕ). nat_le n 256 && nat_le (units_of_frames (map (named_frame h) fs)) 4096)
      (length-map fs (named_frame h))
      ∙ ap (λ (n : ℕ). nat_le (length fs) 256 && nat_le n 4096) (frame_units_named fs)

  -- ---- the threads of a world

  module _ (cells : List Cell) where
    pub frames_on_cells : (w : World) (t : ℕ) → frames_at (on_cells h cells w) t ≡ map (named_frame h) (frames_at w t)
    frames_on_cells w t = ap frames_of (slice_get-map (named_thread h) w.threads t)
        ∙ thread_frames_named (slice_get w.threads t)

    pub running_on_cells : (w : World) (t : ℕ) → running (frames_at (on_cells h cells w) t)
        ≡ option_map (named_frame h) (running (frames_at w t))
    running_on_cells w t =
        ap running (frames_on_cells w t) ∙ top_running (frames_at w t)

    pub thread_on_cells : (w : World) (t : ℕ) (u : Thread) → with_thread (on_cells h cells w) t (named_thread h u)
        ≡ on_cells h cells (with_thread w t u)
    thread_on_cells w t u = ap (λ ts. record (on_cells h cells w) { threads = ts })
        (sym (map-set (named_thread h) w.threads t u))
