use Rattle.std.proofs.Common.{◌≡◌, inl, ℕ, zero, suc, ◌-◌, ◌≤◌, List, [], ◌∷◌, ◌++◌, length, drop, take, map, reverse}
use Rattle.std.proofs.Common.{replicate, set, get_or, Option, Some, None, refl, arith, length-set}
use Rattle.std.proofs.lemmas.List.{map-append, reverse-append, take-append-drop}
use Rattle.model.specs.declared.values.Value.{Value}
use Rattle.model.specs.declared.values.Value.TheVariants.{Int, Long, Ref}
use Rattle.model.specs.declared.values.Entry.TheVariants.{Unset}
use Rattle.model.specs.declared.places.MethodPlace.{MethodPlace}
use Rattle.model.specs.Values.{units_of_all}
use Rattle.model.specs.Frames.{Frame, running, running_frame}
use Rattle.model.specs.Worlds.{World, frames_at}
use Rattle.model.specs.Locals.{argument_entries, called_frame, arguments_on, frames_of_call}
use Rattle.model.specs.Collector.Places.{ref_of, entry_ref, frame_refs, Reach}
use Rattle.model.specs.Collector.Moves.{RefsMove, RefMoves, FrameMoves, FramesMove}
use Rattle.model.proofs.CollectorLemmas.Moving.{AllMay, refs_new, refs_after, frames_same}
use Rattle.model.proofs.CollectorLemmas.Stepping.{stack_pushed}
use Rattle.model.proofs.CollectorLemmas.Known.{may_left, may_right, may_both, stack_known}

-- calls: the arguments go from the caller's stack into the first locals of a new frame

-- a frame comes on top
pub frames_push : (P : ℕ → Type 0) (fs gs : List Frame) (h : Frame) → length fs ≤ length gs
    → RefsMove P [] (frame_refs h) → RefMoves P None h.monitor → FramesMove P fs gs → FramesMove P fs (gs ++ h ∷ [])
frames_push P [] [] h l r k m = (r, k, tt)
frames_push P [] (g ∷ gs) h l r k m = (m.0, m.1, frames_push P [] gs h (omega arith) r k m.2)
frames_push P (f ∷ fs) [] h l r k m = absurd (omega arith)
frames_push P (f ∷ fs) (g ∷ gs) h l r k m = (m.0, m.1, frames_push P fs gs h (omega arith) r k m.2)

-- one frame changes, if there is one
pub frames_set_or : (P : ℕ → Type 0) (fs : List Frame) (k : ℕ) (d g : Frame) → FrameMoves P (get_or fs k d) g
    → FramesMove P fs (set fs k g)
frames_set_or P [] k d g h = tt
frames_set_or P (x ∷ fs) zero d g h = (h.0, h.1, frames_same P fs)
frames_set_or P (x ∷ fs) (suc k) d g h = ((frames_same P (x ∷ [])).0, λ b e. inl e, frames_set_or P fs k d g h)

-- operands go
pub dropped_moves : (P : ℕ → Type 0) (f : Frame) (n : ℕ) → FrameMoves P f (record f { stack = drop n f.stack })
dropped_moves P f n = (refs_after P (map entry_ref f.locals) _ _ (stack_pushed P n f.stack [] tt), λ b e. inl e)

-- ---- the new frame

arguments_may : (P : ℕ → Type 0) (vs : List Value) → AllMay P (map ref_of vs)
    → AllMay P (map entry_ref (argument_entries vs))
arguments_may P [] h = tt
arguments_may P (Int z ∷ vs) h = (h.0, arguments_may P vs h.1)
arguments_may P (Long z ∷ vs) h = (h.0, (λ b e. absurd (cc), arguments_may P vs h.1))
arguments_may P (Ref r ∷ vs) h = (h.0, arguments_may P vs h.1)

pub unset_may : (P : ℕ → Type 0) (n : ℕ) → AllMay P (map entry_ref (replicate n Unset))
unset_may P zero = tt
unset_may P (suc n) = (λ b e. absurd (cc), unset_may P n)

pub callee_may : (P : ℕ → Type 0) (method : MethodPlace) (max_locals max_stack : ℕ) (vs : List Value)
    → AllMay P (map ref_of vs) → AllMay P (frame_refs (called_frame method max_locals max_stack vs))
callee_may P method max_locals max_stack vs h =
    let n = max_locals - units_of_all vs in
    let locals : AllMay P (map entry_ref (argument_entries vs ++ replicate n Unset)) = rw (map-append entry_ref
    (argument_entries vs) (replicate n Unset)) (may_both P _ _ (arguments_may P vs h) (unset_may P n)) in
    may_both P (map entry_ref (argument_entries vs ++ replicate n Unset)) [] locals tt

pub call_moves : (P : ℕ → Type 0) (frames : List Frame) (method : MethodPlace) (max_locals max_stack n : ℕ)
    → AllMay P (map ref_of (arguments_on n (running_frame frames).stack))
    → FramesMove P frames (frames_of_call frames method max_locals max_stack n)
call_moves P frames method max_locals max_stack n h =
    let f = running_frame frames in
    let g : Frame = record f { stack = drop n f.stack } in
    let k = length frames - 1 in
    let same = length-set frames k g in
    frames_push P frames (set frames k g) (called_frame method max_locals max_stack (arguments_on n f.stack))
    (omega arith)
    (refs_new P [] _ (callee_may P method max_locals max_stack (arguments_on n f.stack) h)) (λ b e. absurd (cc))
    (frames_set_or P frames k _ g (dropped_moves P f n))

-- ---- the arguments are reachable

may_forward : (Q : ℕ → Type 0) (rs : List (Option ℕ)) → AllMay Q rs → AllMay Q (reverse rs)
may_forward Q [] h = tt
may_forward Q (r ∷ rs) h = rw (reverse-append (r ∷ []) rs) (may_both Q (reverse rs) (r ∷ []) (may_forward Q rs h.1)
    (h.0, tt))

map-reverse : (vs : List Value) → map ref_of (reverse vs) ≡ reverse (map ref_of vs)
map-reverse [] = refl
map-reverse (v ∷ vs) = rw (
  reverse-append (v ∷ []) vs,
  map-append ref_of (reverse vs) (v ∷ []),
  reverse-append (ref_of v ∷ []) (map ref_of vs),
  map-reverse vs,
) refl

-- so many operands at the top
pub operands_known : (w : World) (t n : ℕ) (f : Frame) → running (frames_at w t) ≡ Some f
    → AllMay (Reach w) (map ref_of (take n f.stack))
operands_known w t n f e =
    let all = stack_known w t _ f e in
    let cut : AllMay (Reach w) (map ref_of (take n f.stack) ++ map ref_of (drop n f.stack)) = rw (
      ← map-append ref_of
          (take n f.stack) (drop n f.stack),
      take-append-drop n f.stack,
    ) all in
    may_left (Reach w) (map ref_of (take n f.stack)) (map ref_of (drop n f.stack)) cut

-- and those below them
pub below_known : (w : World) (t n : ℕ) (f : Frame) → running (frames_at w t) ≡ Some f
    → AllMay (Reach w) (map ref_of (drop n f.stack))
below_known w t n f e =
    let all = stack_known w t _ f e in
    let cut : AllMay (Reach w) (map ref_of (take n f.stack) ++ map ref_of (drop n f.stack)) = rw (
      ← map-append ref_of
          (take n f.stack) (drop n f.stack),
      take-append-drop n f.stack,
    ) all in
    may_right (Reach w) (map ref_of (take n f.stack)) (map ref_of (drop n f.stack)) cut

pub arguments_known : (w : World) (t n : ℕ) (f : Frame) → running (frames_at w t) ≡ Some f
    → AllMay (Reach w) (map ref_of (arguments_on n f.stack))
arguments_known w t n f e = rw (map-reverse (take n f.stack)) (may_forward (Reach w) (map ref_of (take n f.stack))
    (operands_known w t n f e))
