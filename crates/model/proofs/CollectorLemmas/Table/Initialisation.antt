use Rattle.std.proofs.Common.{◌⊎◌, inl, ℕ, ◌==◌, List, [], ◌∷◌, ◌++◌, Option, Some, None}
use Rattle.model.specs.declared.turns.ClassState.{ClassState}
use Rattle.model.specs.declared.turns.ClassState.TheVariants.{Unused, Running, Done, Failed}
use Rattle.model.specs.declared.places.MethodPlace.{MethodPlace}
use Rattle.model.specs.ClassListings.{ClassListing}
use Rattle.model.specs.CodeListings.{CodeListing}
use Rattle.model.specs.Programs.{code_at}
use Rattle.model.specs.Frames.{Frame, opening_frame, within_limits}
use Rattle.model.specs.Worlds.{with_class_states, next_birth}
use Rattle.model.specs.Worlds.Thread.{Live}
use Rattle.model.specs.Initialisation.{chain_of, with_states, framed, initializer_place, initializer_frames}
use Rattle.model.specs.Initialisation.{callers_waiting, main_frames}
use Rattle.model.specs.Completions.{Completion, Site, frames_in}
use Rattle.model.specs.Table.Initialisation.{states_in, claims_with, claims, initialises, after_initialising}
use Rattle.model.specs.Collector.Places.{frame_refs}
use Rattle.model.specs.Collector.Moves.{FramesMove, CompletionMoves}
use Rattle.model.proofs.CollectorLemmas.Moving.{refs_same, refs_new}
use Rattle.model.proofs.CollectorLemmas.Known.{may_both, stack_error_known}
use Rattle.model.proofs.CollectorLemmas.Calls.{unset_may}
use Rattle.model.proofs.CollectorLemmas.Unwinding.{states_keep}
use Rattle.model.proofs.CollectorLemmas.Table.Monitors.{kept_same, site_kept, if_moves}

-- initializers come on top, and lead nowhere

-- ---- frames at their starts

framed_moves : (P : ℕ → Type 0) (place : MethodPlace) (code : Option CodeListing) → FramesMove P [] (framed place code)
framed_moves P place None = tt
framed_moves P place (Some code) = (
  refs_new P [] (frame_refs (opening_frame place code.max_locals code.max_stack))
      (may_both P _ [] (unset_may P code.max_locals) tt),
  λ b e. inl e,
  tt,
)

pub both_move : (P : ℕ → Type 0) (fs gs : List Frame) → FramesMove P [] fs → FramesMove P [] gs
    → FramesMove P [] (fs ++ gs)
both_move P [] gs h k = k
both_move P (f ∷ fs) gs h k = (h.0, h.1, both_move P fs gs h.2 k)

pub waiting_move : (P : ℕ → Type 0) (fs : List Frame) → FramesMove P [] fs → FramesMove P [] (callers_waiting fs)
waiting_move P [] h = tt
waiting_move P (f ∷ []) h = h
waiting_move P (f ∷ g ∷ fs) h = (h.0, h.1, waiting_move P (g ∷ fs) h.2)

pub main_moves : (P : ℕ → Type 0) (program : List ClassListing) (place : Option MethodPlace)
    → FramesMove P [] (main_frames program place)
main_moves P program None = tt
main_moves P program (Some place) = framed_moves P place (code_at program place)

pub initializers_move : (P : ℕ → Type 0) (program : List ClassListing) (classes : List ℕ)
    → FramesMove P [] (initializer_frames program classes)
initializers_move P program [] = tt
initializers_move P program (class ∷ classes) =
    both_move P (framed (initializer_place program class) (code_at program (initializer_place program class)))
    (initializer_frames program classes)
    (framed_moves P (initializer_place program class) (code_at program (initializer_place program class)))
    (initializers_move P program classes)

-- ---- what a claim does

added_move : (P : ℕ → Type 0) (fs gs : List Frame) → FramesMove P [] gs → FramesMove P fs (fs ++ gs)
added_move P [] gs h = h
added_move P (f ∷ fs) gs h = (refs_same P (frame_refs f), λ b e. inl e, added_move P fs gs h)

claims_with_moves : (s : Site) (classes : List ℕ) (frames : List Frame) → FramesMove (λ b. ⊥ ⊎ ⊥) (frames_in s) frames
    → CompletionMoves s.world (claims_with s classes frames)
claims_with_moves s classes frames h =
    let states = with_states (Running s.thread) classes (states_in s) in
    if_moves s.world (within_limits frames) _ _
    (site_kept s (with_class_states s.world states) (Live frames) [] (states_keep _ s.world s.world (next_birth s.world)
    states (kept_same _ s.world)) h (λ b k. absurd k))
    (stack_error_known s.world)

claims_moves : (s : Site) (classes : List ℕ) (own : Completion) → CompletionMoves s.world own
    → CompletionMoves s.world (claims s classes own)
claims_moves s [] own h = h
claims_moves s (class ∷ classes) own h =
    let new = initializer_frames s.program (class ∷ classes) in
    claims_with_moves s (class ∷ classes) (frames_in s ++ callers_waiting new)
    (added_move _ (frames_in s) (callers_waiting new)
    (waiting_move _ new (initializers_move _ s.program (class ∷ classes))))

initialises_moves : (s : Site) (unused : List ℕ) (state : ClassState) (own : Completion) → CompletionMoves s.world own
    → CompletionMoves s.world (initialises s unused state own)
initialises_moves s unused Unused own h = claims_moves s unused own h
initialises_moves s unused (Running t) own h = if_moves s.world (t == s.thread) _ _ (claims_moves s unused own h) tt
initialises_moves s unused Done own h = claims_moves s unused own h
initialises_moves s unused Failed own h = tt

-- an instruction that uses a class
pub after_initialising_moves : (s : Site) (class : Option (List ℕ)) (own : Completion) → CompletionMoves s.world own
    → CompletionMoves s.world (after_initialising s class own)
after_initialising_moves s None own h = h
after_initialising_moves s (Some class) own h =
    let chain = chain_of s.program (states_in s) class in initialises_moves s chain.unused chain.above own h
