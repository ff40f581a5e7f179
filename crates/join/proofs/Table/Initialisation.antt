use Rattle.std.proofs.Common.{◌≡◌, ℕ, ◌==◌, List, [], ◌∷◌, ◌++◌, map, Bool, true, false, if◌then◌else◌, Option, Some}
use Rattle.std.proofs.Common.{None, refl, sym, ◌∙◌, ap}
use Rattle.std.proofs.lemmas.List.{map-append}
use Rattle.model.specs.declared.turns.ClassState.{ClassState}
use Rattle.model.specs.declared.turns.ClassState.TheVariants.{Unused, Running, Done, Failed}
use Rattle.model.specs.declared.turns.Exception.TheVariants.{StackOverflow}
use Rattle.model.specs.declared.places.MethodPlace.{MethodPlace}
use Rattle.model.specs.ClassListings.{ClassListing}
use Rattle.model.specs.CodeListings.{CodeListing}
use Rattle.model.specs.Programs.{code_at}
use Rattle.model.specs.declared.colours.Cell.{Cell}
use Rattle.model.specs.Frames.{Frame, opening_frame, within_limits}
use Rattle.model.specs.Worlds.{with_thread, with_class_states}
use Rattle.model.specs.Worlds.Thread.{Live}
use Rattle.model.specs.Initialisation.{chain_of, with_states, framed, started_at, initializer_place, initializer_frames}
use Rattle.model.specs.Initialisation.{waiting, callers_waiting}
use Rattle.model.specs.Completions.{Completion, Site, frames_in, raises}
use Rattle.model.specs.Completions.Completion.{Goes, Waits}
use Rattle.model.specs.Table.Initialisation.{states_in, claims_with, claims, initialises, after_initialising}
use Rattle.join.specs.Naming.{Naming, named_frame}
use Rattle.join.specs.OnCells.{site_on, completion_on}
use Rattle.join.proofs.Completions.{raises_on_cells}
use Rattle.join.proofs.Frames.{unset_named, limits_named, frames_on_cells, thread_on_cells}

-- what comes before an instruction that uses a class comes to the same on cells: initializers' frames hold no births

module _ (h : Naming) where
  framed_named : (place : MethodPlace) (code : Option CodeListing) → map (named_frame h) (framed place code)
      ≡ framed place code
  framed_named place None = refl
  framed_named place (Some code) = ap (λ es. record (opening_frame place code.max_locals code.max_stack) { locals = es }
      ∷ []) (unset_named h code.max_locals)

  initializers_named : (program : List ClassListing) (classes : List ℕ)
      → map (named_frame h) (initializer_frames program classes) ≡ initializer_frames program classes
  initializers_named program [] = refl
  initializers_named program (class ∷ classes) =
      let place = initializer_place program class in
      map-append (named_frame h) (started_at program place) (initializer_frames program classes)
      ∙ ap (λ fs. fs ++ map (named_frame h) (initializer_frames program classes))
      (framed_named place (code_at program place))
      ∙ ap (λ fs. started_at program place ++ fs) (initializers_named program classes)

  waiting_named : (fs : List Frame) → callers_waiting (map (named_frame h) fs)
      ≡ map (named_frame h) (callers_waiting fs)
  waiting_named [] = refl
  waiting_named (f ∷ []) = refl
  waiting_named (f ∷ g ∷ fs) = ap (λ gs. waiting (named_frame h f) ∷ gs) (waiting_named (g ∷ fs))

  module _ (cells : List Cell) (s : Site) (stack_error : h 2 ≡ 2) where
    abbrev image : Site
    image = site_on h cells s

    abbrev image_of : Completion → Completion
    image_of c = completion_on h cells c

    -- the same frames come on top
    claimed_named : (classes : List ℕ) → frames_in image ++ callers_waiting (initializer_frames s.program classes)
        ≡ map (named_frame h) (frames_in s ++ callers_waiting (initializer_frames s.program classes))
    claimed_named classes =
        let new = initializer_frames s.program classes in
        ap (λ fs. fs ++ callers_waiting new) (frames_on_cells h cells s.world s.thread)
        ∙ ap (λ fs. map (named_frame h) (frames_in s) ++ fs)
        (ap callers_waiting (sym (initializers_named s.program classes)) ∙ waiting_named new)
        ∙ sym (map-append (named_frame h) (frames_in s) (callers_waiting new))

    claims_if : (within : Bool) (classes : List ℕ) (frames : List Frame) →
        (if within then Goes (with_class_states (with_thread image.world s.thread (Live (map (named_frame h) frames)))
        (with_states (Running s.thread) classes (states_in s))) [] else raises StackOverflow)
        ≡ image_of (if within
        then Goes (with_class_states (with_thread s.world s.thread (Live frames))
        (with_states (Running s.thread) classes (states_in s))) [] else raises StackOverflow)
    claims_if true classes frames = ap
        (λ w. Goes (with_class_states w (with_states (Running s.thread) classes (states_in s))) [])
        (thread_on_cells h cells s.world s.thread (Live frames))
    claims_if false classes frames = raises_on_cells h cells stack_error StackOverflow

    claims_with_on_cells : (classes : List ℕ) (frames : List Frame)
        → claims_with image classes (map (named_frame h) frames) ≡ image_of (claims_with s classes frames)
    claims_with_on_cells classes frames =
        ap (λ (within : Bool). if within
        then Goes (with_class_states (with_thread image.world s.thread (Live (map (named_frame h) frames)))
        (with_states (Running s.thread) classes (states_in s))) [] else raises StackOverflow)
        (limits_named h frames)
        ∙ claims_if (within_limits frames) classes frames

    claims_on_cells : (classes : List ℕ) (x y : Completion) → x ≡ image_of y → claims image classes x
        ≡ image_of (claims s classes y)
    claims_on_cells [] x y e = e
    claims_on_cells (class ∷ classes) x y e =
        ap (claims_with image (class ∷ classes)) (claimed_named (class ∷ classes))
        ∙ claims_with_on_cells (class ∷ classes) (frames_in s
        ++ callers_waiting (initializer_frames s.program (class ∷ classes)))

    own_if : (own : Bool) (x y : Completion) → x ≡ image_of y → (if own then x else Waits)
        ≡ image_of (if own then y else Waits)
    own_if true x y e = e
    own_if false x y e = refl

    initialises_on_cells : (unused : List ℕ) (state : ClassState) (x y : Completion) → x ≡ image_of y
        → initialises image unused state x ≡ image_of (initialises s unused state y)
    initialises_on_cells unused Unused x y e = claims_on_cells unused x y e
    initialises_on_cells unused (Running t) x y e = own_if (t == s.thread) _ _ (claims_on_cells unused x y e)
    initialises_on_cells unused Done x y e = claims_on_cells unused x y e
    initialises_on_cells unused Failed x y e = refl

    pub after_initialising_on_cells : (class : Option (List ℕ)) (x y : Completion) → x ≡ image_of y
        → after_initialising image class x ≡ image_of (after_initialising s class y)
    after_initialising_on_cells None x y e = e
    after_initialising_on_cells (Some class) x y e =
        let chain = chain_of s.program (states_in s) class in initialises_on_cells chain.unused chain.above x y e
