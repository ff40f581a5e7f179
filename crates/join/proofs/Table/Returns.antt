use Rattle.std.proofs.Common.{◌≡◌, ℕ, ◌-◌, List, [], ◌∷◌, length, map, Bool, true, false, Option, Some, None, Result}
use Rattle.std.proofs.Common.{Ok, Err, refl, ◌∙◌, ap}
use Rattle.std.specs.Option.{option_map}
use Rattle.model.specs.declared.values.Kind.{Kind}
use Rattle.model.specs.declared.values.Value.{Value}
use Rattle.model.specs.declared.listings.Placed.{Placed}
use Rattle.model.specs.declared.turns.Fault.{Fault}
use Rattle.model.specs.declared.turns.Abrupt.{Abrupt}
use Rattle.model.specs.declared.colours.Cell.{Cell}
use Rattle.model.specs.Frames.{Frame, Moved, running, with_running, callers}
use Rattle.model.specs.Locals.{value_on}
use Rattle.model.specs.Programs.{method_at, instruction_of}
use Rattle.model.specs.Worlds.{World, with_thread}
use Rattle.model.specs.Initialisation.{runs_initializer}
use Rattle.model.specs.Monitors.{released}
use Rattle.model.specs.Worlds.Thread.{Live, Ended}
use Rattle.model.specs.Completions.{Site, frames_in}
use Rattle.model.specs.Completions.Completion.{Goes}
use Rattle.model.specs.Table.Returns.{gives, past_invoke, initialised_if, left_world, resumed, resumes, leaves_to}
use Rattle.model.specs.Table.Returns.{leaves_with, leaves_if, return_if, returned}
use Rattle.model.proofs.CollectorLemmas.Known.{monitor_known}
use Rattle.join.specs.Naming.{Naming, named_value, named_frame, named_result}
use Rattle.join.specs.OnCells.{site_on, completion_on, on_cells, ReachedInCells}
use Rattle.join.proofs.Naming.{renamed, value_on_named, replaced_named, if_room_named}
use Rattle.join.proofs.Completions.{abruptly_on_cells}
use Rattle.join.proofs.Monitors.{released_on_cells}
use Rattle.join.proofs.Frames.{running_named, callers_named, top_running, frames_on_cells, thread_on_cells}

-- returns come to the same on cells: the method monitor that is given back is that of a birth that a path reaches

module _ (h : Naming) where
  past_named : (f : Frame) (result : Option Value) (invoke : Option Placed)
      → past_invoke (named_frame h f) (option_map (named_value h) result) invoke ≡ named_result h (past_invoke f result
      invoke)
  past_named f None None = refl
  past_named f (Some v) None = refl
  past_named f None (Some invoke) = ap Ok (replaced_named h invoke.next f 0 [])
  past_named f (Some v) (Some invoke) = if_room_named h invoke.next f 0 (v ∷ [])

  module _ (cells : List Cell) (s : Site) (u : ReachedInCells h cells s.world) (e : running (frames_in s)
      ≡ Some s.frame) where
    abbrev image : Site
    image = site_on h cells s

    left_on_cells : left_world image ≡ on_cells h cells (left_world s)
    left_on_cells =
        let class = s.frame.method.class in
        ap (λ w. initialised_if w class (runs_initializer s.program s.frame)) (released_on_cells h cells u.named s.world
        s.thread s.frame.monitor (λ b k. u.reached b (monitor_known s.world s.thread (length (frames_in s) - 1) b
        s.frame e k)))
        ∙ initialised_on_cells (released s.world s.thread s.frame.monitor) class (runs_initializer s.program s.frame)
      where
        initialised_on_cells : (w : World) (class : ℕ) (is : Bool) → initialised_if (on_cells h cells w) class is
            ≡ on_cells h cells (initialised_if w class is)
        initialised_on_cells w class true = refl
        initialised_on_cells w class false = refl

    callers_on_cells : callers (frames_in image) ≡ map (named_frame h) (callers (frames_in s))
    callers_on_cells = ap callers (frames_on_cells h cells s.world s.thread) ∙ callers_named h (frames_in s)

    resumes_on_cells : (r : Result Moved Abrupt) → resumes image (named_result h r)
        ≡ completion_on h cells (resumes s r)
    resumes_on_cells (Err abrupt) = abruptly_on_cells h cells u.stack_error abrupt
    resumes_on_cells (Ok m) =
        ap (λ w. Goes (with_thread w s.thread (Live (with_running (callers (frames_in image)) (named_frame h m.frame))))
        (map h m.writes)) left_on_cells
        ∙ ap (λ fs. Goes (with_thread (on_cells h cells (left_world s)) s.thread (Live fs)) (map h m.writes))
        (ap (λ fs. with_running fs (named_frame h m.frame)) callers_on_cells
        ∙ running_named h (callers (frames_in s)) m.frame)
        ∙ ap (λ w. Goes w (map h m.writes)) (thread_on_cells h cells (left_world s) s.thread
        (Live (with_running (callers (frames_in s)) m.frame)))

    resumed_named : (f : Frame) (result : Option Value) (runs : Bool)
        → resumed image (named_frame h f) (option_map (named_value h) result) runs
        ≡ named_result h (resumed s f result runs)
    resumed_named f result true = refl
    resumed_named f result false = past_named f result (instruction_of s.program f)

    leaves_on_cells : (result : Option Value) (o : Option Frame)
        → leaves_to image (option_map (named_value h) result) (option_map (named_frame h) o)
        ≡ completion_on h cells (leaves_to s result o)
    leaves_on_cells result None = ap (λ w. Goes (with_thread w s.thread (Ended None)) []) left_on_cells
        ∙ ap (λ w. Goes w []) (thread_on_cells h cells (left_world s) s.thread (Ended None))
    leaves_on_cells result (Some f) =
        let runs = runs_initializer s.program s.frame in
        ap (resumes image) (resumed_named f result runs) ∙ resumes_on_cells (resumed s f result runs)

    with_on_cells : (result : Option Value) → leaves_with image (option_map (named_value h) result)
        ≡ completion_on h cells (leaves_with s result)
    with_on_cells result = ap (leaves_to image (option_map (named_value h) result)) (ap running callers_on_cells
        ∙ top_running h (callers (frames_in s))) ∙ leaves_on_cells result (running (callers (frames_in s)))

    if_on_cells : (r : Result Value Fault) → leaves_if image (renamed h (named_value h) r)
        ≡ completion_on h cells (leaves_if s r)
    if_on_cells (Err fault) = refl
    if_on_cells (Ok v) = with_on_cells (Some v)

    return_on_cells : (kind : Option Kind) (right : Bool) → return_if image kind right
        ≡ completion_on h cells (return_if s kind right)
    return_on_cells kind false = refl
    return_on_cells None true = with_on_cells None
    return_on_cells (Some kind) true = ap (leaves_if image) (value_on_named h kind s.frame.stack)
        ∙ if_on_cells (value_on kind s.frame.stack)

    pub returned_on_cells : (kind : Option Kind) → returned image kind ≡ completion_on h cells (returned s kind)
    returned_on_cells kind = return_on_cells kind (gives kind (method_at s.program s.frame.method))
