-- a call, reported by what the code has of it
use Rattle.std.proofs.Common.{◌≡◌, ℕ, ◌+◌, ◌-◌, List, [], ◌∷◌, ◌++◌, Bool, true, false, not, if◌then◌else◌, length}
use Rattle.std.proofs.Common.{drop, set, slice_index_or, Option, Some, refl, ap, sym, ◌∙◌, arith}
use Rattle.std.specs.Option.{option_len}
use Rattle.std.proofs.Math.Seq.{set-append_seam}
use Rattle.std.proofs.lemmas.List.{length-append}
use Rattle.std.proofs.lemmas.Option.{get_or_from_slice_get}
use Rattle.model.specs.declared.listings.Method.{Method}
use Rattle.model.specs.declared.names.Member.{Member}
use Rattle.model.specs.declared.places.MethodPlace.{MethodPlace}
use Rattle.model.specs.Callees.{CodedMethod}
use Rattle.model.specs.CodeListings.{CodeListing}
use Rattle.model.specs.declared.turns.Exception.TheVariants.{StackOverflow}
use Rattle.model.specs.declared.turns.Fault.TheVariants.{MonitorLimit}
use Rattle.model.specs.Completions.{Completion, Site, frames_in, raises}
use Rattle.model.specs.Completions.Completion.{Goes, Waits, Faults}
use Rattle.model.specs.Frames.{Frame, no_frame, running, running_frame, with_running, has_room_for}
use Rattle.model.specs.Locals.{called_frame, arguments_on, frames_of_call}
use Rattle.model.specs.Monitors.{may_enter, is_full}
use Rattle.model.specs.Table.Invokes.{Call, arguments_in, guarded, world_entered, enters_frame, enters_method}
use Rattle.model.specs.Worlds.{World, Monitor, with_thread}
use Rattle.model.specs.Worlds.Thread.{Live}
use Rattle.ideal_run.specs.Calls.{monitor_called, monitor_wanted, enters_with}
use Rattle.ideal_run.specs.Completed.{plainly}

last-got : (frames : List Frame) (f other : Frame) → slice_index_or (frames ++ f ∷ []) (length frames) other ≡ f
last-got [] f other = refl
last-got (x ∷ xs) f other = last-got xs f other

length-last : (frames : List Frame) (f : Frame) → length (frames ++ f ∷ []) - 1 ≡ length frames
length-last frames f = let e = length-append frames (f ∷ []) in omega (arith, e)

running-last : (frames : List Frame) (f : Frame) → running_frame (frames ++ f ∷ []) ≡ f
running-last frames f =
    ap (λ n. slice_index_or (frames ++ f ∷ []) n no_frame) (length-last frames f) ∙ last-got frames f no_frame

with_running-last : (frames : List Frame) (f g : Frame) → with_running (frames ++ f ∷ []) g ≡ frames ++ g ∷ []
with_running-last frames f g =
    ap (λ n. set (frames ++ f ∷ []) n g) (length-last frames f) ∙ set-append_seam frames f [] g

abbrev with_monitor : Option ℕ → Frame → Frame
with_monitor monitor f = record f { monitor = monitor }

guarded-last : (monitor : Option ℕ) (frames : List Frame) (f : Frame) → guarded monitor (frames ++ f ∷ []) ≡ frames
    ++ with_monitor monitor f ∷ []
guarded-last monitor frames f =
    ap (λ (g : Frame). with_running (frames ++ f ∷ []) (with_monitor monitor g)) (running-last frames f)
    ∙ with_running-last frames f (with_monitor monitor f)

-- the frames of a call whose caller runs
abbrev entered : List Frame → Option ℕ → MethodPlace → CodeListing → ℕ → Frame → List Frame
entered frames monitor place code n f =
    with_running frames (record f { stack = drop n f.stack })
    ++ with_monitor monitor (called_frame place code.max_locals code.max_stack (arguments_on n f.stack)) ∷ []

entered-is : (frames : List Frame) (f : Frame) (monitor : Option ℕ) (place : MethodPlace) (code : CodeListing) (n : ℕ)
    → running frames ≡ Some f
    → guarded monitor (frames_of_call frames place code.max_locals code.max_stack n)
    ≡ entered frames monitor place code n f
entered-is frames f monitor place code n runs =
    guarded-last monitor (with_running frames
    (record (running_frame frames) { stack = drop n (running_frame frames).stack }))
    (called_frame place code.max_locals code.max_stack (arguments_on n (running_frame frames).stack))
    ∙ ap (entered frames monitor place code n) (get_or_from_slice_get frames (length frames - 1) f no_frame runs)

picked : (a b d : Bool) → a ≡ true → b ≡ true → d ≡ false → (x y z w : Completion)
    → (if not a then x else if not b then y else if d then z else w) ≡ w
picked true true false h k l x y z w = refl
picked true true true h k l x y z w = absurd (cc)
picked true false d h k l x y z w = absurd (cc)
picked false b d h k l x y z w = absurd (cc)

module _ (s : Site) (member : Member) (object : Option ℕ) (method : Method) (code : CodeListing) (place : MethodPlace)
  where
    abbrev call : Call
    call = record { site = s; member = member; object = object }

    abbrev coded : CodedMethod
    coded = record { method = method; code = code; place = place }

    pub call-enters : (n : ℕ) (after : World) → running (frames_in s) ≡ Some s.frame
        → may_enter s.thread (monitor_wanted s.world (monitor_called object method)).owner ≡ true
        → has_room_for (frames_in s) code.max_locals code.max_stack ≡ true
        → is_full (monitor_wanted s.world (monitor_called object method)) ≡ false
        → n ≡ arguments_in member + option_len object
        → after ≡ world_entered s (monitor_called object method)
        → enters_with s n (monitor_called object method) after code place ≡ plainly (enters_method call coded)
    call-enters n after runs may room count n-is after-is =
        ap (λ (k : ℕ). enters_with s k (monitor_called object method) after code place) n-is
        ∙ ap (λ (w : World). enters_with s (arguments_in member + option_len object) (monitor_called object method) w
        code
        place) after-is
        ∙ ap (λ (fs : List Frame). Goes (with_thread (world_entered s (monitor_called object method)) s.thread
        (Live fs))
        [])
        (sym (entered-is (frames_in s) s.frame (monitor_called object method) place code
        (arguments_in member + option_len object) runs))
        ∙ ap plainly (sym (picked (may_enter s.thread (monitor_wanted s.world (monitor_called object method)).owner)
        (has_room_for (frames_in s) code.max_locals code.max_stack)
        (is_full (monitor_wanted s.world (monitor_called object method))) may room count Waits (raises StackOverflow)
        (Faults MonitorLimit) (enters_frame call coded)))

    pub call-tested : (n : ℕ) (after : World) (birth : Option ℕ) (m : Monitor) → running (frames_in s) ≡ Some s.frame
        → birth ≡ monitor_called object method → m ≡ monitor_wanted s.world birth
        → may_enter s.thread m.owner ≡ true → has_room_for (frames_in s) code.max_locals code.max_stack ≡ true
        → is_full m
        ≡ false
        → n ≡ arguments_in member + option_len object → after ≡ world_entered s birth
        → enters_with s n birth after code place ≡ plainly (enters_method call coded)
    call-tested n after birth m runs birth-is m-is may room count n-is after-is =
        let wanted : m ≡ monitor_wanted s.world (monitor_called object method) = m-is
        ∙ ap (monitor_wanted s.world) birth-is in
        ap (λ (b : Option ℕ). enters_with s n b after code place) birth-is
        ∙ call-enters n after runs (ap (λ (x : Monitor). may_enter s.thread x.owner) (sym wanted) ∙ may) room
        (ap is_full (sym wanted) ∙ count) n-is (after-is ∙ ap (world_entered s) birth-is)
