use Rattle.std.proofs.Common.{◌≡◌, ◌⊎◌, inl, inr, ℕ, zero, suc, ◌-◌, Bool, true, false, List, [], ◌∷◌, ◌++◌, length}
use Rattle.std.proofs.Common.{drop, map, reverse, slice_get, slice_index_or, Option, Some, None, Result, Ok, Err}
use Rattle.std.proofs.Common.{if◌then◌else◌, refl}
use Rattle.std.specs.Prelude.{not}
use Rattle.std.specs.Option.{option_map_or, option_to_list}
use Rattle.model.specs.declared.names.Member.{Member}
use Rattle.model.specs.declared.listings.Method.{Method}
use Rattle.model.specs.declared.turns.Fault.{Fault}
use Rattle.model.specs.declared.turns.Fault.TheVariants.{MonitorLimit}
use Rattle.model.specs.declared.turns.Exception.TheVariants.{StackOverflow}
use Rattle.model.specs.declared.instructions.Invocation.{Invocation}
use Rattle.model.specs.declared.instructions.Invocation.TheVariants.{Virtual, Special, Static, Interface}
use Rattle.model.specs.Signatures.{argument_kinds}
use Rattle.model.specs.Classes.Flags.{is_synchronized}
use Rattle.model.specs.Classes.Search.{Declared}
use Rattle.model.specs.Classes.Resolution.{resolved_method}
use Rattle.model.specs.Classes.Types.{is_subtype}
use Rattle.model.specs.Callees.{CodedMethod, Callee, callee_of}
use Rattle.model.specs.Callees.Callee.{Own, Coded, NoCode}
use Rattle.model.specs.Values.{births_of}
use Rattle.model.specs.Frames.{Frame, running, running_frame, no_frame, ref_on, has_room_for}
use Rattle.model.specs.Locals.{arguments_on, frames_of_call}
use Rattle.model.specs.Worlds.{World, next_birth}
use Rattle.model.specs.Worlds.Thread.{Live}
use Rattle.model.specs.Objects.{class_at}
use Rattle.model.specs.Monitors.{may_enter, is_full, entered, monitor_of}
use Rattle.model.specs.Completions.{Completion, Site, frames_in, raises}
use Rattle.model.specs.Completions.Completion.{Faults, Waits}
use Rattle.model.specs.Table.Invokes.{Call, fault_in_pops, arguments_in, operands_in, method_monitor, monitor_for}
use Rattle.model.specs.Table.Invokes.{world_entered, guarded, enters_frame, enters_method, called, called_on, on_object}
use Rattle.model.specs.Table.Invokes.{selected_for, special_for, invoked}
use Rattle.model.specs.Collector.Places.{ref_of, frame_refs, Reach}
use Rattle.model.specs.Collector.Invariant.{In}
use Rattle.model.specs.Collector.Moves.{FramesMove, CompletionMoves}
use Rattle.model.proofs.CollectorLemmas.Lists.{In-left, In-last}
use Rattle.model.proofs.CollectorLemmas.Moving.{AllMay, refs_same, frames_trans}
use Rattle.model.proofs.CollectorLemmas.Known.{stack_error_known}
use Rattle.model.proofs.CollectorLemmas.Stepping.{in_births, may_births}
use Rattle.model.proofs.CollectorLemmas.Calls.{frames_set_or, call_moves, below_known, arguments_known}
use Rattle.model.proofs.CollectorLemmas.Unwinding.{Kept}
use Rattle.model.proofs.CollectorLemmas.Table.Monitors.{kept_same, site_kept, monitor_keeps, reference_may, if_moves}
use Rattle.model.proofs.CollectorLemmas.Table.Builtins.{builtin_moves}

-- ---- the running frame, found or with a default

index_is : (fs : List Frame) (k : ℕ) (d f : Frame) → slice_get fs k ≡ Some f → slice_index_or fs k d ≡ f
index_is [] k d f e = absurd (cc)
index_is (x ∷ fs) zero d f e = (let s : x ≡ f = cc in s)
index_is (x ∷ fs) (suc k) d f e = index_is fs k d f e

running_is : (fs : List Frame) (f : Frame) → running fs ≡ Some f → running_frame fs ≡ f
running_is fs f e = index_is fs (length fs - 1) no_frame f e

-- ---- what a call writes: the arguments, then the method monitor

In-either : (xs ys : List ℕ) (b : ℕ) → In b (xs ++ ys) → In b xs ⊎ In b ys
In-either [] ys b h = inr h
In-either (x ∷ xs) ys b (inl e) = inl (inl e)
In-either (x ∷ xs) ys b (inr h) = elim (In-either xs ys b h) [ inl l ↦ inl (inr l) | inr r ↦ inr r ]

monitor_written : (xs : List ℕ) (monitor : Option ℕ) (b : ℕ) → monitor ≡ Some b → In b (xs ++ option_to_list monitor)
monitor_written xs None b e = absurd (cc)
monitor_written xs (Some m) b e = (let s : b ≡ m = cc in rw s (In-last xs m))

if_known : (Q : ℕ → Type 0) (monitor : Option ℕ) (b : ℕ) → ((b : ℕ) → monitor ≡ Some b → Q b)
    → In b (option_to_list monitor) → Q b
if_known Q None b h k = absurd k
if_known Q (Some m) b h (inl e) = rw e (h m refl)
if_known Q (Some m) b h (inr n) = absurd n

entered_keeps : (P : ℕ → Type 0) (s : Site) (monitor : Option ℕ)
    → Kept P s.world (next_birth s.world) (world_entered s monitor)
entered_keeps P s None = kept_same P s.world
entered_keeps P s (Some birth) = monitor_keeps P s.world birth (entered s.thread (monitor_of s.world birth))

guarded_moves : (P : ℕ → Type 0) (monitor : Option ℕ) (fs : List Frame) → ((b : ℕ) → monitor ≡ Some b → P b)
    → FramesMove P fs (guarded monitor fs)
guarded_moves P monitor fs h =
    frames_set_or P fs (length fs - 1) no_frame (record (running_frame fs) { monitor = monitor })
    (refs_same P (frame_refs (running_frame fs)), λ b e. inr (h b e))

enters_frame_moves : (c : Call) → running (frames_in c.site) ≡ Some c.site.frame → (m : CodedMethod)
    → ((b : ℕ) → method_monitor c m ≡ Some b → Reach c.site.world b) → CompletionMoves c.site.world (enters_frame c m)
enters_frame_moves c e m h =
    let s = c.site in
    let n = operands_in c in
    let monitor = method_monitor c m in
    let fs = frames_in s in
    let vs = arguments_on n s.frame.stack in
    let writes = births_of vs ++ option_to_list monitor in
    let P : ℕ → Type 0 = λ b. ⊥ ⊎ In b writes in
    let gs = frames_of_call fs m.place m.code.max_locals m.code.max_stack n in
    let given : AllMay P (map ref_of vs) = may_births vs P (λ b k.
    inr (In-left (births_of vs) (option_to_list monitor) b k)) in
    let may : AllMay P (map ref_of (arguments_on n (running_frame fs).stack)) = rw (running_is fs s.frame e) given in
    let moves : FramesMove P fs (guarded monitor gs) = frames_trans P fs gs (guarded monitor gs)
    (call_moves P fs m.place m.code.max_locals m.code.max_stack n may) (guarded_moves P monitor gs (λ b k.
    inr (monitor_written (births_of vs) monitor b k))) in
    site_kept s (world_entered s monitor) (Live (guarded monitor gs)) writes (entered_keeps P s monitor) moves
    (λ b k. elim (In-either (births_of vs) (option_to_list monitor) b k) [
      | inl l ↦ in_births vs (Reach s.world) (arguments_known s.world s.thread n s.frame e) b l
      | inr r ↦ if_known (Reach s.world) monitor b h r
    ])

-- ---- the tests

enters_method_moves : (c : Call) → running (frames_in c.site) ≡ Some c.site.frame → (m : CodedMethod)
    → ((b : ℕ) → method_monitor c m ≡ Some b → Reach c.site.world b) → CompletionMoves c.site.world (enters_method c m)
enters_method_moves c e m h =
    let w = c.site.world in
    let free = may_enter c.site.thread (monitor_for c m).owner in
    let room = has_room_for (frames_in c.site) m.code.max_locals m.code.max_stack in
    let full = is_full (monitor_for c m) in
    let counted = if_moves w full (Faults MonitorLimit) (enters_frame c m) tt (enters_frame_moves c e m h) in
    let placed = if_moves w (not room) (raises StackOverflow) _ (stack_error_known w) counted in
    if_moves w (not free) Waits _ tt placed

monitor_is : (x : Bool) (object : Option ℕ) (b : ℕ) → (if x then object else None) ≡ Some b → object ≡ Some b
monitor_is true object b e = e
monitor_is false object b e = absurd (cc)

called_moves : (c : Call) → running (frames_in c.site) ≡ Some c.site.frame → (callee : Callee)
    → ((b : ℕ) → c.object ≡ Some b → Reach c.site.world b) → CompletionMoves c.site.world (called c callee)
called_moves c e NoCode h = tt
called_moves c e (Own builtin) h = builtin_moves c.site e builtin
called_moves c e (Coded m) h = enters_method_moves c e m
    (λ b k. h b (monitor_is (is_synchronized m.method) c.object b k))

fault_or_moves : (w : World) (fault : Option Fault) (further : Completion) → CompletionMoves w further
    → CompletionMoves w (option_map_or Faults fault further)
fault_or_moves w (Some fault) further h = tt
fault_or_moves w None further h = h

called_on_moves : (s : Site) → running (frames_in s) ≡ Some s.frame
    → (m : Member) (method : ℕ → Option (Declared Method)) (r : Result (Option ℕ) Fault)
    → ((b : ℕ) → r ≡ Ok (Some b) → Reach s.world b) → CompletionMoves s.world (called_on s m method r)
called_on_moves s e m method (Err fault) h = tt
called_on_moves s e m method (Ok None) h = tt
called_on_moves s e m method (Ok (Some birth)) h =
    if_moves s.world (not (is_subtype s.program (class_at s.world birth) m.class)) _ _ tt
    (called_moves (record { site = s; member = m; object = Some birth }) e (callee_of s.program (method birth))
    (λ b k. h b (let r : birth ≡ b = cc in rw r refl)))

on_object_moves : (s : Site) → running (frames_in s) ≡ Some s.frame
    → (m : Member) (method : ℕ → Option (Declared Method)) → CompletionMoves s.world (on_object s m method)
on_object_moves s e m method =
    fault_or_moves s.world (fault_in_pops (reverse (argument_kinds m.descriptor)) s.frame.stack) _
    (called_on_moves s e m method (ref_on (drop (arguments_in m) s.frame.stack))
    (λ b h. reference_may (Reach s.world) (drop (arguments_in m) s.frame.stack) b
    (below_known s.world s.thread (arguments_in m) s.frame e) h))

pub invoked_moves : (s : Site) → running (frames_in s) ≡ Some s.frame → (invocation : Invocation) (m : Member)
    → CompletionMoves s.world (invoked s invocation m)
invoked_moves s e Static m =
    fault_or_moves s.world (fault_in_pops (reverse (argument_kinds m.descriptor)) s.frame.stack) _
    (called_moves (record { site = s; member = m; object = None }) e (callee_of s.program (resolved_method s.program m))
    (λ b k. absurd (cc)))
invoked_moves s e Virtual m = on_object_moves s e m (selected_for s m)
invoked_moves s e Special m = on_object_moves s e m (λ birth. special_for s m)
invoked_moves s e (Interface count) m = on_object_moves s e m (selected_for s m)
