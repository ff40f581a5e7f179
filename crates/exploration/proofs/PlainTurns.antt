use Rattle.std.proofs.Common.{◌≡◌, ◌==◌, ℕ, zero, suc, ◌+◌, ◌-◌, ◌<◌, ◌≤◌, ℤ, List, [], ◌∷◌, ◌++◌, cond, drop, length, map, position}
use Rattle.std.proofs.Common.{codes, is_some, reverse, set, slice_get, nat_le, nat_lt, Bool, true, false, ◌&&◌, not, if◌then◌else◌}
use Rattle.std.proofs.Common.{Option, Some, None, Result, Ok, Err, refl, sym, ◌∙◌, ap, subst, arith}
use Rattle.std.specs.List.{find, list_all, position_or_len}
use Rattle.std.specs.Option.{option_and_then, option_map, option_map_or, option_to_list}
use Rattle.std.proofs.lemmas.Bool.{ltb-true}
use Rattle.std.proofs.lemmas.List.{length-append, length-reverse, length-set, length-take}
use Rattle.std.proofs.lemmas.List.Folds.{find_at}
use Rattle.std.proofs.lemmas.Option.{slice_get-map}
use Rattle.model.specs.declared.builtins.Builtin.{Builtin}
use Rattle.model.specs.declared.builtins.Builtin.TheVariants.{PrintInt, PrintLong, PutByte, Initialize, RunThread}
use Rattle.model.specs.declared.builtins.Builtin.TheVariants.{StartThread, JoinThread}
use Rattle.model.specs.declared.instructions.Instruction.TheVariants.{Return, Invoke}
use Rattle.model.specs.declared.instructions.Invocation.{Invocation}
use Rattle.model.specs.declared.instructions.Invocation.TheVariants.{Virtual, Special, Static, Interface}
use Rattle.model.specs.declared.listings.Method.{Method}
use Rattle.model.specs.declared.names.Member.{Member}
use Rattle.model.specs.declared.places.MethodPlace.{MethodPlace}
use Rattle.model.specs.declared.turns.Abrupt.{Abrupt}
use Rattle.model.specs.declared.turns.Abrupt.TheVariants.{Fault as Faulted, Throw as Throwing}
use Rattle.model.specs.declared.turns.ClassState.{ClassState}
use Rattle.model.specs.declared.turns.ClassState.TheVariants.{Unused, Running, Done, Failed}
use Rattle.model.specs.declared.turns.Exception.TheVariants.{StackOverflow}
use Rattle.model.specs.declared.turns.Fault.{Fault}
use Rattle.model.specs.declared.turns.Fault.TheVariants.{MonitorLimit, StackFull, WrongClass}
use Rattle.model.specs.declared.values.Kind.{Kind}
use Rattle.model.specs.declared.values.Value.{Value}
use Rattle.model.specs.declared.values.Value.TheVariants.{Int, Long, Ref}
use Rattle.model.specs.Callees.{CodedMethod, Callee, callee_of}
use Rattle.model.specs.Callees.Callee.{Own, Coded, NoCode}
use Rattle.model.specs.Classes.MethodPlaces.{is_method, member_of, place_in}
use Rattle.model.specs.Classes.Named.{is_named}
use Rattle.model.specs.Classes.Resolution.{resolved_method}
use Rattle.model.specs.Classes.Search.{Declared}
use Rattle.model.specs.Classes.Selection.{selected}
use Rattle.model.specs.Classes.Types.{is_subtype}
use Rattle.model.specs.ClassListings.{ClassListing}
use Rattle.model.specs.CodeListings.{CodeListing}
use Rattle.model.specs.Completions.{Completion, Site, asks, raises, with_frame}
use Rattle.model.specs.Completions.Completion.{Goes, Faults, Waits}
use Rattle.model.specs.Effects.{effect_of}
use Rattle.model.specs.Effects.Choice.{NewObject}
use Rattle.model.specs.Frames.{Frame, Moved, running, running_frame, with_running, callers, has_room_for, int_on, long_on, ref_on}
use Rattle.model.specs.Frames.{replaced, within_limits}
use Rattle.model.specs.Initialisation.{callers_waiting, framed, initializer_frames, initializer_in, initializer_place, is_initializer_if}
use Rattle.model.specs.Initialisation.{chain_of, runs_initializer, started_at, waiting, with_states}
use Rattle.model.specs.Locals.{arguments_on, called_frame, frames_of_call, value_on}
use Rattle.model.specs.Monitors.{is_full, may_enter, monitor_of}
use Rattle.model.specs.Objects.{class_at, class_if, class_of, object_at}
use Rattle.model.specs.Printing.{decimal_line, low_byte}
use Rattle.model.specs.Programs.{builtin_of, empty_initializer, instruction_of, is_class_initializer, method_at, method_in}
use Rattle.model.specs.Results.{Effect, faulted}
use Rattle.model.specs.Signatures.{argument_kinds}
use Rattle.model.specs.Unwinding.{Landing, Response, Way, failing, handling, landed, response_of, thrown, way_from}
use Rattle.model.specs.Unwinding.{way_of, without}
use Rattle.model.specs.Unwinding.Landing.{Handled, Stopped, Unhandled}
use Rattle.model.specs.Unwinding.Response.{Handles, Fails, Leaves}
use Rattle.model.specs.Values.{births_of}
use Rattle.model.specs.Worlds.{World, Object, Thread, free_monitor, frames_at, frames_of, with_class_states, with_thread}
use Rattle.model.specs.Worlds.Thread.{Live, Ended}
use Rattle.model.specs.Table.Builtins.{builtin_call, prints_on}
use Rattle.model.specs.Table.Initialisation.{after_initialising, claims, declarer, initialises as initialises_at}
use Rattle.model.specs.Table.Invokes.{Call, arguments_in, called, called_on, enters_method, fault_in_pops, guarded, world_entered}
use Rattle.model.specs.Table.Next.{at_site, by_family, class_used}
use Rattle.model.specs.Table.Returns.{gives, leaves_if, leaves_to, leaves_with, past_invoke, resumed, resumes, return_if}
use Rattle.model.specs.Table.Threads.{begins, has_live_thread, joined, numbered, start_if, started, starts, thread_added, thread_if}
use Rattle.join.proofs.Lists.{get-older, get-set_same, get-within}
use Rattle.exploration.specs.PlainTurns.{HasEntered, IsQuiet, is_made}
use Rattle.exploration.specs.Reduction.{IsSettled, IsSettledAt, IsSettledIf, called_of_class, called_on_object}
use Rattle.exploration.specs.Reduction.{called_plainly, class_in, classes_in, entered_if, left_by, left_if, left_to}
use Rattle.exploration.specs.Reduction.{left_with, method_for, monitor_wanted, moved_in, operands_of, plainly}
use Rattle.exploration.specs.Reduction.{unless_fault, unless_held}
use Rattle.exploration.proofs.MadeBirths.{get_below}
use Rattle.exploration.proofs.PlainFrames.{Calm, past_calm}
use Rattle.exploration.proofs.Staying.{declared_place, last_runs, last_running, like_all, like_itself, like_monitor}

-- a return that ends no initialisation, and a call that begins none, are plain steps where they hold no monitor; what
-- was entered shows it

pub nothing_is_something : {A : Type 0} (x : A) → Some x ≡ None → ⊥
nothing_is_something x e = cc

-- ---- the place of what is called

module _ (program : List ClassListing) where
  place_class : (d : Declared Method) (place : MethodPlace) (n : ℕ) (o : Option ClassListing)
      → option_and_then (λ (c : ClassListing). option_map (λ (k : ℕ). let p : MethodPlace = record { class = n; method = k } in p)
      (position (is_method d.member.name d.member.descriptor) c.methods)) o ≡ Some place → n ≡ place.class
  place_class d place n None e = absurd (cc)
  place_class d place n (Some l) e = by (position (is_method d.member.name d.member.descriptor) l.methods) e
    where
      by : (o : Option ℕ) → option_map (λ (k : ℕ). let p : MethodPlace = record { class = n; method = k } in p) o ≡ Some place
          → n ≡ place.class
      by None e = absurd (cc)
      by (Some k) e = ap (λ (o : Option MethodPlace). option_map_or (λ (p : MethodPlace). p.class) o 0) e

  class_place : (d : Declared Method) (place : MethodPlace) (o : Option ℕ)
      → option_and_then (place_in program d) o ≡ Some place → o ≡ Some place.class
  class_place d place None e = absurd (cc)
  class_place d place (Some n) e = ap (λ (k : ℕ). Some k) (place_class d place n (slice_get program n) e)

  -- a class is settled where the place of its method says so
  settled_declarer : (w : World) (o : Option (Declared Method)) (k : CodedMethod) → callee_of program o ≡ Coded k
      → IsSettledAt program w k.place.class → IsSettled program w (declarer o)
  settled_declarer w None k e settled = tt
  settled_declarer w (Some d) k e settled =
      let at = class_place d k.place (position (is_named d.class) program)
      (declared_place program d (builtin_of (member_of d)) k e) in
      subst (IsSettledIf program w) (sym at) settled

  -- ---- initializers run in the frames of a claim

  found_passes : (p : Method → Bool) (xs : List Method) (m : Method) → find p xs ≡ Some m → p m ≡ true
  found_passes p [] m e = absurd (cc)
  found_passes p (x ∷ xs) m e = by (p x) refl (found_passes p xs m) e
    where
      by : (b : Bool) → p x ≡ b → (find p xs ≡ Some m → p m ≡ true) → cond b (Some x) (find p xs) ≡ Some m → p m ≡ true
      by true is further k = (let s : x ≡ m = cc in ap p (sym s) ∙ is)
      by false is further k = further k

  past_initializer : (c : ClassListing) (m : Method) (n : ℕ) (o : Option Method)
      → slice_get c.methods n ≡ o → find is_class_initializer c.methods ≡ o → method_in c n ≡ Some m
      → is_class_initializer m ≡ true
  past_initializer c m n (Some x) at found e =
      (let s : x ≡ m = (let k : method_in c n ≡ Some x = rw at refl in cc) in
      found_passes is_class_initializer c.methods m (found ∙ ap (λ (y : Method). Some y) s))
  past_initializer c m n None at found e = by (n == length c.methods)
      (sym (let k : method_in c n ≡ cond (n == length c.methods) (Some empty_initializer) None = rw at refl in k) ∙ e)
    where
      by : (b : Bool) → cond b (Some empty_initializer) None ≡ Some m → is_class_initializer m ≡ true
      by true k = (let s : empty_initializer ≡ m = cc in ap is_class_initializer (sym s))
      by false k = absurd (cc)

  initializer_at : (class : ℕ) (m : Method) → method_at program (initializer_place program class) ≡ Some m
      → is_class_initializer m ≡ true
  initializer_at class m e = by (slice_get program class) refl e
    where
      by : (o : Option ClassListing) → slice_get program class ≡ o
          → option_and_then (λ (c : ClassListing). method_in c (initializer_in o)) o ≡ Some m → is_class_initializer m ≡ true
      by None at k = absurd (cc)
      by (Some c) at k = past_initializer c m (position_or_len is_class_initializer c.methods)
          (slice_get c.methods (position_or_len is_class_initializer c.methods)) refl (find_at is_class_initializer c.methods) k

  abbrev AllInitialise : List Frame → Type 0
  AllInitialise [] = Unit {0}
  AllInitialise (f ∷ fs) = (runs_initializer program f ≡ true) × AllInitialise fs

  all_more : (fs gs : List Frame) → AllInitialise fs → AllInitialise gs → AllInitialise (fs ++ gs)
  all_more [] gs a b = b
  all_more (f ∷ fs) gs a b = (a.0, all_more fs gs a.1 b)

  started_initialise : (class : ℕ) (o : Option Method) → method_at program (initializer_place program class) ≡ o
      → AllInitialise (framed (initializer_place program class) (option_and_then (λ (m : Method). m.code) o))
  started_initialise class None e = tt
  started_initialise class (Some m) e = by m.code
    where
      by : (o : Option CodeListing) → AllInitialise (framed (initializer_place program class) o)
      by None = tt
      by (Some code) = (ap is_initializer_if e ∙ initializer_at class m e, tt)

  claimed_initialise : (classes : List ℕ) → AllInitialise (initializer_frames program classes)
  claimed_initialise [] = tt
  claimed_initialise (class ∷ classes) = all_more (started_at program (initializer_place program class)) _
      (started_initialise class (method_at program (initializer_place program class)) refl) (claimed_initialise classes)

-- ---- a thread's frames after a turn

module _ (program : List ClassListing) (w : World) (t : ℕ) (fs : List Frame)
    (live : slice_get w.threads t ≡ Some (Live fs)) where
  same_frames : frames_at w t ≡ fs
  same_frames = ap frames_of live

  frames_put : (v : World) → v.threads ≡ w.threads → (gs : List Frame) → frames_at (with_thread v t (Live gs)) t ≡ gs
  frames_put v e gs = ap frames_of (get-set_same v.threads t (Live gs) (Live fs) (ap (λ ts. slice_get ts t) e ∙ live))

  abbrev Short : World → Type 0
  Short v = length (frames_at v t) ≤ length fs

  no_more : (v : World) → Short v → length (frames_at v t) ≡ length (frames_at w t) + 1 → ⊥
  no_more v l e = (let k : length (frames_at w t) ≡ length fs = ap length same_frames in omega (arith, l, e, k))

  put_short : (v : World) → v.threads ≡ w.threads → (gs : List Frame) → length gs ≤ length fs
      → Short (with_thread v t (Live gs))
  put_short v e gs l = (let k : length (frames_at (with_thread v t (Live gs)) t) ≡ length gs = ap length (frames_put v e gs) in
      omega (arith, l, k))

  itself_short : Short w
  itself_short = (let k : length (frames_at w t) ≡ length fs = ap length same_frames in omega (arith, k))

  moved_short : (v : World) → v.threads ≡ w.threads → (f : Frame)
      → Short (with_thread v t (Live (with_running (frames_at w t) f)))
  moved_short v e f = put_short v e (with_running (frames_at w t) f)
      (let k : length (with_running (frames_at w t) f) ≡ length (frames_at w t) =
      length-set (frames_at w t) (length (frames_at w t) - 1) f in
      let l : length (frames_at w t) ≡ length fs = ap length same_frames in omega (arith, k, l))

  -- ---- a throwable leaves no more

  abbrev LandsWithin : ℕ → Landing → Type 0
  LandsWithin n (Handled handler f below) = suc (length below) ≤ n
  LandsWithin n (Stopped f below) = suc (length below) ≤ n
  LandsWithin n Unhandled = Unit {0}

  from_within : (n : ℕ) (f : Frame) (gs : List Frame) → suc (length gs) ≤ n → (r : Response) (z : Way)
      → LandsWithin n z.landing → LandsWithin n (way_from f gs r z).landing
  from_within n f gs l (Handles handler) z k = l
  from_within n f gs l Fails z k = l
  from_within n f gs l Leaves z k = k

  way_within : (n : ℕ) (class : List ℕ) (gs : List Frame) → length gs ≤ n → LandsWithin n (way_of program class gs).landing
  way_within n class [] l = tt
  way_within n class (f ∷ gs) l = from_within n f gs l (response_of program class f) (way_of program class gs)
      (way_within n class gs (omega (arith, l)))

  restored_short : (v : World) → v.threads ≡ w.threads → (below : List Frame) (f : Frame) → suc (length below) ≤ length fs
      → Short (with_thread v t (Live (reverse below ++ f ∷ [])))
  restored_short v e below f l = put_short v e (reverse below ++ f ∷ [])
      (let k = length-append (reverse below) (f ∷ []) in let m = length-reverse below in omega (arith, k, m, l))

  ended_short : (v : World) → v.threads ≡ w.threads → (by : Option (List ℕ)) → Short (with_thread v t (Ended by))
  ended_short v e by = (let k : length (frames_at (with_thread v t (Ended by)) t) ≡ 0 =
      ap (λ (o : Option Thread). length (frames_of o))
      (get-set_same v.threads t (Ended by) (Live fs) (ap (λ ts. slice_get ts t) e ∙ live)) in omega (arith, k))

  landed_short : (v : World) → v.threads ≡ w.threads → (birth : ℕ) (class : List ℕ) (l : Landing)
      → LandsWithin (length fs) l → Short (landed w v t birth class l).after
  landed_short v e birth class Unhandled k = ended_short v e (Some class)
  landed_short v e birth class (Stopped f below) k = restored_short v e below (failing f) k
  landed_short v e birth class (Handled handler f below) k = go (nat_le 1 f.room)
    where
      go : (x : Bool) → let z : Effect = if x then record {
        after = with_thread v t (Live (reverse below ++ handling birth handler f ∷ []));
        writes = birth ∷ [];
      } else faulted w t StackFull in Short z.after
      go true = restored_short v e below (handling birth handler f) k
      go false = itself_short

  thrown_short : (birth : ℕ) → Short (thrown program w w t birth).after
  thrown_short birth =
      let class = class_at w birth in
      let way = way_of program class (reverse (frames_at w t)) in
      let like = like_all program w w (like_itself program w) t (map (λ (f : Frame). f.monitor) way.left) in
      landed_short (without program w t way.left) like.threads birth class way.landing
      (way_within (length fs) class (reverse (frames_at w t))
      (let k = length-reverse (frames_at w t) in let l : length (frames_at w t) ≡ length fs = ap length same_frames in
      omega (arith, k, l)))

  -- ---- quiet turns

  abbrev Quiet : Completion → Type 0
  Quiet c = IsQuiet program w t c

  abbrev After : Completion → World
  After c = (effect_of program w t NewObject c).after

  fault_loud : (fault : Fault) → Quiet (Faults fault) → ⊥
  fault_loud fault q = nothing_is_something (fault, t) q.1

  module _ (f : Frame) (runs : running fs ≡ Some f) (n : ℕ) where
    abbrev s : Site
    s = record { program = program; world = w; thread = t; frame = f; next = n }

    -- ---- the machine's own methods enter no frame

    prints_short : (bytes : ℤ → List ℕ) (r : Result ℤ Fault) → Quiet (prints_on s bytes r) → Short (After (prints_on s bytes r))
    prints_short bytes (Err fault) q = absurd (fault_loud fault q)
    prints_short bytes (Ok z) q = moved_short w refl (replaced n f 1 []).frame

    added_short : (b : ℕ) (o : Object) (x : Thread) (ws : List ℕ) → Short (After (thread_added s b o x ws))
    added_short b o x ws =
        let v = with_frame (numbered w b o) s (replaced n f 1 []).frame in
        let within = get_below w.threads t (Live fs) live in
        let size : length v.threads ≡ length w.threads = length-set w.threads t _ in
        let l : length (frames_at v t) ≤ length fs = moved_short (numbered w b o) refl (replaced n f 1 []).frame in
        let same : slice_get (v.threads ++ x ∷ []) t ≡ slice_get v.threads t = get-older v.threads x t (omega (arith, within, size)) in
        let k : length (frames_of (slice_get (v.threads ++ x ∷ []) t)) ≡ length (frames_at v t) =
        ap (λ (y : Option Thread). length (frames_of y)) same in
        omega (arith, l, k)

    begins_short : (b : ℕ) (o : Object) (c : Callee) → Quiet (begins s b o c) → Short (After (begins s b o c))
    begins_short b o NoCode q = absurd (fault_loud _ q)
    begins_short b o (Own builtin) q = added_short b o (Ended None) []
    begins_short b o (Coded k) q = added_short b o
        (Live (called_frame k.place k.code.max_locals k.code.max_stack (Ref (Some b) ∷ []) ∷ [])) (b ∷ [])

    start_short : (c : Completion) → (Quiet c → Short (After c)) → (started full : Bool) → Quiet (start_if c started full)
        → Short (After (start_if c started full))
    start_short c k true full q = absurd (nothing_is_something 0 q.0)
    start_short c k false true q = absurd (fault_loud _ q)
    start_short c k false false q = k q

    starts_short : (b : ℕ) (o : Option Object) → Quiet (starts s b o) → Short (After (starts s b o))
    starts_short b None q = absurd (fault_loud _ q)
    starts_short b (Some o) q =
        let c = callee_of program (selected program (class_of o.contents) (codes "run") (codes "()V")) in
        start_short (begins s b o c) (begins_short b o c) (is_some o.thread) (nat_le 64 (length w.threads)) q

    started_short : (r : Result (Option ℕ) Fault) → Quiet (started s r) → Short (After (started s r))
    started_short (Err fault) q = absurd (fault_loud fault q)
    started_short (Ok None) q = absurd (nothing_is_something 0 q.0)
    started_short (Ok (Some b)) q = starts_short b (object_at w b) q

    joined_short : (r : Result (Option ℕ) Fault) → Quiet (joined s r) → Short (After (joined s r))
    joined_short (Err fault) q = absurd (fault_loud fault q)
    joined_short (Ok None) q = absurd (nothing_is_something 0 q.0)
    joined_short (Ok (Some b)) q = by (has_live_thread w (thread_if (object_at w b)))
      where
        by : (x : Bool) → Short (After (if x then Waits else Goes (with_frame w s (replaced n f 1 []).frame) (births_of [])))
        by true = itself_short
        by false = moved_short w refl (replaced n f 1 []).frame

    own_short : (b : Builtin) → Quiet (builtin_call s b) → Short (After (builtin_call s b))
    own_short PrintInt q = prints_short decimal_line (int_on f.stack) q
    own_short PrintLong q = prints_short decimal_line (long_on f.stack) q
    own_short PutByte q = prints_short low_byte (int_on f.stack) q
    own_short Initialize q = moved_short w refl (replaced n f 1 []).frame
    own_short RunThread q = moved_short w refl (replaced n f 1 []).frame
    own_short StartThread q = started_short (ref_on f.stack) q
    own_short JoinThread q = joined_short (ref_on f.stack) q

    -- ---- what was entered

    module _ (invocation : Invocation) where
      abbrev Entered : World → Type 0
      Entered v = HasEntered program w t f invocation v

      abbrev Finds : Option (List Frame) → Type 0
      Finds o = (gs : List Frame) × (o ≡ Some gs)

      abbrev call : Member → Option ℕ → Call
      call m o = record { site = s; member = m; object = o }

      module _ (m : Member) (object : Option ℕ) (k : CodedMethod) where
        abbrev framed_by : Option ℕ → List Frame
        framed_by o = guarded o (frames_of_call (frames_at w t) k.place k.code.max_locals k.code.max_stack (operands_of m object))

        abbrev enters_by : Option ℕ → Bool → Bool → Bool → Completion
        enters_by o may room full =
            if not may then Waits else if not room then raises StackOverflow else if full then Faults MonitorLimit
            else Goes (with_thread (world_entered s o) t (Live (framed_by o)))
            (births_of (arguments_on (operands_of m object) f.stack) ++ option_to_list o)

        entered_threads : (o : Option ℕ) → (world_entered s o).threads ≡ w.threads
        entered_threads None = refl
        entered_threads (Some b) = (like_monitor program w w (like_itself program w) b _).threads

        running_put : (gs : List Frame) (g h : Frame) → running gs ≡ Some g → running (with_running gs h) ≡ Some h
        running_put gs g h e =
            ap (λ (i : ℕ). slice_get (set gs (length gs - 1) h) (i - 1)) (length-set gs (length gs - 1) h)
            ∙ get-set_same gs (length gs - 1) h g e

        -- the frame of the call is on top, and gives the monitor back
        top_frame : (o : Option ℕ) → (g : Frame) × (running (framed_by o) ≡ Some g) × (g.monitor ≡ o) × (g.method ≡ k.place)
        top_frame o =
            let caller = running_frame (frames_at w t) in
            let below = with_running (frames_at w t) (record caller { stack = drop (operands_of m object) caller.stack }) in
            let new = called_frame k.place k.code.max_locals k.code.max_stack (arguments_on (operands_of m object) caller.stack) in
            let all = below ++ new ∷ [] in
            let top = record (running_frame all) { monitor = o } in
            (top, running_put all new top (last_runs below new), refl, ap (λ (g : Frame). g.method) (last_running below new))

        abbrev IsEntry : Option ℕ → Bool → Frame → Type 0
        IsEntry o room g = (o ≡ None) × (room ≡ true) × (is_initializer_if (method_at program k.place) ≡ false)
            × (g.method ≡ k.place)

        entry : (o : Option ℕ) (may room full : Bool) → Quiet (enters_by o may room full)
            → (e : Entered (After (enters_by o may room full))) → IsEntry o room e.frame
        entry o false room full q e = absurd (no_more w itself_short e.more)
        entry o true false full q e = absurd (no_more (thrown program w w t 2).after (thrown_short 2) e.more)
        entry o true true true q e = absurd (fault_loud _ q)
        entry o true true false q e =
            let top = top_frame o in
            let same : e.frame ≡ top.0 =
            ap (λ (x : Option Frame). option_map_or (λ (g : Frame). g) x e.frame)
            (sym e.runs ∙ ap running (frames_put (world_entered s o) (entered_threads o) (framed_by o)) ∙ top.1) in
            let method : e.frame.method ≡ k.place = ap (λ (g : Frame). g.method) same ∙ top.3 in (
              sym top.2 ∙ ap (λ (g : Frame). g.monitor) (sym same) ∙ e.unheld,
              refl,
              ap (λ (p : MethodPlace). is_initializer_if (method_at program p)) (sym method) ∙ e.no_initializer,
              method,
            )

        entry_finds : (o : Option ℕ) (room initializer : Bool) → o ≡ None → room ≡ true → initializer ≡ false
            → Finds (entered_if fs (operands_of m object) k o room initializer)
        entry_finds (Some b) room initializer empty room_is plain = absurd (cc)
        entry_finds None false initializer empty room_is plain = absurd (cc)
        entry_finds None true true empty room_is plain = absurd (cc)
        entry_finds None true false empty room_is plain =
            (guarded None (frames_of_call fs k.place k.code.max_locals k.code.max_stack (operands_of m object)), refl)

        entered_method : Quiet (enters_method (call m object) k) → (e : Entered (After (enters_method (call m object) k)))
            → Finds (called_plainly program fs (operands_of m object) object (Coded k)) × (e.frame.method ≡ k.place)
        entered_method q e =
            let o = monitor_wanted object k.method in
            let room = has_room_for (frames_at w t) k.code.max_locals k.code.max_stack in
            let z = entry o (may_enter t (option_map_or (monitor_of w) o free_monitor).owner) room
            (is_full (option_map_or (monitor_of w) o free_monitor)) q e in
            let here : has_room_for fs k.code.max_locals k.code.max_stack ≡ true =
            ap (λ ks. has_room_for ks k.code.max_locals k.code.max_stack) (sym same_frames) ∙ z.1 in (
              entry_finds o (has_room_for fs k.code.max_locals k.code.max_stack) (is_initializer_if (method_at program k.place))
                  z.0 here z.2,
              z.3,
            )

      -- what was called had code
      abbrev CallFinds : Member → Option ℕ → Callee → Frame → Type 0
      CallFinds m object c g = Finds (called_plainly program fs (operands_of m object) object c)
          × (k : CodedMethod) × (c ≡ Coded k) × (g.method ≡ k.place)

      entered_call : (m : Member) (object : Option ℕ) (c : Callee) → Quiet (called (call m object) c)
          → (e : Entered (After (called (call m object) c))) → CallFinds m object c e.frame
      entered_call m object NoCode q e = absurd (fault_loud _ q)
      entered_call m object (Own builtin) q e = absurd (no_more (After (builtin_call s builtin)) (own_short builtin q) e.more)
      entered_call m object (Coded k) q e = (let z = entered_method m object k q e in (z.0, k, refl, z.1))

      -- ---- the object

      made_ref : (births : ℕ) (stack : List Value) (b : ℕ) → list_all (is_made births) stack ≡ true
          → ref_on stack ≡ Ok (Some b) → b < births
      made_ref births [] b all e = absurd (cc)
      made_ref births (Int z ∷ vs) b all e = absurd (cc)
      made_ref births (Long z ∷ vs) b all e = absurd (cc)
      made_ref births (Ref None ∷ vs) b all e = absurd (cc)
      made_ref births (Ref (Some a) ∷ vs) b all e =
          (let s : a ≡ b = cc in ltb-true b births (ap (λ (x : ℕ). nat_lt x births) (sym s)
          ∙ first (nat_lt a births) (list_all (is_made births) vs) all))
        where
          first : (x y : Bool) → (x && y) ≡ true → x ≡ true
          first true y k = refl
          first false y k = absurd (cc)

      made_below : (births i : ℕ) (stack : List Value) → list_all (is_made births) stack ≡ true
          → list_all (is_made births) (drop i stack) ≡ true
      made_below births zero stack all = all
      made_below births (suc i) [] all = all
      made_below births (suc i) (v ∷ vs) all = made_below births i vs
          (second (is_made births v) (list_all (is_made births) vs) all)
        where
          second : (x y : Bool) → (x && y) ≡ true → y ≡ true
          second true y k = k
          second false y k = absurd (cc)

      module _ (m : Member) (method : List ℕ → Option (Declared Method)) where
        by_test : (b : ℕ) (class : List ℕ) (x : Bool)
            → let c : Completion = if not x then Faults WrongClass else called (call m (Some b)) (callee_of program (method class))
            in Quiet c → Entered (After c)
            → Finds (if x then called_plainly program fs (operands_of m (Some b)) (Some b) (callee_of program (method class))
            else None)
        by_test b class true q e = (entered_call m (Some b) (callee_of program (method class)) q e).0
        by_test b class false q e = absurd (fault_loud _ q)

        by_object : (b : ℕ) (o : Object) (x : Option Object) → x ≡ Some o
            → let c : Completion = if not (is_subtype program (class_if x) m.class) then Faults WrongClass
            else called (call m (Some b)) (callee_of program (method (class_if x))) in Quiet c → Entered (After c)
            → Finds (called_of_class program fs m method b (option_map class_in x))
        by_object b o None there q e = absurd (cc)
        by_object b o (Some z) there q e = by_test b (class_in z) (is_subtype program (class_in z) m.class) q e

        by_reference : (r : Result (Option ℕ) Fault) → ((b : ℕ) → r ≡ Ok (Some b) → b < length w.objects)
            → Quiet (called_on s m (λ (b : ℕ). method (class_at w b)) r)
            → Entered (After (called_on s m (λ (b : ℕ). method (class_at w b)) r))
            → Finds (called_on_object program (classes_in w) fs m method r)
        by_reference (Err fault) k q e = absurd (fault_loud fault q)
        by_reference (Ok None) k q e = absurd (nothing_is_something 0 q.0)
        by_reference (Ok (Some b)) k q e =
            let o = get-within w.objects b (k b refl) in
            let z = by_object b o.0 (object_at w b) o.1 q e in
            (z.0, ap (called_of_class program fs m method b) (slice_get-map class_in w.objects b) ∙ z.1)

        on_object : Quiet (called_on s m (λ (b : ℕ). method (class_at w b)) (ref_on (drop (arguments_in m) f.stack)))
            → Entered (After (called_on s m (λ (b : ℕ). method (class_at w b)) (ref_on (drop (arguments_in m) f.stack))))
            → Finds (called_on_object program (classes_in w) fs m method (ref_on (drop (arguments_in m) f.stack)))
        on_object q e = by_reference (ref_on (drop (arguments_in m) f.stack))
            (λ b k. made_ref (length w.objects) (drop (arguments_in m) f.stack) b
            (made_below (length w.objects) (arguments_in m) f.stack e.made) k) q e

      by_pops : (o : Option Fault) (c : Completion) (x : Option (List Frame)) (Also : Type 0)
          → (Quiet c → Entered (After c) → Finds x × Also)
          → Quiet (option_map_or Faults o c) → Entered (After (option_map_or Faults o c)) → Finds (unless_fault o x) × Also
      by_pops None c x also k q e = k q e
      by_pops (Some fault) c x also k q e = absurd (fault_loud fault q)

      -- ---- nothing is initialised first

      module _ (own : Completion) where
        claimed_frames : (xs ys : List Frame) → frames_at w t ++ callers_waiting xs ≡ ys → length ys ≡ length (frames_at w t) + 1
            → AllInitialise program xs → (g : Frame) → running ys ≡ Some g → runs_initializer program g ≡ true
        claimed_frames [] ys e more all g top =
            absurd (let l = length-append (frames_at w t) [] in let k = ap length e in omega (arith, l, k, more))
        claimed_frames (x ∷ []) ys e more all g top =
            (let q : Some x ≡ Some g = sym (last_runs (frames_at w t) x) ∙ ap running e ∙ top in
            let s : x ≡ g = ap (λ (o : Option Frame). option_map_or (λ (y : Frame). y) o x) q in
            ap (runs_initializer program) (sym s) ∙ all.0)
        claimed_frames (x ∷ y ∷ []) ys e more all g top =
            absurd (let l = length-append (frames_at w t) (waiting x ∷ y ∷ []) in let k = ap length e in omega (arith, l, k, more))
        claimed_frames (x ∷ y ∷ z ∷ zs) ys e more all g top =
            absurd (let l = length-append (frames_at w t) (waiting x ∷ waiting y ∷ callers_waiting (z ∷ zs)) in
            let k = ap length e in omega (arith, l, k, more))

        abbrev ClaimGoes : List ℕ → Completion
        ClaimGoes classes = Goes (with_class_states (with_thread w t (Live (frames_at w t ++ callers_waiting
            (initializer_frames program classes)))) (with_states (Running t) classes w.statics.states)) []

        claims_not : (classes : List ℕ) (x : Bool) → let c : Completion = if x then ClaimGoes classes else raises StackOverflow
            in Quiet c → Entered (After c) → ⊥
        claims_not classes false q e = no_more (thrown program w w t 2).after (thrown_short 2) e.more
        claims_not classes true q e =
            let gs = frames_at w t ++ callers_waiting (initializer_frames program classes) in
            let put : frames_at (with_thread w t (Live gs)) t ≡ gs = frames_put w refl gs in
            let yes = claimed_frames (initializer_frames program classes) gs refl
            (ap length (sym put) ∙ e.more) (claimed_initialise program classes) e.frame (ap running (sym put) ∙ e.runs) in
            let both : true ≡ false = sym yes ∙ e.no_initializer in absurd (cc)

        claims_same : (classes : List ℕ) → Quiet (claims s classes own) → Entered (After (claims s classes own))
            → claims s classes own ≡ own
        claims_same [] q e = refl
        claims_same (class ∷ classes) q e = absurd (claims_not (class ∷ classes)
            (within_limits (frames_at w t ++ callers_waiting (initializer_frames program (class ∷ classes)))) q e)

        mine_same : (unused : List ℕ) (x : Bool) → let c : Completion = if x then claims s unused own else Waits in
            Quiet c → Entered (After c) → c ≡ own
        mine_same unused true q e = claims_same unused q e
        mine_same unused false q e = absurd (no_more w itself_short e.more)

        initialises_same : (unused : List ℕ) (state : ClassState) → Quiet (initialises_at s unused state own)
            → Entered (After (initialises_at s unused state own)) → initialises_at s unused state own ≡ own
        initialises_same unused Unused q e = claims_same unused q e
        initialises_same unused (Running other) q e = mine_same unused (other == t) q e
        initialises_same unused Done q e = claims_same unused q e
        initialises_same unused Failed q e = absurd (nothing_is_something 0 q.0)

        after_same : (class : Option (List ℕ)) → Quiet (after_initialising s class own)
            → Entered (After (after_initialising s class own)) → after_initialising s class own ≡ own
        after_same None q e = refl
        after_same (Some name) q e = initialises_same (chain_of program w.statics.states name).unused
            (chain_of program w.statics.states name).above q e

    -- ---- a call

    abbrev Calls : Invocation → Member → Type 0
    Calls i m = ((gs : List Frame) × (plainly program (classes_in w) fs f n (Invoke i m) ≡ Some gs))
        × IsSettled program w (class_used program (Invoke i m))

    static_settled : (m : Member) (g : Frame) → IsSettledAt program w g.method.class
        → (c : Callee) → callee_of program (resolved_method program m) ≡ c
        → ((k : CodedMethod) × (c ≡ Coded k) × (g.method ≡ k.place))
        → IsSettled program w (class_used program (Invoke Static m))
    static_settled m g settled c e z = settled_declarer program w (resolved_method program m) z.0 (e ∙ z.1)
        (subst (λ (p : MethodPlace). IsSettledAt program w p.class) z.2 settled)

    static_calls : (m : Member) → IsQuiet program w t (by_family s (Invoke Static m))
        → HasEntered program w t f Static (effect_of program w t NewObject (by_family s (Invoke Static m))).after
        → Calls Static m
    static_calls m q e = by_pops Static (fault_in_pops (reverse (argument_kinds m.descriptor)) f.stack)
        (called (call Static m None) (callee_of program (resolved_method program m)))
        (called_plainly program fs (operands_of m None) None (callee_of program (resolved_method program m)))
        (IsSettled program w (class_used program (Invoke Static m)))
        (λ quiet entered. let z = entered_call Static m None (callee_of program (resolved_method program m)) quiet entered in (
          z.0,
          static_settled m entered.frame entered.settled (callee_of program (resolved_method program m)) refl
              (z.1, z.2, z.3),
        )) q e

    object_calls : (i : Invocation) (m : Member) (method : List ℕ → Option (Declared Method))
        → let c : Completion = option_map_or Faults (fault_in_pops (reverse (argument_kinds m.descriptor)) f.stack)
        (called_on s m (λ (b : ℕ). method (class_at w b)) (ref_on (drop (arguments_in m) f.stack)))
        in IsQuiet program w t c → HasEntered program w t f i (effect_of program w t NewObject c).after
        → ((gs : List Frame) × (unless_fault (fault_in_pops (reverse (argument_kinds m.descriptor)) f.stack)
        (called_on_object program (classes_in w) fs m method (ref_on (drop (arguments_in m) f.stack))) ≡ Some gs)) × Unit {0}
    object_calls i m method q e = by_pops i (fault_in_pops (reverse (argument_kinds m.descriptor)) f.stack)
        (called_on s m (λ (b : ℕ). method (class_at w b)) (ref_on (drop (arguments_in m) f.stack)))
        (called_on_object program (classes_in w) fs m method (ref_on (drop (arguments_in m) f.stack))) (Unit {0})
        (λ quiet entered. (on_object i m method quiet entered, tt)) q e

    own_calls : (i : Invocation) (m : Member) → IsQuiet program w t (by_family s (Invoke i m))
        → HasEntered program w t f i (effect_of program w t NewObject (by_family s (Invoke i m))).after → Calls i m
    own_calls Static m q e = static_calls m q e
    own_calls Virtual m q e = object_calls Virtual m (method_for program f Virtual m) q e
    own_calls Special m q e = object_calls Special m (method_for program f Special m) q e
    own_calls (Interface count) m q e = object_calls (Interface count) m (method_for program f (Interface count) m) q e

    pub quiet_calls : (i : Invocation) (m : Member) → IsQuiet program w t (at_site s (Invoke i m))
        → HasEntered program w t f i (effect_of program w t NewObject (at_site s (Invoke i m))).after → Calls i m
    quiet_calls i m q e =
        let same : at_site s (Invoke i m) ≡ by_family s (Invoke i m) =
        after_same i (by_family s (Invoke i m)) (class_used program (Invoke i m)) q e in
        own_calls i m (subst (IsQuiet program w t) same q)
        (subst (λ c. HasEntered program w t f i (effect_of program w t NewObject c).after) same e)

    -- ---- a return

    module _ (none : f.monitor ≡ None) (other : runs_initializer program f ≡ false) (two : 2 ≤ length fs) where
      has_caller : (g : Frame) × (running (callers fs) ≡ Some g)
      has_caller = get-within (callers fs) (length (callers fs) - 1)
          (let k = length-take (length fs - 1) fs in omega (arith, k, two))

      abbrev GoesTo : Option (List Frame) → Type 0
      GoesTo o = (gs : List Frame) × (o ≡ Some gs)

      resumes_finds : (r : Result Moved Abrupt) (g : Frame) → Calm g r → Quiet (resumes s r) → GoesTo (moved_in (callers fs) r)
      resumes_finds (Ok m) g calm q = (with_running (callers fs) m.frame, refl)
      resumes_finds (Err (Faulted fault)) g calm q = absurd (fault_loud fault q)
      resumes_finds (Err (Throwing exception)) g calm q = absurd (nothing_is_something 0 (sym (ap asks calm) ∙ q.0))

      to_finds : (v : Option Value) (o : Option Frame) → (g : Frame) → o ≡ Some g → Quiet (leaves_to s v o)
          → GoesTo (left_to program fs v o)
      to_finds v None g e q = absurd (cc)
      to_finds v (Some caller) g e q =
          let past = past_invoke caller v (instruction_of program caller) in
          resumes_finds past caller (past_calm caller v (instruction_of program caller))
          (subst (λ (x : Bool). Quiet (resumes s (resumed s caller v x))) other q)

      leaves_finds : (v : Option Value) → Quiet (leaves_with s v) → GoesTo (left_with program fs v)
      leaves_finds v q = to_finds v (running (callers fs)) has_caller.0 has_caller.1
          (subst (λ ks. Quiet (leaves_to s v (running (callers ks)))) same_frames q)

      if_finds : (r : Result Value Fault) → Quiet (leaves_if s r) → GoesTo (left_if program fs r)
      if_finds (Err fault) q = absurd (fault_loud fault q)
      if_finds (Ok v) q = leaves_finds (Some v) q

      by_finds : (kind : Option Kind) (right : Bool) → Quiet (return_if s kind right) → GoesTo (left_by program fs f kind right)
      by_finds kind false q = absurd (fault_loud _ q)
      by_finds None true q = leaves_finds None q
      by_finds (Some kind) true q = if_finds (value_on kind f.stack) q

      pub quiet_returns : (kind : Option Kind) → IsQuiet program w t (at_site s (Return kind))
          → (gs : List Frame) × (plainly program (classes_in w) fs f n (Return kind) ≡ Some gs)
      quiet_returns kind q =
          let right = gives kind (method_at program f.method) in
          let z = by_finds kind right q in (
            z.0,
            ap (λ (o : Option ℕ). unless_held o (runs_initializer program f) (left_by program fs f kind right)) none
                ∙ ap (λ (x : Bool). unless_held None x (left_by program fs f kind right)) other ∙ z.1,
          )
