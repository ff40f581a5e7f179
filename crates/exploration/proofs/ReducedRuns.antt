use Rattle.std.proofs.Common.{◌≡◌, ◌⊎◌, inl, inr, ℕ, zero, suc, List, [], ◌∷◌, ◌++◌, length, map, set, slice_get}
use Rattle.std.proofs.Common.{Bool, true, false, if◌then◌else◌, nat_le, not, is_none, ◌&&◌, Option, Some, None, refl, sym}
use Rattle.std.proofs.Common.{◌∙◌, ap, subst, arith}
use Rattle.model.specs.declared.journals.Limits.{Limits}
use Rattle.model.specs.declared.turns.Actor.TheVariants.{Thread as ThreadActor}
use Rattle.model.specs.declared.turns.Fault.{Fault}
use Rattle.model.specs.declared.turns.Status.{Status}
use Rattle.model.specs.declared.turns.Turn.TheVariants.{NotReady, OutputFull, StepLimit}
use Rattle.model.specs.ClassListings.{ClassListing}
use Rattle.model.specs.Frames.{Frame}
use Rattle.model.specs.Worlds.{World, Thread, frames_at, frames_of, lives, is_live, with_thread}
use Rattle.model.specs.Worlds.Thread.{Live, Ended}
use Rattle.exploration.specs.declared.ends.End.TheVariants.{Ended as HasEnded}
use Rattle.model.specs.Completions.{Completion, prints, waits}
use Rattle.model.specs.Effects.{Choice}
use Rattle.model.specs.Effects.Choice.{NewObject, NoRoom}
use Rattle.model.specs.Results.{Effect}
use Rattle.model.specs.Observers.{status_in}
use Rattle.model.specs.Ready.{is_ready}
use Rattle.model.specs.Table.Next.{completion, next, asked}
use Rattle.model.specs.Turns.{refusal, refusal_after, thread_refusal, overflows, passes}
use Rattle.model.proofs.CollectorLemmas.Running.{unfaulted}
use Rattle.model.proofs.NextKeeps.{next-choice}
use Rattle.exploration.specs.Representation.{Represents, Images, uncounted}
use Rattle.exploration.specs.ClosedLists.{ComesTo, IsAmong}
use Rattle.exploration.specs.ClosedLists.ComesTo.{begins, turns}
use Rattle.exploration.specs.declared.ends.End.{End}
use Rattle.exploration.specs.Observations.{end_of, IsHalted, Observed, observed}
use Rattle.exploration.specs.Search.{IsExpanded}
use Rattle.exploration.specs.Reduction.{PlainStep, GoesAhead, IsAheadAmong, ClosedReduced}
use Rattle.exploration.specs.Reduction.GoesAhead.{stays, steps}
use Rattle.exploration.specs.ReducedRuns.{ShowsSameEnd, ReducedShowsAll}
use Rattle.exploration.proofs.Turns.{turn_images}
use Rattle.exploration.proofs.Composition.{represents_image}
use Rattle.exploration.proofs.ClosedLists.{same_refusal, same_thread_refusal, missing}
use Rattle.exploration.proofs.Independence.{with_threads, Near, next_near, refused_near}
use Rattle.exploration.proofs.PlainSteps.{plain_comes, plain_next, image_ahead}
use Rattle.exploration.proofs.Observations.{observed_same, status_at}
use Rattle.exploration.proofs.RowCounts.{refused_at}
use Rattle.std.specs.List.{list_any}
use Rattle.std.proofs.Common.{◌==◌, ◌-◌, drop, position, reverse, Result, Ok, Err}
use Rattle.model.specs.declared.instructions.Instruction.TheVariants.{Nop, Constant, Local, Stack, Number, Branch}
use Rattle.model.specs.declared.instructions.Instruction.TheVariants.{TableSwitch, LookupSwitch, Return}
use Rattle.model.specs.declared.instructions.Instruction.TheVariants.{Static as StaticField, Field, Array, Class}
use Rattle.model.specs.declared.instructions.Instruction.TheVariants.{Invoke, Throw, Monitor}
use Rattle.model.specs.declared.instructions.Invocation.{Invocation}
use Rattle.model.specs.declared.instructions.Invocation.TheVariants.{Virtual, Special, Static, Interface}
use Rattle.model.specs.declared.listings.Placed.{Placed}
use Rattle.model.specs.declared.names.Member.{Member}
use Rattle.model.specs.declared.listings.Method.{Method}
use Rattle.model.specs.declared.turns.Abrupt.{Abrupt}
use Rattle.model.specs.declared.turns.Mark.{Mark}
use Rattle.model.specs.declared.turns.Mark.TheVariants.{Unmarked, Waiting, Failing}
use Rattle.model.specs.declared.values.Kind.{Kind}
use Rattle.model.specs.declared.values.Value.{Value}
use Rattle.model.specs.Callees.{CodedMethod, Callee, callee_of}
use Rattle.model.specs.Callees.Callee.{Own, Coded, NoCode}
use Rattle.model.specs.Classes.Named.{is_named}
use Rattle.model.specs.Classes.Resolution.{resolved_method}
use Rattle.model.specs.Classes.Search.{Declared}
use Rattle.model.specs.Classes.Types.{is_subtype}
use Rattle.model.specs.Frames.{Moved, callers, has_room_for, int_on, no_frame, ref_on, replaced, running, running_frame, with_running}
use Rattle.model.specs.Initialisation.{is_initializer_if, runs_initializer}
use Rattle.model.specs.Locals.{arguments_on, called_frame, value_on}
use Rattle.model.specs.Programs.{instruction_of, method_at}
use Rattle.model.specs.Signatures.{argument_kinds}
use Rattle.model.specs.Table.Constants.{constant_value}
use Rattle.model.specs.Table.Invokes.{arguments_in, fault_in_pops}
use Rattle.model.specs.Table.Next.{Listed}
use Rattle.model.specs.Table.Returns.{gives, past_invoke}
use Rattle.exploration.specs.Reduction.{IsSettled, IsSettledAt, IsSettledIf, called_by, called_of_class, called_on_object}
use Rattle.exploration.specs.Reduction.{called_plainly, classes_in, entered_if, initialises, left_by, left_if, left_to}
use Rattle.exploration.specs.Reduction.{method_for, monitor_wanted, moved_in, operands_of, plain_at, plain_by, plainly, returned_plainly}
use Rattle.exploration.specs.Reduction.{thread_initialises, unless_fault, used_at}
use Rattle.exploration.proofs.PlainFrames.{Calm, calm_branch, calm_local, calm_lookup, calm_number, calm_room, calm_stack}
use Rattle.exploration.proofs.PlainFrames.{calm_table, past_calm}
use Rattle.exploration.proofs.PlainSteps.{unheld}
use Rattle.exploration.proofs.Staying.{Stays, any_same, by_method, fails_both, index_get, last_running, last_runs, neither}
use Rattle.exploration.proofs.Staying.{next_stays, none_first, none_more, split_last}

-- a list that goes ahead by steps to which no schedule matters shows all ends

-- ---- threads that are some steps ahead, in a world in which others are made

module _ (program : List ClassListing) (now : World) where
  data PlainSteps : List Frame → List Frame → Type 0 where
    none : (fs : List Frame) → PlainSteps fs fs
    more : (fs gs ks : List Frame) → PlainStep program now fs gs → PlainSteps gs ks → PlainSteps fs ks

  and_then : (fs gs ks : List Frame) → PlainSteps fs gs → PlainStep program now gs ks → PlainSteps fs ks
  and_then fs gs ks (none hs) q = more fs ks ks q (none ks)
  and_then fs gs ks (more hs is js p r) q = more fs is ks p (and_then is gs ks r q)

  abbrev ThreadAhead : Thread → Thread → Type 0
  ThreadAhead (Live fs) (Live gs) = PlainSteps fs gs
  ThreadAhead (Live fs) (Ended b) = ⊥
  ThreadAhead (Ended a) (Live gs) = ⊥
  ThreadAhead (Ended a) (Ended b) = a ≡ b

  itself : (x : Thread) → ThreadAhead x x
  itself (Live fs) = none fs
  itself (Ended a) = refl

  abbrev R : List Thread → List Thread → Type 0
  R [] [] = Unit {0}
  R [] (u ∷ us) = ⊥
  R (x ∷ ts) [] = ⊥
  R (x ∷ ts) (u ∷ us) = ThreadAhead x u × R ts us

  all_themselves : (ts : List Thread) → R ts ts
  all_themselves [] = tt
  all_themselves (x ∷ ts) = (itself x, all_themselves ts)

  same_length : (ts us : List Thread) → R ts us → length us ≡ length ts
  same_length [] [] r = refl
  same_length [] (u ∷ us) r = absurd r
  same_length (x ∷ ts) [] r = absurd r
  same_length (x ∷ ts) (u ∷ us) r = ap suc (same_length ts us r.1)

  live_alike : (x u : Thread) → ThreadAhead x u → lives (Some u) ≡ lives (Some x)
  live_alike (Live fs) (Live gs) r = refl
  live_alike (Live fs) (Ended b) r = absurd r
  live_alike (Ended a) (Live gs) r = absurd r
  live_alike (Ended a) (Ended b) r = refl

  same_lives : (ts us : List Thread) → R ts us → (v : ℕ) → lives (slice_get us v) ≡ lives (slice_get ts v)
  same_lives [] [] r v = refl
  same_lives [] (u ∷ us) r v = absurd r
  same_lives (x ∷ ts) [] r v = absurd r
  same_lives (x ∷ ts) (u ∷ us) r zero = live_alike x u r.0
  same_lives (x ∷ ts) (u ∷ us) r (suc v) = same_lives ts us r.1 v

  put : (ts us : List Thread) → R ts us → (k : ℕ) (x : Thread) → R (set ts k x) (set us k x)
  put [] [] r k x = tt
  put [] (u ∷ us) r k x = absurd r
  put (y ∷ ts) [] r k x = absurd r
  put (y ∷ ts) (u ∷ us) r zero x = (itself x, r.1)
  put (y ∷ ts) (u ∷ us) r (suc k) x = (r.0, put ts us r.1 k x)

  extend : (ts us : List Thread) → R ts us → (x : Thread) → R (ts ++ x ∷ []) (us ++ x ∷ [])
  extend [] [] r x = (itself x, tt)
  extend [] (u ∷ us) r x = absurd r
  extend (y ∷ ts) [] r x = absurd r
  extend (y ∷ ts) (u ∷ us) r x = (r.0, extend ts us r.1 x)

  -- ---- one step more behind

  step_after : (x u : Thread) (gs ks : List Frame) → ThreadAhead x u → u ≡ Live gs → PlainStep program now gs ks
      → ThreadAhead x (Live ks)
  step_after (Live fs) (Live hs) gs ks r e q = (let s : hs ≡ gs = cc in and_then fs gs ks (subst (PlainSteps fs) s r) q)
  step_after (Live fs) (Ended b) gs ks r e q = absurd r
  step_after (Ended a) (Live hs) gs ks r e q = absurd r
  step_after (Ended a) (Ended b) gs ks r e q = absurd (cc)

  one_after : (ts us : List Thread) → R ts us → (t : ℕ) (gs ks : List Frame) → slice_get us t ≡ Some (Live gs)
      → PlainStep program now gs ks → R ts (set us t (Live ks))
  one_after [] [] r t gs ks e q = absurd (cc)
  one_after [] (u ∷ us) r t gs ks e q = absurd r
  one_after (x ∷ ts) [] r t gs ks e q = absurd r
  one_after (x ∷ ts) (u ∷ us) r zero gs ks e q = (step_after x u gs ks r.0 (cc) q, r.1)
  one_after (x ∷ ts) (u ∷ us) r (suc t) gs ks e q = (r.0, one_after ts us r.1 t gs ks e q)

  -- ---- one step less before: a thread is where it was, or it is ahead

  record Further (ts us : List Thread) (t : ℕ) (fs : List Frame) : Type 0 where
    after : List Frame
    step : PlainStep program now fs after
    related : R (set ts t (Live after)) us

  head_look : (x u : Thread) (ts us : List Thread) (fs : List Frame) → ThreadAhead x u → R ts us → x ≡ Live fs
      → (Some u ≡ Some (Live fs)) ⊎ Further (x ∷ ts) (u ∷ us) 0 fs
  head_look (Live fs) (Live gs) ts us hs (none ks) r e = inl (ap (λ (y : Thread). Some y) e)
  head_look (Live fs) (Live gs) ts us hs (more is js ks p q) r e =
      (let s : fs ≡ hs = cc in inr (record { after = js; step = subst (λ y. PlainStep program now y js) s p; related = (q, r) }))
  head_look (Live fs) (Ended b) ts us hs q r e = absurd q
  head_look (Ended a) (Live gs) ts us hs q r e = absurd q
  head_look (Ended a) (Ended b) ts us hs q r e = absurd (cc)

  look : (ts us : List Thread) → R ts us → (t : ℕ) (fs : List Frame) → slice_get ts t ≡ Some (Live fs)
      → (slice_get us t ≡ Some (Live fs)) ⊎ Further ts us t fs
  look [] us r t fs e = absurd (cc)
  look (x ∷ ts) [] r t fs e = absurd r
  look (x ∷ ts) (u ∷ us) r zero fs e = head_look x u ts us fs r.0 r.1 (cc)
  look (x ∷ ts) (u ∷ us) r (suc t) fs e = elim (look ts us r.1 t fs e) [
    | inl s ↦ inl s
    | inr f ↦ inr (record { after = Further.after f; step = Further.step f; related = (r.0, Further.related f) })
  ]

  -- ---- no initializer is entered or left on the way

  module _ (class : ℕ) where
    abbrev Idle : List Frame → Type 0
    Idle fs = list_any (initialises program class) fs ≡ false

    idle_moved : (fs gs : List Frame) (f : Frame) (r : Result Moved Abrupt) → running fs ≡ Some f → Calm f r
        → moved_in fs r ≡ Some gs → Idle gs → Idle fs
    idle_moved fs gs f (Err a) runs calm e idle = absurd (cc)
    idle_moved fs gs f (Ok m) runs calm e idle =
        (let same : with_running fs m.frame ≡ gs = cc in
        sym (any_same (initialises program class) fs (length fs - 1) f m.frame runs
        (by_method program class f m.frame calm)) ∙ ap (list_any (initialises program class)) same ∙ idle)

    idle_to : (fs gs : List Frame) (v : Option Value) (o : Option Frame) → running (callers fs) ≡ o
        → left_to program fs v o ≡ Some gs → Idle gs → Idle (callers fs)
    idle_to fs gs v None e q idle = absurd (cc)
    idle_to fs gs v (Some caller) e q idle = idle_moved (callers fs) gs caller
        (past_invoke caller v (instruction_of program caller)) e (past_calm caller v (instruction_of program caller)) q idle

    idle_if : (fs gs : List Frame) (r : Result Value Fault) → left_if program fs r ≡ Some gs → Idle gs → Idle (callers fs)
    idle_if fs gs (Err fault) q idle = absurd (cc)
    idle_if fs gs (Ok v) q idle = idle_to fs gs (Some v) (running (callers fs)) refl q idle

    idle_by : (fs gs : List Frame) (f : Frame) (kind : Option Kind) (right : Bool)
        → left_by program fs f kind right ≡ Some gs → Idle gs → Idle (callers fs)
    idle_by fs gs f kind false q idle = absurd (cc)
    idle_by fs gs f None true q idle = idle_to fs gs None (running (callers fs)) refl q idle
    idle_by fs gs f (Some kind) true q idle = idle_if fs gs (value_on kind f.stack) q idle

    idle_returned : (fs gs : List Frame) (f : Frame) (kind : Option Kind) → running fs ≡ Some f
        → returned_plainly program fs f kind ≡ Some gs → Idle gs → Idle fs
    idle_returned fs gs f kind runs q idle =
        let k = unheld f.monitor (runs_initializer program f)
        (left_by program fs f kind (gives kind (method_at program f.method))) gs q in
        let own : initialises program class f ≡ false = ap (λ (x : Bool). x && f.method.class == class) k.1 in
        ap (list_any (initialises program class)) (sym (split_last fs f runs))
        ∙ none_more (initialises program class) (callers fs) (f ∷ [])
        (idle_by fs gs f kind (gives kind (method_at program f.method)) k.2 idle)
        (fails_both (initialises program class f) false own refl)

    idle_entered : (fs gs : List Frame) (f : Frame) (n : ℕ) (k : CodedMethod) (o : Option ℕ) (room initializer : Bool)
        → running fs ≡ Some f → entered_if fs n k o room initializer ≡ Some gs → Idle gs → Idle fs
    idle_entered fs gs f n k (Some monitor) room initializer runs q idle = absurd (cc)
    idle_entered fs gs f n k None false initializer runs q idle = absurd (cc)
    idle_entered fs gs f n k None true true runs q idle = absurd (cc)
    idle_entered fs gs f n k None true false runs q idle =
        let caller = record (running_frame fs) { stack = drop n (running_frame fs).stack } in
        let below = with_running fs caller in
        let new = called_frame k.place k.code.max_locals k.code.max_stack (arguments_on n (running_frame fs).stack) in
        let all = below ++ new ∷ [] in
        let after = record (running_frame all) { monitor = None } in
        let same : with_running all after ≡ gs = cc in
        let same_new : after.method ≡ new.method = ap (λ (g : Frame). g.method) (last_running below new) in
        let idle_all : Idle all =
        sym (any_same (initialises program class) all (length all - 1) new after (last_runs below new)
        (by_method program class new after same_new)) ∙ ap (list_any (initialises program class)) same ∙ idle in
        let idle_below : Idle below = (none_first (initialises program class) below (new ∷ []) idle_all).0 in
        let same_caller : caller.method ≡ f.method = ap (λ (g : Frame). g.method)
        (index_get fs (length fs - 1) f no_frame runs) in
        sym (any_same (initialises program class) fs (length fs - 1) f caller runs
        (by_method program class f caller same_caller)) ∙ idle_below

    idle_called : (fs gs : List Frame) (f : Frame) (n : ℕ) (o : Option ℕ) (c : Callee) → running fs ≡ Some f
        → called_plainly program fs n o c ≡ Some gs → Idle gs → Idle fs
    idle_called fs gs f n o NoCode runs q idle = absurd (cc)
    idle_called fs gs f n o (Own builtin) runs q idle = absurd (cc)
    idle_called fs gs f n o (Coded k) runs q idle = idle_entered fs gs f n k (monitor_wanted o k.method)
        (has_room_for fs k.code.max_locals k.code.max_stack) (is_initializer_if (method_at program k.place)) runs q idle

    module _ (fs gs : List Frame) (f : Frame) (runs : running fs ≡ Some f) (idle : Idle gs) (classes : List (List ℕ)) where
      idle_test : (m : Member) (method : List ℕ → Option (Declared Method)) (b : ℕ) (name : List ℕ) (x : Bool)
          → (if x then called_plainly program fs (operands_of m (Some b)) (Some b) (callee_of program (method name)) else None)
          ≡ Some gs → Idle fs
      idle_test m method b name true q = idle_called fs gs f (operands_of m (Some b)) (Some b)
          (callee_of program (method name)) runs q idle
      idle_test m method b name false q = absurd (cc)

      idle_class : (m : Member) (method : List ℕ → Option (Declared Method)) (b : ℕ) (o : Option (List ℕ))
          → called_of_class program fs m method b o ≡ Some gs → Idle fs
      idle_class m method b None q = absurd (cc)
      idle_class m method b (Some name) q = idle_test m method b name (is_subtype program name m.class) q

      idle_object : (m : Member) (method : List ℕ → Option (Declared Method)) (r : Result (Option ℕ) Fault)
          → called_on_object program classes fs m method r ≡ Some gs → Idle fs
      idle_object m method (Err fault) q = absurd (cc)
      idle_object m method (Ok None) q = absurd (cc)
      idle_object m method (Ok (Some b)) q = idle_class m method b (slice_get classes b) q

      idle_call : (i : Invocation) (m : Member) → called_by program classes fs f i m ≡ Some gs → Idle fs
      idle_call Static m q = idle_called fs gs f (operands_of m None) None
          (callee_of program (resolved_method program m)) runs q idle
      idle_call Virtual m q = idle_object m (method_for program f Virtual m) (ref_on (drop (arguments_in m) f.stack)) q
      idle_call Special m q = idle_object m (method_for program f Special m) (ref_on (drop (arguments_in m) f.stack)) q
      idle_call (Interface count) m q = idle_object m (method_for program f (Interface count) m)
          (ref_on (drop (arguments_in m) f.stack)) q

      idle_pops : (o : Option Fault) (x : Option (List Frame)) → (x ≡ Some gs → Idle fs) → unless_fault o x ≡ Some gs
          → Idle fs
      idle_pops None x k q = k q
      idle_pops (Some fault) x k q = absurd (cc)

      idle_kind : (n : ℕ) (i : Listed) → plainly program classes fs f n i ≡ Some gs → Idle fs
      idle_kind n Nop q = idle_moved fs gs f (Ok (replaced n f 0 [])) runs refl q idle
      idle_kind n (Constant c) q = idle_moved fs gs f _ runs (calm_room n f 0 (constant_value c ∷ [])) q idle
      idle_kind n (Local access) q = idle_moved fs gs f _ runs (calm_local n f access) q idle
      idle_kind n (Stack operation) q = idle_moved fs gs f _ runs (calm_stack n f operation) q idle
      idle_kind n (Number operation) q = idle_moved fs gs f _ runs (calm_number n f operation) q idle
      idle_kind n (Branch test target) q = idle_moved fs gs f _ runs (calm_branch n f test target) q idle
      idle_kind n (TableSwitch table) q = idle_moved fs gs f _ runs (calm_table table f (int_on f.stack)) q idle
      idle_kind n (LookupSwitch lookup) q = idle_moved fs gs f _ runs (calm_lookup lookup f (int_on f.stack)) q idle
      idle_kind n (Return kind) q = idle_returned fs gs f kind runs q idle
      idle_kind n (StaticField access member) q = absurd (cc)
      idle_kind n (Field access member) q = absurd (cc)
      idle_kind n (Array operation) q = absurd (cc)
      idle_kind n (Class operation name) q = absurd (cc)
      idle_kind n (Invoke i m) q = idle_pops _ _ (idle_call i m) q
      idle_kind n Throw q = absurd (cc)
      idle_kind n (Monitor operation) q = absurd (cc)

      idle_at : (o : Option Placed) → plain_at program classes fs f o ≡ Some gs → Idle fs
      idle_at None q = absurd (cc)
      idle_at (Some i) q = idle_kind i.next i.instruction q

      idle_mark : (m : Mark) → plain_by program classes fs f m ≡ Some gs → Idle fs
      idle_mark Unmarked q = idle_at (instruction_of program f) q
      idle_mark Waiting q = absurd (cc)
      idle_mark Failing q = absurd (cc)

    idle_steps : (fs gs : List Frame) → PlainSteps fs gs → Idle gs → Idle fs
    idle_steps fs gs (none hs) idle = idle
    idle_steps fs gs (more hs ks js p r) idle = idle_mark hs ks p.frame p.runs (idle_steps ks js r idle) (classes_in now)
        p.frame.mark p.steps

    idle_thread : (x u : Thread) → ThreadAhead x u → thread_initialises program class u ≡ false
        → thread_initialises program class x ≡ false
    idle_thread (Live fs) (Live gs) r idle = idle_steps fs gs r idle
    idle_thread (Live fs) (Ended b) r idle = absurd r
    idle_thread (Ended a) u r idle = refl

    idle_all : (ts us : List Thread) → R ts us → list_any (thread_initialises program class) us ≡ false
        → list_any (thread_initialises program class) ts ≡ false
    idle_all [] us r idle = refl
    idle_all (x ∷ ts) [] r idle = absurd r
    idle_all (x ∷ ts) (u ∷ us) r idle =
        (let k = neither (thread_initialises program class u) (list_any (thread_initialises program class) us) idle in
        fails_both (thread_initialises program class x) (list_any (thread_initialises program class) ts)
        (idle_thread x u r.0 k.0) (idle_all ts us r.1 k.1))

-- ---- the same steps in another world, in which what they look at is as it was

module _ (program : List ClassListing) where
  module _ (cs ds : List (List ℕ)) (later : (b : ℕ) (class : List ℕ) → slice_get cs b ≡ Some class → slice_get ds b ≡ Some class)
      (fs gs : List Frame) (f : Frame) where
    class_later : (m : Member) (method : List ℕ → Option (Declared Method)) (b : ℕ) (o : Option (List ℕ))
        → slice_get cs b ≡ o → called_of_class program fs m method b o ≡ Some gs
        → called_of_class program fs m method b (slice_get ds b) ≡ Some gs
    class_later m method b None e q = absurd (cc)
    class_later m method b (Some class) e q = ap (called_of_class program fs m method b) (later b class e) ∙ q

    object_later : (m : Member) (method : List ℕ → Option (Declared Method)) (r : Result (Option ℕ) Fault)
        → called_on_object program cs fs m method r ≡ Some gs → called_on_object program ds fs m method r ≡ Some gs
    object_later m method (Err fault) q = q
    object_later m method (Ok None) q = q
    object_later m method (Ok (Some b)) q = class_later m method b (slice_get cs b) refl q

    call_later : (i : Invocation) (m : Member) → called_by program cs fs f i m ≡ Some gs
        → called_by program ds fs f i m ≡ Some gs
    call_later Static m q = q
    call_later Virtual m q = object_later m (method_for program f Virtual m) (ref_on (drop (arguments_in m) f.stack)) q
    call_later Special m q = object_later m (method_for program f Special m) (ref_on (drop (arguments_in m) f.stack)) q
    call_later (Interface count) m q = object_later m (method_for program f (Interface count) m)
        (ref_on (drop (arguments_in m) f.stack)) q

    pops_later : (o : Option Fault) (x y : Option (List Frame)) → (x ≡ Some gs → y ≡ Some gs)
        → unless_fault o x ≡ Some gs → unless_fault o y ≡ Some gs
    pops_later None x y k q = k q
    pops_later (Some fault) x y k q = q

    kind_later : (n : ℕ) (i : Listed) → plainly program cs fs f n i ≡ Some gs → plainly program ds fs f n i ≡ Some gs
    kind_later n Nop q = q
    kind_later n (Constant c) q = q
    kind_later n (Local access) q = q
    kind_later n (Stack operation) q = q
    kind_later n (Number operation) q = q
    kind_later n (Branch test target) q = q
    kind_later n (TableSwitch table) q = q
    kind_later n (LookupSwitch lookup) q = q
    kind_later n (Return kind) q = q
    kind_later n (StaticField access member) q = q
    kind_later n (Field access member) q = q
    kind_later n (Array operation) q = q
    kind_later n (Class operation name) q = q
    kind_later n (Invoke i m) q = pops_later (fault_in_pops (reverse (argument_kinds m.descriptor)) f.stack)
        (called_by program cs fs f i m) (called_by program ds fs f i m) (call_later i m) q
    kind_later n Throw q = q
    kind_later n (Monitor operation) q = q

    at_later : (o : Option Placed) → plain_at program cs fs f o ≡ Some gs → plain_at program ds fs f o ≡ Some gs
    at_later None q = q
    at_later (Some i) q = kind_later i.next i.instruction q

    mark_later : (m : Mark) → plain_by program cs fs f m ≡ Some gs → plain_by program ds fs f m ≡ Some gs
    mark_later Unmarked q = at_later (instruction_of program f) q
    mark_later Waiting q = q
    mark_later Failing q = q

  module _ (w v : World) (stays : Stays program w v) where
    settled_if_later : (o : Option ℕ) → IsSettledIf program w o → IsSettledIf program v o
    settled_if_later None k = tt
    settled_if_later (Some class) k = Stays.settled stays class k

    settled_later : (o : Option (List ℕ)) → IsSettled program w o → IsSettled program v o
    settled_later None k = tt
    settled_later (Some name) k = settled_if_later (position (is_named name) program) k

    pub step_later : (fs gs : List Frame) → PlainStep program w fs gs → PlainStep program v fs gs
    step_later fs gs p = record {
      frame = p.frame;
      runs = p.runs;
      steps = mark_later (classes_in w) (classes_in v) (Stays.classes stays) fs gs p.frame p.frame.mark p.steps;
      settled = settled_later (used_at program (instruction_of program p.frame)) p.settled;
    }

    steps_later : (fs gs : List Frame) → PlainSteps program w fs gs → PlainSteps program v fs gs
    steps_later fs gs (none hs) = none hs
    steps_later fs gs (more hs ks js p r) = more hs ks js (step_later hs ks p) (steps_later ks js r)

    thread_later : (x u : Thread) → ThreadAhead program w x u → ThreadAhead program v x u
    thread_later (Live fs) (Live gs) r = steps_later fs gs r
    thread_later (Live fs) (Ended b) r = r
    thread_later (Ended a) (Live gs) r = r
    thread_later (Ended a) (Ended b) r = r

    all_later : (ts us : List Thread) → R program w ts us → R program v ts us
    all_later [] [] r = tt
    all_later [] (u ∷ us) r = r
    all_later (x ∷ ts) [] r = r
    all_later (x ∷ ts) (u ∷ us) r = (thread_later x u r.0, all_later ts us r.1)

-- ---- worlds some of whose threads are ahead

module _ (program : List ClassListing) where
  abbrev Far : World → World → Type 0
  Far w v = Near (R program w) (same_length program w) (same_lives program w) (put program w) (extend program w) 0 w v

  -- what the one that is ahead looks at is as it was in the other
  looks_back : (w v : World) → Far w v → Stays program v w
  looks_back w v f = record {
    classes = λ b class e. ap (λ (y : World). slice_get (classes_in y) b) (sym f.is) ∙ e;
    settled = λ c k. let z : IsSettledAt program (with_threads f.threads 0 w) c = subst (λ y. IsSettledAt program y c) f.is k in
        record {
          done = z.done;
          undeclared = z.undeclared;
          not_running = idle_all program w c w.threads f.threads f.related z.not_running;
        };
  }

  far_goes : (w v v' : World) → Far w v → GoesAhead program v v' → Far w v'
  far_goes w v v' f (stays x) = f
  far_goes w v v' f (steps x y t gs ks live step rest) =
      let there : slice_get f.threads t ≡ Some (Live gs) = ap (λ (z : World). slice_get z.threads t) (sym f.is) ∙ live in
      far_goes w (with_thread v t (Live ks)) v' (record {
        threads = set f.threads t (Live ks);
        related = one_after program w w.threads f.threads f.related t gs ks there
            (step_later program v w (looks_back w v f) gs ks step);
        is = ap (λ z. with_thread z t (Live ks)) f.is;
      }) rest

  -- ---- what nothing refuses lives

  module _ (limits : Limits) where
    ready_lives : (x y z : Bool) → (x && y && z) ≡ true → y ≡ true
    ready_lives true true z e = refl
    ready_lives true false z e = absurd (cc)
    ready_lives false y z e = absurd (cc)

    by_ready : (w : World) (t : ℕ) (x : Bool) → is_ready program w t ≡ x
        → (if x then (if overflows program limits w t then Some OutputFull else None) else Some NotReady) ≡ None
        → is_ready program w t ≡ true
    by_ready w t true e k = e
    by_ready w t false e k = absurd (cc)

    by_limit : (w : World) (t : ℕ) (x : Bool) → (if x then Some StepLimit else thread_refusal program limits w t) ≡ None
        → thread_refusal program limits w t ≡ None
    by_limit w t true e = absurd (cc)
    by_limit w t false e = e

    by_fault : (w : World) (t : ℕ) (o : Option (Fault × ℕ)) → refusal_after program limits w (ThreadActor t) o ≡ None
        → thread_refusal program limits w t ≡ None
    by_fault w t (Some fault) e = absurd (cc)
    by_fault w t None e = by_limit w t (nat_le limits.steps w.rows) e

    pub not_refused : (w : World) (t : ℕ) → refusal program limits w (ThreadActor t) ≡ None
        → thread_refusal program limits w t ≡ None
    unfolding refusal
    not_refused w t e = by_fault w t w.fault e

    live_frames : (o : Option Thread) → lives o ≡ true → (fs : List Frame) × (o ≡ Some (Live fs))
    live_frames None e = absurd (cc)
    live_frames (Some (Live fs)) e = (fs, refl)
    live_frames (Some (Ended by)) e = absurd (cc)

    pub live_at : (w : World) (t : ℕ) → refusal program limits w (ThreadActor t) ≡ None
        → (fs : List Frame) × (slice_get w.threads t ≡ Some (Live fs))
    live_at w t e = live_frames (slice_get w.threads t) (ready_lives (is_none w.fault) (is_live w t)
        (not (waits (completion program w t))) (by_ready w t (is_ready program w t) refl (not_refused w t e)))

    -- ---- nothing refuses it in a world that is ahead elsewhere

    no_limit : (s r : ℕ) → nat_le s r ≡ false → nat_le s 0 ≡ false
    no_limit s r k = grind (arith, k)

    unlimited : (w : World) (us : List Thread) (t : ℕ) → thread_refusal program limits (with_threads us 0 w) t ≡ None
        → (o : Option (Fault × ℕ)) → refusal_after program limits w (ThreadActor t) o ≡ None
        → refusal_after program limits (with_threads us 0 w) (ThreadActor t) o ≡ None
    unlimited w us t k (Some fault) e = absurd (cc)
    unlimited w us t k None e = go (nat_le limits.steps w.rows) refl e
      where
        go : (x : Bool) → nat_le limits.steps w.rows ≡ x
            → (if x then Some StepLimit else thread_refusal program limits w t) ≡ None
            → (if nat_le limits.steps 0 then Some StepLimit else thread_refusal program limits (with_threads us 0 w) t)
            ≡ None
        go true q e = absurd (cc)
        go false q e = rw (no_limit limits.steps w.rows q) k

    free_at : (w : World) (us : List Thread) (r : R program w w.threads us) (t : ℕ)
        → frames_of (slice_get us t) ≡ frames_at w t → refusal program limits w (ThreadActor t) ≡ None
        → refusal program limits (with_threads us 0 w) (ThreadActor t) ≡ None
    unfolding refusal
    free_at w us r t same e = unlimited w us t
        (refused_near (R program w) (same_length program w) (same_lives program w) (put program w) (extend program w) 0 program w us r t same limits ∙ not_refused w t e) w.fault e

    -- ---- what is observed

    ends_alike : (now : World) (x u : Thread) → ThreadAhead program now x u → end_of u ≡ end_of x
    ends_alike now (Live fs) (Live gs) r = refl
    ends_alike now (Live fs) (Ended b) r = absurd r
    ends_alike now (Ended a) (Live gs) r = absurd r
    ends_alike now (Ended a) (Ended b) r = ap HasEnded (sym r)

    same_ends : (now : World) (ts us : List Thread) → R program now ts us → map end_of us ≡ map end_of ts
    same_ends now [] [] r = refl
    same_ends now [] (u ∷ us) r = absurd r
    same_ends now (x ∷ ts) [] r = absurd r
    same_ends now (x ∷ ts) (u ∷ us) r = rw (ends_alike now x u r.0, same_ends now ts us r.1) refl

    -- where no thread can go on none is ahead
    all_there : (now : World) (ts us : List Thread) → R program now ts us
        → ((t : ℕ) (fs : List Frame) → slice_get ts t ≡ Some (Live fs) → slice_get us t ≡ Some (Live fs)) → us ≡ ts
    all_there now [] [] r k = refl
    all_there now [] (u ∷ us) r k = absurd r
    all_there now (x ∷ ts) [] r k = absurd r
    all_there now (x ∷ ts) (u ∷ us) r k =
        rw (one x u r.0 (λ fs e. k 0 fs (ap (λ (y : Thread). Some y) e)), all_there now ts us r.1 (λ t. k (suc t))) refl
      where
        one : (y v : Thread) → ThreadAhead program now y v → ((fs : List Frame) → y ≡ Live fs → Some v ≡ Some (Live fs)) → v ≡ y
        one (Live fs) (Live gs) q l = (let s = l fs refl in cc)
        one (Live fs) (Ended b) q l = absurd q
        one (Ended a) (Live gs) q l = absurd q
        one (Ended a) (Ended b) q l = ap Ended (sym q)

    ready_step : (w : World) (t : ℕ) (fs gs : List Frame) → w.fault ≡ None → slice_get w.threads t ≡ Some (Live fs)
        → PlainStep program w fs gs → is_ready program w t ≡ true
    ready_step w t fs gs clean live step =
        let c = plain_comes program w t fs gs live step in
        ap (λ (o : Option (Fault × ℕ)). is_none o && is_live w t && not (waits (completion program w t))) clean
        ∙ ap (λ (o : Option Thread). lives o && not (waits (completion program w t))) live
        ∙ ap (λ (k : Completion). not (waits k)) c.1

    -- nothing refuses a plain step
    step_free : (w : World) (t : ℕ) (fs gs : List Frame) → w.fault ≡ None → slice_get w.threads t ≡ Some (Live fs)
        → PlainStep program w fs gs → thread_refusal program limits w t ≡ None
    step_free w t fs gs clean live step =
        let c = plain_comes program w t fs gs live step in
        let yes = ready_step w t fs gs clean live step in
        let fits : overflows program limits w t ≡ false =
        ap (λ (k : Completion). passes limits.output w.output (prints k)) c.1 in
        rw (yes, fits) refl

    not_ahead : (w : World) (us : List Thread) → R program w w.threads us → w.fault ≡ None → IsHalted program limits w
        → us ≡ w.threads
    not_ahead w us r clean halted = all_there w w.threads us r (λ t fs live. elim (look program w w.threads us r t fs live) [
      | inl s ↦ s
      | inr k ↦ absurd (halted t (step_free w t fs (Further.after k) clean live (Further.step k)))
    ])

    status_alike : (w v : World) (f : Far w v) (o : Option (Fault × ℕ)) → w.fault ≡ o → IsHalted program limits w
        → status_in program v ≡ status_in program w
    status_alike w v f (Some fault) k e =
        let q : v.fault ≡ Some fault = ap (λ (y : World). y.fault) f.is ∙ k in rw (q, k) refl
    status_alike w v f None k e =
        let q = not_ahead w f.threads f.related k e in
        ap (status_in program) (f.is ∙ ap (λ us. with_threads us 0 w) q) ∙ status_at program w

    faulted_halts : (x : World) (fault : Fault × ℕ) → x.fault ≡ Some fault → IsHalted program limits x
    faulted_halts x fault k t e = (let q : is_ready program x t ≡ false =
        ap (λ (o : Option (Fault × ℕ)). is_none o && is_live x t && not (waits (completion program x t))) k
        in not_both (is_ready program x t) (overflows program limits x t) q e)
      where
        not_both : (ready full : Bool) → ready ≡ false
            → (if ready then (if full then Some OutputFull else None) else Some NotReady) ≡ None → ⊥
        not_both true full q e = absurd (cc)
        not_both false full q e = cc

    halted_alike : (w v : World) (f : Far w v) (o : Option (Fault × ℕ)) → w.fault ≡ o → IsHalted program limits w
        → IsHalted program limits v
    halted_alike w v f (Some fault) k e = faulted_halts v fault (ap (λ (y : World). y.fault) f.is ∙ k)
    halted_alike w v f None k e =
        let q = not_ahead w f.threads f.related k e in
        let same : v ≡ with_threads w.threads 0 w = f.is ∙ ap (λ us. with_threads us 0 w) q in
        λ t h. e t (sym (refused_at program w t limits)
        ∙ ap (λ (y : World). thread_refusal program limits y t) (sym same) ∙ h)

    -- so where no thread can go on the same is observed
    observed_alike : (w v : World) (f : Far w v) → IsHalted program limits w → observed program v ≡ observed program w
    observed_alike w v f halted =
        ap (λ (bs : List ℕ). let y : Observed = record (observed program v) { output = bs } in y)
        (ap (λ (y : World). y.output) f.is)
        ∙ ap (λ (o : Option (Fault × ℕ)).
        let y : Observed = record (observed program v) { output = w.output; fault = o } in y)
        (ap (λ (y : World). y.fault) f.is)
        ∙ ap (λ (es : List End).
        let y : Observed = record (observed program w) { ends = es; status = status_in program v } in y)
        (ap (λ (y : World). map end_of y.threads) f.is ∙ same_ends w w.threads f.threads f.related)
        ∙ ap (λ (t : Status). let y : Observed = record (observed program w) { status = t } in y)
        (status_alike w v f w.fault refl halted)

    -- ---- whatever holds of a start, and goes on to hold of what turns lead to, once some plain steps were made

    pub record HoldsAhead (Held : World → Type 0) (w : World) : Type 0 where
      pub world : World
      pub ahead : GoesAhead program w world
      pub held : Held world

    record HeldAhead (Held : World → Type 0) (w : World) : Type 0 where
      world : World
      far : Far w world
      held : Held world

    module _ (no_room : Bool) (Held : World → Type 0)
        (goes_on : (v : World) → Held v → (t : ℕ) (choice : Choice) → (no_room ≡ false → choice ≡ NewObject)
        → refusal program limits v (ThreadActor t) ≡ None → HoldsAhead Held (next program v t choice).after) where
      -- the thread is where it was: the turn is made of the world that is ahead
      where_it_was : (w : World) (t : ℕ) (choice : Choice) → (no_room ≡ false → choice ≡ NewObject)
          → refusal program limits w (ThreadActor t) ≡ None → (v : World) (f : Far w v) → Held v
          → frames_of (slice_get f.threads t) ≡ frames_at w t → HeldAhead Held (next program w t choice).after
      where_it_was w t choice room e v f held same =
          let u = with_threads f.threads 0 w in
          let free : refusal program limits u (ThreadActor t) ≡ None = free_at w f.threads f.related t same e in
          let z = goes_on u (subst Held f.is held) t choice room free in
          let near = next_near (R program w) (same_length program w) (same_lives program w) (put program w) (extend program w) 0
          program w f.threads f.related t same choice in
          let after = (next program w t choice).after in
          record {
            world = HoldsAhead.world z;
            far = far_goes after (next program u t choice).after (HoldsAhead.world z)
                (record {
                  threads = near.threads;
                  related = all_later program w after (next_stays program w t choice) after.threads near.threads near.related;
                  is = near.is;
                })
                (HoldsAhead.ahead z);
            held = HoldsAhead.held z;
          }

      -- the thread is ahead: the world is one step less behind
      further_on : (w : World) (t : ℕ) (choice : Choice) (v : World) (f : Far w v) → Held v → (fs : List Frame)
          → slice_get w.threads t ≡ Some (Live fs) → Further program w w.threads f.threads t fs
          → HeldAhead Held (next program w t choice).after
      further_on w t choice v f held fs live k =
          let is : (next program w t choice).after ≡ with_thread w t (Live (Further.after k)) =
          plain_next program w t fs (Further.after k) live (Further.step k) choice in
          let after = with_thread w t (Live (Further.after k)) in
          let stays : Stays program w after = subst (Stays program w) is (next_stays program w t choice) in
          subst (HeldAhead Held) (sym is) (record {
            world = v;
            far = record {
              threads = f.threads;
              related = all_later program w after stays after.threads f.threads (Further.related k);
              is = f.is;
            };
            held = held;
          })

      turn_ahead : (w : World) → HeldAhead Held w → (t : ℕ) (choice : Choice) → (no_room ≡ false → choice ≡ NewObject)
          → refusal program limits w (ThreadActor t) ≡ None → HeldAhead Held (next program w t choice).after
      turn_ahead w a t choice room e =
          let f = HeldAhead.far a in
          let live = live_at w t e in
          elim (look program w w.threads f.threads f.related t live.0 live.1) [
            | inl s ↦ where_it_was w t choice room e (HeldAhead.world a) f (HeldAhead.held a)
                (ap frames_of s ∙ sym (ap frames_of live.1))
            | inr k ↦ further_on w t choice (HeldAhead.world a) f (HeldAhead.held a) live.0 live.1 k
          ]

      module _ (start : World) (ahead : HoldsAhead Held (uncounted start)) where
        held_ahead : (w : World) → ComesTo program limits no_room (uncounted start) w → HeldAhead Held w
        held_ahead w begins = record {
          world = HoldsAhead.world ahead;
          far = far_goes w w (HoldsAhead.world ahead)
              (record { threads = w.threads; related = all_themselves program w w.threads; is = refl }) (HoldsAhead.ahead ahead);
          held = HoldsAhead.held ahead;
        }
        held_ahead w (turns v t choice c room e) = turn_ahead v (held_ahead v c) t choice room e

        -- what is observed where no thread can go on is observed of what it holds of
        pub observed_of_held : (os : List Observed)
            → ((v : World) → Held v → IsHalted program limits v → (k : ℕ) × (slice_get os k ≡ Some (observed program v)))
            → (w : World) → ComesTo program limits no_room (uncounted start) w → IsHalted program limits w
            → (k : ℕ) × (slice_get os k ≡ Some (observed program w))
        observed_of_held os all w c halted =
            let a = held_ahead w c in
            let v = HeldAhead.world a in
            let f = HeldAhead.far a in
            subst (λ (o : Observed). (k : ℕ) × (slice_get os k ≡ Some o)) (observed_alike w v f halted)
            (all v (HeldAhead.held a) (halted_alike w v f w.fault refl halted))

    -- ---- a turn of what a state represents, whose turns lead into a list

    module _ (no_room : Bool) (states : List World) where
      by_asked : (x : World) (t : ℕ) → IsExpanded program limits no_room states x t
          → refusal program limits x (ThreadActor t) ≡ None → (choice : Choice) → (no_room ≡ false → choice ≡ NewObject)
          → (words : Option ℕ) → asked program x t ≡ words → IsAheadAmong program states (next program x t choice).after
      by_asked x t x_turns free NewObject room words a = x_turns.turned free
      by_asked x t x_turns free NoRoom room (Some words) a = x_turns.without_room (missing no_room room) words free a
      by_asked x t x_turns free NoRoom room None a = subst (λ (f : Effect). IsAheadAmong program states f.after)
          (next-choice program x t NewObject NoRoom a) (x_turns.turned free)

      pub turn_leads : (x v : World) → Represents x v → (t : ℕ) → IsExpanded program limits no_room states x t
          → (choice : Choice) → (no_room ≡ false → choice ≡ NewObject) → refusal program limits v (ThreadActor t) ≡ None
          → IsAheadAmong program states (next program v t choice).after
      turn_leads x v r t x_turns choice room e =
          let free : refusal program limits x (ThreadActor t) ≡ None = same_refusal program limits x v r (ThreadActor t) ∙ e in
          let z = by_asked x t x_turns free choice room (asked program x t) refl in
          let i : Images (next program x t choice).after (next program v t choice).after =
          turn_images program x v r t choice (unfaulted program limits v t e) in
          let k = image_ahead program (next program x t choice).after z.world (next program v t choice).after i z.ahead in
          record {
            world = k.world;
            ahead = k.ahead;
            among = record {
              place = z.among.place;
              state = z.among.state;
              there = z.among.there;
              represents = represents_image z.among.state z.world k.world z.among.represents k.images;
            };
          }

    -- ---- a list that is closed

    module _ (no_room : Bool) (start : World) (states : List World)
        (closed : ClosedReduced program limits no_room start states) where
      all_expanded : (k : ℕ) (x : World) (t : ℕ) → slice_get states k ≡ Some x
          → IsExpanded program limits no_room states x t
      all_expanded k x t there = record {
        turned = λ free. closed.turned k x t there free;
        without_room = λ both words free a. closed.without_room both k x t words there free a;
      }

      goes_on : (v : World) → IsAmong states v → (t : ℕ) (choice : Choice) → (no_room ≡ false → choice ≡ NewObject)
          → refusal program limits v (ThreadActor t) ≡ None → HoldsAhead (IsAmong states) (next program v t choice).after
      goes_on v a t choice room e =
          let z = turn_leads no_room states a.state v a.represents t (all_expanded a.place a.state t a.there) choice room e in
          record { world = z.world; ahead = z.ahead; held = z.among }

      shows_end : (w : World) → ComesTo program limits no_room (uncounted start) w → ShowsSameEnd program limits states w
      shows_end w c =
          let o = closed.opening in
          let a = held_ahead no_room (IsAmong states) goes_on start
          (record { world = o.world; ahead = o.ahead; held = o.among }) w c in
          let v = HeldAhead.world a in
          let f = HeldAhead.far a in
          let m = HeldAhead.held a in
          let t = observed_same program limits m.state v m.represents in
          record {
            place = m.place;
            state = m.state;
            there = m.there;
            output = ap (λ (y : Observed). y.output) t ∙ ap (λ (y : World). y.output) f.is;
            fault = ap (λ (y : Observed). y.fault) t ∙ ap (λ (y : World). y.fault) f.is;
            ends = ap (λ (y : Observed). y.ends) t ∙ ap (λ (y : World). map end_of y.threads) f.is
                ∙ same_ends w w.threads f.threads f.related;
            halted = λ e u h. halted_alike w v f w.fault refl e u
                (sym (same_thread_refusal program limits m.state v m.represents u) ∙ h);
            status = λ e. ap (λ (y : Observed). y.status) t ∙ status_alike w v f w.fault refl e;
          }

pub reduced_shows_all : ReducedShowsAll
reduced_shows_all program limits no_room start states closed w c = shows_end program limits no_room start states closed w c
