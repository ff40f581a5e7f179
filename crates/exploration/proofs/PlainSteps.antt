use Rattle.std.proofs.Common.{◌≡◌, ℕ, ◌-◌, length, List, [], ◌∷◌, ◌++◌, map, drop, reverse, slice_get, Bool, true, false, not}
use Rattle.std.proofs.Common.{if◌then◌else◌, ◌||◌, Option, Some, None, Result, Ok, Err, refl, sym, ◌∙◌, ap, subst, position}
use Rattle.std.specs.List.{list_any}
use Rattle.std.specs.Option.{option_map, option_map_or, option_or, option_to_list}
use Rattle.std.specs.Result.{result_err}
use Rattle.std.proofs.lemmas.Option.{slice_get-map}
use Rattle.std.proofs.lemmas.List.{drop-map}
use Rattle.model.specs.declared.instructions.Instruction.TheVariants.{Nop, Constant, Local, Stack, Number, Branch}
use Rattle.model.specs.declared.instructions.Instruction.TheVariants.{TableSwitch, LookupSwitch, Return}
use Rattle.model.specs.declared.instructions.Instruction.TheVariants.{Static as StaticField, Field, Array, Class}
use Rattle.model.specs.declared.instructions.Instruction.TheVariants.{Invoke, Throw, Monitor as MonitorIt}
use Rattle.model.specs.declared.instructions.Invocation.{Invocation}
use Rattle.model.specs.declared.instructions.Invocation.TheVariants.{Virtual, Special, Static, Interface}
use Rattle.model.specs.declared.colours.Cell.{Cell}
use Rattle.model.specs.declared.listings.Method.{Method}
use Rattle.model.specs.declared.listings.Placed.{Placed}
use Rattle.model.specs.declared.names.Member.{Member}
use Rattle.model.specs.declared.turns.Abrupt.{Abrupt}
use Rattle.model.specs.declared.turns.ClassState.{ClassState}
use Rattle.model.specs.declared.turns.Exception.TheVariants.{StackOverflow}
use Rattle.model.specs.declared.turns.Fault.{Fault}
use Rattle.model.specs.declared.turns.Fault.TheVariants.{MonitorLimit, WrongClass}
use Rattle.model.specs.declared.turns.Mark.{Mark}
use Rattle.model.specs.declared.turns.Mark.TheVariants.{Unmarked, Waiting, Failing}
use Rattle.model.specs.declared.values.Kind.{Kind}
use Rattle.model.specs.declared.values.Value.{Value}
use Rattle.model.specs.Callees.{CodedMethod, Callee, callee_of}
use Rattle.model.specs.Callees.Callee.{Own, Coded, NoCode}
use Rattle.model.specs.Classes.Flags.{is_synchronized}
use Rattle.model.specs.Classes.Named.{is_named}
use Rattle.model.specs.Classes.Resolution.{resolved_method}
use Rattle.model.specs.Classes.Search.{Declared}
use Rattle.model.specs.Classes.Types.{is_subtype}
use Rattle.model.specs.ClassListings.{ClassListing}
use Rattle.model.specs.Frames.{Frame, Moved, running, running_frame, with_running, callers, replaced, ref_on, has_room_for}
use Rattle.model.specs.Initialisation.{Chain, chain_with, chain_if, is_initializer_if, runs_initializer}
use Rattle.model.specs.Locals.{arguments_on, frames_of_call, value_on}
use Rattle.model.specs.Monitors.{is_full, may_enter, monitor_of, released}
use Rattle.model.specs.Objects.{class_at, class_if, object_at}
use Rattle.model.specs.Programs.{instruction_of, method_at}
use Rattle.model.specs.Results.{Effect}
use Rattle.model.specs.Signatures.{argument_kinds}
use Rattle.model.specs.Values.{births_of}
use Rattle.model.specs.Worlds.{World, Object, Thread, free_monitor, frames_at, frames_of, with_thread}
use Rattle.model.specs.Worlds.Thread.{Live, Ended}
use Rattle.model.specs.Completions.{Completion, Site, completes, raises}
use Rattle.model.specs.Completions.Completion.{Goes, Faults, Waits}
use Rattle.model.specs.Effects.{Choice, effect_of}
use Rattle.model.specs.Effects.Choice.{NewObject}
use Rattle.model.specs.Collector.Moves.{CompletionMoves, change_of}
use Rattle.model.specs.Collector.Places.{Reach}
use Rattle.model.specs.Table.Initialisation.{after_initialising, initialises as initialises_at}
use Rattle.model.specs.Table.Invokes.{Call, arguments_in, called, called_on, enters_method, fault_in_pops, guarded}
use Rattle.model.specs.Table.Invokes.{world_entered}
use Rattle.model.specs.Table.Next.{Listed, at_instruction, at_mark, at_frame, by_family, class_used, completion, next}
use Rattle.model.specs.Table.Returns.{gives, initialised_if, leaves_if, leaves_to, leaves_with, left_world, past_invoke, resumed}
use Rattle.model.specs.Table.Returns.{resumes, return_if}
use Rattle.model.proofs.CollectorLemmas.Calls.{below_known}
use Rattle.model.proofs.CollectorLemmas.Known.{stack_known}
use Rattle.model.proofs.CollectorLemmas.Moving.{allowed_from_moves}
use Rattle.model.proofs.CollectorLemmas.Table.Next.{completion_moves}
use Rattle.model.proofs.CollectorLemmas.Words.{ref_on-known}
use Rattle.join.specs.Naming.{Naming, named_frame, named_ref, named_result, named_thread, named_value}
use Rattle.join.specs.OnCells.{on_cells, InCell, ReachedInCells}
use Rattle.join.proofs.Cells.{class_named, object_in_cell}
use Rattle.join.proofs.Frames.{call_named, callers_named, room_named, run_named, running_named, thread_on_cells, top_running}
use Rattle.join.proofs.Naming.{if_room_named, ref_below_named, renamed, replaced_named, value_on_named}
use Rattle.join.proofs.Table.Branches.{branched_on_cells}
use Rattle.join.proofs.Table.Constants.{constant_named}
use Rattle.join.proofs.Table.Locals.{local_named}
use Rattle.join.proofs.Table.Numbers.{number_named}
use Rattle.join.proofs.Table.Stacks.{rearranged_named}
use Rattle.join.proofs.Table.Switches.{table_named, lookup_named}
use Rattle.exploration.specs.ClosedLists.{Pair, pair_of}
use Rattle.exploration.specs.ReducedRuns.{pairs_in}
use Rattle.exploration.specs.Reduction.{IsSettled, IsSettledIf, PlainStep, GoesAhead, called_by, called_of_class}
use Rattle.exploration.specs.Reduction.{called_on_object, called_plainly, class_in, classes_in, entered_if, initialises}
use Rattle.exploration.specs.Reduction.{invoked_plainly, left_by, left_if, left_to, left_with, method_for, monitor_wanted}
use Rattle.exploration.specs.Reduction.{moved_in, operands_of, plain_at, plain_by, plain_step, plainly}
use Rattle.exploration.specs.Reduction.{thread_initialises, unless_fault, unless_held, used_at}
use Rattle.exploration.specs.Reduction.GoesAhead.{stays, steps}
use Rattle.exploration.specs.Representation.{Images}
use Rattle.exploration.proofs.Turns.{unborn_reached}

-- a plain step is the thread's turn, and a step of an image is that of the world

pub unheld : (o : Option ℕ) (b : Bool) (x : Option (List Frame)) (gs : List Frame) → unless_held o b x ≡ Some gs
    → (o ≡ None) × (b ≡ false) × (x ≡ Some gs)
unheld None false x gs q = (refl, refl, q)
unheld None true x gs q = absurd (cc)
unheld (Some monitor) b x gs q = absurd (cc)

-- ---- it is the turn

module _ (program : List ClassListing) (w : World) (t : ℕ) (fs gs : List Frame)
    (live : slice_get w.threads t ≡ Some (Live fs)) where
  abbrev after : World
  after = with_thread w t (Live gs)

  abbrev Comes : Completion → Type 0
  Comes c = (ws : List ℕ) × (c ≡ Goes after ws)

  same_frames : frames_at w t ≡ fs
  same_frames = ap frames_of live

  module _ (f : Frame) (n : ℕ) where
    abbrev s : Site
    s = record { program = program; world = w; thread = t; frame = f; next = n }

    by_result : (r : Result Moved Abrupt) → moved_in fs r ≡ Some gs → Comes (completes s r)
    by_result (Err abrupt) q = absurd (cc)
    by_result (Ok m) q =
        let same : with_running fs m.frame ≡ gs = cc in (
          m.writes,
          ap (λ ks. Goes (with_thread w t (Live ks)) m.writes)
              (ap (λ ks. with_running ks m.frame) same_frames ∙ same),
        )

    -- ---- returns

    module _ (none : f.monitor ≡ None) (other : runs_initializer program f ≡ false) where
      left_same : left_world s ≡ w
      left_same = ap (λ o. initialised_if (released w t o) f.method.class (runs_initializer program f)) none
          ∙ ap (initialised_if w f.method.class) other

      by_past : (r : Result Moved Abrupt) → moved_in (callers fs) r ≡ Some gs → Comes (resumes s r)
      by_past (Err abrupt) q = absurd (cc)
      by_past (Ok m) q =
          let same : with_running (callers fs) m.frame ≡ gs = cc in (
            m.writes,
            ap (λ (v : World). Goes (with_thread v t (Live (with_running (callers (frames_at w t)) m.frame))) m.writes)
                left_same ∙ ap (λ ks. Goes (with_thread w t (Live ks)) m.writes)
                (ap (λ ks. with_running (callers ks) m.frame) same_frames ∙ same),
          )

      by_caller : (v : Option Value) (o : Option Frame) → left_to program fs v o ≡ Some gs → Comes (leaves_to s v o)
      by_caller v None q = absurd (cc)
      by_caller v (Some caller) q = subst (λ b. Comes (resumes s (resumed s caller v b))) (sym other)
          (by_past (past_invoke caller v (instruction_of program caller)) q)

      by_leaving : (v : Option Value) → left_with program fs v ≡ Some gs → Comes (leaves_with s v)
      by_leaving v q = subst (λ ks. Comes (leaves_to s v (running (callers ks)))) (sym same_frames)
          (by_caller v (running (callers fs)) q)

      by_value : (r : Result Value Fault) → left_if program fs r ≡ Some gs → Comes (leaves_if s r)
      by_value (Err fault) q = absurd (cc)
      by_value (Ok v) q = by_leaving (Some v) q

      by_return : (kind : Option Kind) (right : Bool) → left_by program fs f kind right ≡ Some gs
          → Comes (return_if s kind right)
      by_return kind false q = absurd (cc)
      by_return None true q = by_leaving None q
      by_return (Some kind) true q = by_value (value_on kind f.stack) q

    -- ---- calls

    abbrev call : Member → Option ℕ → Call
    call m o = record { site = s; member = m; object = o }

    module _ (m : Member) (object : Option ℕ) (k : CodedMethod) where
      abbrev enters_by : Option ℕ → List Frame → Bool → Completion
      enters_by o ks room =
          if not (may_enter t (option_map_or (monitor_of w) o free_monitor).owner) then Waits
          else if not room then raises StackOverflow
          else if is_full (option_map_or (monitor_of w) o free_monitor) then Faults MonitorLimit
          else Goes (with_thread (world_entered s o) t
          (Live (guarded o (frames_of_call ks k.place k.code.max_locals k.code.max_stack (operands_of m object)))))
          (births_of (arguments_on (operands_of m object) f.stack) ++ option_to_list o)

      by_entry : (o : Option ℕ) (room initializer : Bool)
          → entered_if fs (operands_of m object) k o room initializer ≡ Some gs → Comes (enters_by o fs room)
      by_entry (Some monitor) room initializer q = absurd (cc)
      by_entry None false initializer q = absurd (cc)
      by_entry None true true q = absurd (cc)
      by_entry None true false q =
          let same : guarded None (frames_of_call fs k.place k.code.max_locals k.code.max_stack (operands_of m object)) ≡ gs =
          cc in (
            births_of (arguments_on (operands_of m object) f.stack) ++ [],
            ap (λ ks. Goes (with_thread w t (Live ks))
                (births_of (arguments_on (operands_of m object) f.stack) ++ [])) same,
          )

      by_method : called_plainly program fs (operands_of m object) object (Coded k) ≡ Some gs
          → Comes (enters_method (call m object) k)
      by_method q =
          subst (λ ks. Comes (enters_by (monitor_wanted object k.method) ks
          (has_room_for ks k.code.max_locals k.code.max_stack))) (sym same_frames)
          (by_entry (monitor_wanted object k.method) (has_room_for fs k.code.max_locals k.code.max_stack)
          (is_initializer_if (method_at program k.place)) q)

    by_callee : (m : Member) (object : Option ℕ) (c : Callee)
        → called_plainly program fs (operands_of m object) object c ≡ Some gs → Comes (called (call m object) c)
    by_callee m object NoCode q = absurd (cc)
    by_callee m object (Own builtin) q = absurd (cc)
    by_callee m object (Coded k) q = by_method m object k q

    module _ (m : Member) (method : List ℕ → Option (Declared Method)) where
      by_test : (b : ℕ) (class : List ℕ) (x : Bool)
          → (if x then called_plainly program fs (operands_of m (Some b)) (Some b) (callee_of program (method class)) else None)
          ≡ Some gs
          → Comes (if not x then Faults WrongClass else called (call m (Some b)) (callee_of program (method class)))
      by_test b class true q = by_callee m (Some b) (callee_of program (method class)) q
      by_test b class false q = absurd (cc)

      by_object : (b : ℕ) (o : Option Object) → called_of_class program fs m method b (option_map class_in o) ≡ Some gs
          → Comes (if not (is_subtype program (class_if o) m.class) then Faults WrongClass
          else called (call m (Some b)) (callee_of program (method (class_if o))))
      by_object b None q = absurd (cc)
      by_object b (Some o) q = by_test b (class_in o) (is_subtype program (class_in o) m.class) q

      by_reference : (r : Result (Option ℕ) Fault) → called_on_object program (classes_in w) fs m method r ≡ Some gs
          → Comes (called_on s m (λ (b : ℕ). method (class_at w b)) r)
      by_reference (Err fault) q = absurd (cc)
      by_reference (Ok None) q = absurd (cc)
      by_reference (Ok (Some b)) q = by_object b (object_at w b)
          (ap (called_of_class program fs m method b) (sym (slice_get-map class_in w.objects b)) ∙ q)

    by_pops : (o : Option Fault) (x : Option (List Frame)) (c : Completion) → (x ≡ Some gs → Comes c)
        → unless_fault o x ≡ Some gs → Comes (option_map_or Faults o c)
    by_pops None x c k q = k q
    by_pops (Some fault) x c k q = absurd (cc)

    by_invocation : (i : Invocation) (m : Member) → invoked_plainly program (classes_in w) fs f i m ≡ Some gs
        → Comes (by_family s (Invoke i m))
    by_invocation Static m = by_pops _ _ _
        (by_callee m None (callee_of program (resolved_method program m)))
    by_invocation Virtual m = by_pops _ _ _
        (by_reference m (method_for program f Virtual m) (ref_on (drop (arguments_in m) f.stack)))
    by_invocation Special m = by_pops _ _ _
        (by_reference m (method_for program f Special m) (ref_on (drop (arguments_in m) f.stack)))
    by_invocation (Interface count) m = by_pops _ _ _
        (by_reference m (method_for program f (Interface count) m) (ref_on (drop (arguments_in m) f.stack)))

    -- ---- the class that it uses needs no initialising

    settled_class : (own : Completion) (further : Chain) (o : Option ℕ) → IsSettledIf program w o
        → initialises_at s (chain_if w.statics.states o further).unused (chain_if w.statics.states o further).above own ≡ own
    settled_class own further None k = refl
    settled_class own further (Some class) k =
        ap (λ (state : ClassState). initialises_at s (chain_with class state further).unused
        (chain_with class state further).above own) k.done

    settled_same : (own : Completion) (class : Option (List ℕ)) → IsSettled program w class
        → after_initialising s class own ≡ own
    settled_same own None k = refl
    settled_same own (Some name) k = settled_class own _ (position (is_named name) program) k

    -- ---- the whole table

    by_kind : (i : Listed) → plainly program (classes_in w) fs f n i ≡ Some gs → Comes (by_family s i)
    by_kind Nop q = by_result (Ok (replaced n f 0 [])) q
    by_kind (Constant c) q = by_result _ q
    by_kind (Local access) q = by_result _ q
    by_kind (Stack operation) q = by_result _ q
    by_kind (Number operation) q = by_result _ q
    by_kind (Branch test target) q = by_result _ q
    by_kind (TableSwitch table) q = by_result _ q
    by_kind (LookupSwitch lookup) q = by_result _ q
    by_kind (Return kind) q =
        let k = unheld f.monitor (runs_initializer program f)
        (left_by program fs f kind (gives kind (method_at program f.method))) gs q in
        by_return k.0 k.1 kind (gives kind (method_at program f.method)) k.2
    by_kind (StaticField access member) q = absurd (cc)
    by_kind (Field access member) q = absurd (cc)
    by_kind (Array operation) q = absurd (cc)
    by_kind (Class operation name) q = absurd (cc)
    by_kind (Invoke invocation member) q = by_invocation invocation member q
    by_kind Throw q = absurd (cc)
    by_kind (MonitorIt operation) q = absurd (cc)

  module _ (f : Frame) where
    by_instruction : (o : Option Placed) → IsSettled program w (used_at program o)
        → plain_at program (classes_in w) fs f o ≡ Some gs → Comes (at_instruction program w t f o)
    by_instruction None k q = absurd (cc)
    by_instruction (Some i) k q = subst Comes
        (sym (settled_same f i.next (by_family (s f i.next) i.instruction) (class_used program i.instruction) k))
        (by_kind f i.next i.instruction q)

    by_mark : (m : Mark) → IsSettled program w (used_at program (instruction_of program f))
        → plain_by program (classes_in w) fs f m ≡ Some gs → Comes (at_mark program w t f m)
    by_mark Unmarked k q = by_instruction (instruction_of program f) k q
    by_mark Waiting k q = absurd (cc)
    by_mark Failing k q = absurd (cc)

  pub plain_comes : PlainStep program w fs gs → Comes (completion program w t)
  unfolding completion
  plain_comes p =
      subst (λ o. Comes (at_frame program w t o)) (sym (ap running same_frames ∙ p.runs))
      (by_mark p.frame p.frame.mark p.settled p.steps)

  pub plain_next : PlainStep program w fs gs → (choice : Choice) → (next program w t choice).after ≡ after
  unfolding next
  plain_next p choice = let c = plain_comes p in
      ap (λ k. (effect_of program w t choice k).after) c.1

-- ---- a step of an image

module _ (h : Naming) where
  abbrev named : List Frame → List Frame
  named fs = map (named_frame h) fs

  abbrev all_named : Option (List Frame) → Option (List Frame)
  all_named o = option_map named o

  moved_named : (fs : List Frame) (r z : Result Moved Abrupt) → z ≡ named_result h r
      → moved_in (named fs) z ≡ all_named (moved_in fs r)
  moved_named fs (Ok m) z e = ap (moved_in (named fs)) e ∙ ap (λ (gs : List Frame). Some gs) (running_named h fs m.frame)
  moved_named fs (Err abrupt) z e = ap (moved_in (named fs)) e

  -- ---- returns

  past_named : (f : Frame) (v : Option Value) (invoke : Option Placed)
      → past_invoke (named_frame h f) (option_map (named_value h) v) invoke ≡ named_result h (past_invoke f v invoke)
  past_named f None None = refl
  past_named f (Some v) None = refl
  past_named f None (Some invoke) = ap Ok (replaced_named h invoke.next f 0 [])
  past_named f (Some v) (Some invoke) = if_room_named h invoke.next f 0 (v ∷ [])

  module _ (program : List ClassListing) (fs : List Frame) where
    to_named : (v : Option Value) (o : Option Frame)
        → left_to program (named fs) (option_map (named_value h) v) (option_map (named_frame h) o)
        ≡ all_named (left_to program fs v o)
    to_named v None = refl
    to_named v (Some caller) =
        ap (λ ks. moved_in ks (past_invoke (named_frame h caller) (option_map (named_value h) v)
        (instruction_of program caller))) (callers_named h fs)
        ∙ moved_named (callers fs) _ _ (past_named caller v (instruction_of program caller))

    left_named : (v : Option Value) → left_with program (named fs) (option_map (named_value h) v)
        ≡ all_named (left_with program fs v)
    left_named v =
        ap (left_to program (named fs) (option_map (named_value h) v)) (ap running (callers_named h fs)
        ∙ top_running h (callers fs)) ∙ to_named v (running (callers fs))

    value_named : (r : Result Value Fault) → left_if program (named fs) (renamed h (named_value h) r)
        ≡ all_named (left_if program fs r)
    value_named (Err fault) = refl
    value_named (Ok v) = left_named (Some v)

    return_named : (f : Frame) (kind : Option Kind) (right : Bool)
        → left_by program (named fs) (named_frame h f) kind right ≡ all_named (left_by program fs f kind right)
    return_named f kind false = refl
    return_named f None true = left_named None
    return_named f (Some kind) true = ap (left_if program (named fs)) (value_on_named h kind f.stack)
        ∙ value_named (value_on kind f.stack)

  held_named : (o : Option ℕ) (b : Bool) (x y : Option (List Frame)) → x ≡ all_named y
      → unless_held (named_ref h o) b x ≡ all_named (unless_held o b y)
  held_named None false x y e = e
  held_named None true x y e = refl
  held_named (Some monitor) b x y e = refl

  -- ---- calls

  fault_named : (r : Result Value Fault) → result_err (renamed h (named_value h) r) ≡ result_err r
  fault_named (Err fault) = refl
  fault_named (Ok v) = refl

  pops_named : (kinds : List Kind) (stack : List Value) → fault_in_pops kinds (map (named_value h) stack)
      ≡ fault_in_pops kinds stack
  pops_named [] stack = refl
  pops_named (kind ∷ kinds) stack =
      ap (λ o. option_or o (fault_in_pops kinds (drop 1 (map (named_value h) stack))))
      (ap result_err (value_on_named h kind stack) ∙ fault_named (value_on kind stack))
      ∙ ap (option_or (result_err (value_on kind stack))) (ap (fault_in_pops kinds) (drop-map (named_value h) 1 stack)
      ∙ pops_named kinds (drop 1 stack))

  unguarded_named : (fs : List Frame) → guarded None (named fs) ≡ named (guarded None fs)
  unguarded_named fs = ap (λ g. with_running (named fs) (record g { monitor = None })) (run_named h fs)
      ∙ running_named h fs (record (running_frame fs) { monitor = None })

  wanted_named : (o : Option ℕ) (x : Bool) → (if x then named_ref h o else None) ≡ named_ref h (if x then o else None)
  wanted_named o true = refl
  wanted_named o false = refl

  entered_named : (fs : List Frame) (n : ℕ) (k : CodedMethod) (o : Option ℕ) (room initializer : Bool)
      → entered_if (named fs) n k (named_ref h o) room initializer ≡ all_named (entered_if fs n k o room initializer)
  entered_named fs n k (Some monitor) room initializer = refl
  entered_named fs n k None false initializer = refl
  entered_named fs n k None true true = refl
  entered_named fs n k None true false = ap (λ (gs : List Frame). Some gs)
      (ap (guarded None) (call_named h fs k.place k.code.max_locals k.code.max_stack n)
      ∙ unguarded_named (frames_of_call fs k.place k.code.max_locals k.code.max_stack n))

  called_named : (program : List ClassListing) (fs : List Frame) (n : ℕ) (o : Option ℕ) (c : Callee)
      → called_plainly program (named fs) n (named_ref h o) c ≡ all_named (called_plainly program fs n o c)
  called_named program fs n o NoCode = refl
  called_named program fs n o (Own builtin) = refl
  called_named program fs n o (Coded k) =
      let initializer = is_initializer_if (method_at program k.place) in
      ap (λ (z : Option ℕ). entered_if (named fs) n k z (has_room_for (named fs) k.code.max_locals k.code.max_stack)
      initializer) (wanted_named o (is_synchronized k.method))
      ∙ ap (λ (room : Bool). entered_if (named fs) n k (named_ref h (monitor_wanted o k.method)) room initializer)
      (room_named h fs k.code.max_locals k.code.max_stack)
      ∙ entered_named fs n k (monitor_wanted o k.method) (has_room_for fs k.code.max_locals k.code.max_stack) initializer

  if_named : (x : Bool) (y z : Option (List Frame)) → y ≡ all_named z
      → (if x then y else None) ≡ all_named (if x then z else None)
  if_named true y z e = e
  if_named false y z e = refl

  class_called_named : (program : List ClassListing) (fs : List Frame) (m : Member)
      (method : List ℕ → Option (Declared Method)) (b : ℕ) (class : Option (List ℕ))
      → called_of_class program (named fs) m method (h b) class ≡ all_named (called_of_class program fs m method b class)
  class_called_named program fs m method b None = refl
  class_called_named program fs m method b (Some class) = if_named (is_subtype program class m.class) _ _
      (called_named program fs (operands_of m (Some b)) (Some b) (callee_of program (method class)))

  faulted_named : (o : Option Fault) (y z : Option (List Frame)) → y ≡ all_named z
      → unless_fault o y ≡ all_named (unless_fault o z)
  faulted_named None y z e = e
  faulted_named (Some fault) y z e = refl

  module _ (cells : List Cell) (w : World) (u : ReachedInCells h cells w) (t : ℕ) (f : Frame)
      (runs : running (frames_at w t) ≡ Some f) (program : List ClassListing) (fs : List Frame) where
    abbrev x : World
    x = on_cells h cells w

    class_same : (b : ℕ) → InCell h cells w b → slice_get (classes_in x) (h b) ≡ slice_get (classes_in w) b
    class_same b s =
        slice_get-map class_in x.objects (h b) ∙ ap (option_map class_in) (object_in_cell h cells w b s)
        ∙ ap (λ (class : List ℕ). Some class) (class_named h s.object.contents)
        ∙ sym (slice_get-map class_in w.objects b ∙ ap (option_map class_in) s.made)

    reference_named : (m : Member) (method : List ℕ → Option (Declared Method)) (r : Result (Option ℕ) Fault)
        → ((b : ℕ) → r ≡ Ok (Some b) → Reach w b)
        → called_on_object program (classes_in x) (named fs) m method (renamed h (named_ref h) r)
        ≡ all_named (called_on_object program (classes_in w) fs m method r)
    reference_named m method (Err fault) k = refl
    reference_named m method (Ok None) k = refl
    reference_named m method (Ok (Some b)) k =
        ap (called_of_class program (named fs) m method (h b)) (class_same b (u.reached b (k b refl)))
        ∙ class_called_named program fs m method b (slice_get (classes_in w) b)

    object_named : (m : Member) (method : List ℕ → Option (Declared Method))
        → called_on_object program (classes_in x) (named fs) m method
        (ref_on (drop (arguments_in m) (map (named_value h) f.stack)))
        ≡ all_named (called_on_object program (classes_in w) fs m method (ref_on (drop (arguments_in m) f.stack)))
    object_named m method =
        ap (called_on_object program (classes_in x) (named fs) m method) (ref_below_named h (arguments_in m) f.stack)
        ∙ reference_named m method (ref_on (drop (arguments_in m) f.stack))
        (λ b k. ref_on-known (Reach w) (drop (arguments_in m) f.stack) b (below_known w t (arguments_in m) f runs) k)

    by_named : (i : Invocation) (m : Member) → called_by program (classes_in x) (named fs) (named_frame h f) i m
        ≡ all_named (called_by program (classes_in w) fs f i m)
    by_named Static m = called_named program fs (operands_of m None) None (callee_of program (resolved_method program m))
    by_named Virtual m = object_named m (method_for program f Virtual m)
    by_named Special m = object_named m (method_for program f Special m)
    by_named (Interface count) m = object_named m (method_for program f (Interface count) m)

    invoked_named : (i : Invocation) (m : Member)
        → invoked_plainly program (classes_in x) (named fs) (named_frame h f) i m
        ≡ all_named (invoked_plainly program (classes_in w) fs f i m)
    invoked_named i m =
        ap (λ o. unless_fault o (called_by program (classes_in x) (named fs) (named_frame h f) i m))
        (pops_named (reverse (argument_kinds m.descriptor)) f.stack)
        ∙ faulted_named (fault_in_pops (reverse (argument_kinds m.descriptor)) f.stack) _ _ (by_named i m)

    plainly_named : (n : ℕ) (i : Listed) → plainly program (classes_in x) (named fs) (named_frame h f) n i
        ≡ all_named (plainly program (classes_in w) fs f n i)
    plainly_named n Nop = moved_named fs (Ok (replaced n f 0 [])) _ (ap (λ (m : Moved). Ok m) (replaced_named h n f 0 []))
    plainly_named n (Constant c) = moved_named fs _ _ (constant_named h n c f)
    plainly_named n (Local access) = moved_named fs _ _ (local_named h n access f)
    plainly_named n (Stack operation) = moved_named fs _ _ (rearranged_named h n operation f)
    plainly_named n (Number operation) = moved_named fs _ _ (number_named h n operation f)
    plainly_named n (Branch test target) = moved_named fs _ _ (branched_on_cells h cells w u n test target f
        (stack_known w t (length (frames_at w t) - 1) f runs))
    plainly_named n (TableSwitch table) = moved_named fs _ _ (table_named h table f)
    plainly_named n (LookupSwitch lookup) = moved_named fs _ _ (lookup_named h lookup f)
    plainly_named n (Return kind) = held_named f.monitor (runs_initializer program f) _ _
        (return_named program fs f kind (gives kind (method_at program f.method)))
    plainly_named n (StaticField access member) = refl
    plainly_named n (Field access member) = refl
    plainly_named n (Array operation) = refl
    plainly_named n (Class operation name) = refl
    plainly_named n (Invoke invocation member) = invoked_named invocation member
    plainly_named n Throw = refl
    plainly_named n (MonitorIt operation) = refl

    at_named : (o : Option Placed) → plain_at program (classes_in x) (named fs) (named_frame h f) o
        ≡ all_named (plain_at program (classes_in w) fs f o)
    at_named None = refl
    at_named (Some i) = plainly_named i.next i.instruction

    mark_named : (m : Mark) → plain_by program (classes_in x) (named fs) (named_frame h f) m
        ≡ all_named (plain_by program (classes_in w) fs f m)
    mark_named Unmarked = at_named (instruction_of program f)
    mark_named Waiting = refl
    mark_named Failing = refl

    pub step_named : plain_step program (classes_in x) (named fs) (named_frame h f)
        ≡ all_named (plain_step program (classes_in w) fs f)
    step_named = mark_named f.mark

  -- ---- what it uses

  module _ (program : List ClassListing) (cells : List Cell) (w : World) where
    frames_same : (class : ℕ) (fs : List Frame) → list_any (initialises program class) (named fs)
        ≡ list_any (initialises program class) fs
    frames_same class [] = refl
    frames_same class (f ∷ fs) = ap (λ (x : Bool). initialises program class f || x) (frames_same class fs)

    thread_same : (class : ℕ) (thread : Thread) → thread_initialises program class (named_thread h thread)
        ≡ thread_initialises program class thread
    thread_same class (Live fs) = frames_same class fs
    thread_same class (Ended by) = refl

    threads_same : (class : ℕ) (ts : List Thread) → list_any (thread_initialises program class) (map (named_thread h) ts)
        ≡ list_any (thread_initialises program class) ts
    threads_same class [] = refl
    threads_same class (thread ∷ ts) =
        ap (λ (y : Bool). y || list_any (thread_initialises program class) (map (named_thread h) ts))
        (thread_same class thread)
        ∙ ap (λ (y : Bool). thread_initialises program class thread || y) (threads_same class ts)

    settled_if : (o : Option ℕ) → IsSettledIf program (on_cells h cells w) o → IsSettledIf program w o
    settled_if None k = tt
    settled_if (Some class) k = record {
      done = k.done;
      undeclared = k.undeclared;
      not_running = sym (threads_same class w.threads) ∙ k.not_running;
    }

    settled_back : (o : Option (List ℕ)) → IsSettled program (on_cells h cells w) o → IsSettled program w o
    settled_back None k = tt
    settled_back (Some name) k = settled_if (position (is_named name) program) k

module _ (h : Naming) (cells : List Cell) where
  thread_back : (o : Option Thread) (gs : List Frame) → option_map (named_thread h) o ≡ Some (Live gs)
      → (fs : List Frame) × (o ≡ Some (Live fs)) × (map (named_frame h) fs ≡ gs)
  thread_back None gs e = absurd (cc)
  thread_back (Some (Live fs)) gs e = (fs, refl, cc)
  thread_back (Some (Ended by)) gs e = absurd (cc)

  frame_back : (o : Option Frame) (g : Frame) → option_map (named_frame h) o ≡ Some g
      → (f : Frame) × (o ≡ Some f) × (named_frame h f ≡ g)
  frame_back None g e = absurd (cc)
  frame_back (Some f) g e = (f, refl, cc)

  frames_back : (o : Option (List Frame)) (gs : List Frame)
      → option_map (λ (ks : List Frame). map (named_frame h) ks) o ≡ Some gs
      → (fs : List Frame) × (o ≡ Some fs) × (map (named_frame h) fs ≡ gs)
  frames_back None gs e = absurd (cc)
  frames_back (Some fs) gs e = (fs, refl, cc)

  -- the world that an image is ahead to is an image of one that the world is ahead to
  record Ahead (program : List ClassListing) (w z : World) (pairs : List Pair) : Type 0 where
    world : World
    ahead : GoesAhead program w world
    same : pairs_in ahead ≡ pairs
    reached : ReachedInCells h cells world
    is : z ≡ on_cells h cells world

  goes_image : (program : List ClassListing) (x z : World) (a : GoesAhead program x z) (w : World)
      → x ≡ on_cells h cells w → ReachedInCells h cells w → Ahead program w z (pairs_in a)
  goes_image program x z (stays v) w e u = record { world = w; ahead = stays w; same = refl; reached = u; is = e }
  goes_image program x z (steps v v' t frames after live step rest) w e u =
      let there : option_map (named_thread h) (slice_get w.threads t) ≡ Some (Live frames) =
      sym (slice_get-map (named_thread h) w.threads t)
      ∙ ap (λ (y : World). slice_get y.threads t) (sym e) ∙ live in
      let thread = thread_back (slice_get w.threads t) frames there in
      let fs = thread.0 in
      let runs : option_map (named_frame h) (running fs) ≡ Some step.frame =
      sym (top_running h fs) ∙ ap running thread.2 ∙ step.runs in
      let frame = frame_back (running fs) step.frame runs in
      let f = frame.0 in
      let top : running (frames_at w t) ≡ Some f = ap running (ap frames_of thread.1) ∙ frame.1 in
      let stepped : option_map (λ (ks : List Frame). map (named_frame h) ks) (plain_step program (classes_in w) fs f) ≡ Some after =
      sym (step_named h cells w u t f top program fs) ∙ ap (plain_step program (classes_in (on_cells h cells w)) (map (named_frame h) fs)) frame.2
      ∙ ap (λ ks. plain_step program (classes_in (on_cells h cells w)) ks step.frame) thread.2
      ∙ ap (λ (y : World). plain_step program (classes_in y) frames step.frame) (sym e) ∙ step.steps in
      let other = frames_back (plain_step program (classes_in w) fs f) after stepped in
      let gs = other.0 in
      let used : used_at program (instruction_of program step.frame) ≡ used_at program (instruction_of program f) =
      ap (λ (g : Frame). used_at program (instruction_of program g)) (sym frame.2) in
      let settled : IsSettled program w (used_at program (instruction_of program f)) =
      settled_back h program cells w (used_at program (instruction_of program f))
      (subst (λ (y : World). IsSettled program y (used_at program (instruction_of program f))) e
      (subst (IsSettled program v) used step.settled)) in
      let taken : PlainStep program w fs gs = record { frame = f; runs = frame.1; steps = other.1; settled = settled } in
      let next_w = with_thread w t (Live gs) in
      let same : with_thread v t (Live after) ≡ on_cells h cells next_w =
      ap (λ (y : World). with_thread y t (Live after)) e
      ∙ ap (λ ks. with_thread (on_cells h cells w) t (Live ks)) (sym other.2)
      ∙ thread_on_cells h cells w t (Live gs) in
      let comes = plain_comes program w t fs gs thread.1 taken in
      let moves : CompletionMoves w (Goes next_w comes.0) = subst (CompletionMoves w) comes.1 (completion_moves program w t) in
      let effect : Effect = record { after = next_w; writes = comes.0 } in
      let reached : ReachedInCells h cells next_w = record {
        named = u.named;
        reached = unborn_reached h cells w u program t effect (allowed_from_moves w (change_of None effect) moves.moves);
        memory_error = u.memory_error;
        stack_error = u.stack_error;
      } in
      let further = goes_image program (with_thread v t (Live after)) v' rest next_w same reached in
      record {
        world = further.world;
        ahead = steps w further.world t fs gs thread.1 taken further.ahead;
        same = ap (λ ps. pair_of t NewObject ∷ ps) further.same;
        reached = further.reached;
        is = further.is;
      }

-- so what an image goes ahead to is an image of what the world goes ahead to
pub record ImageAhead (program : List ClassListing) (z w : World) (pairs : List Pair) : Type 0 where
  pub world : World
  pub ahead : GoesAhead program w world
  pub same : pairs_in ahead ≡ pairs
  pub images : Images z world

pub image_ahead : (program : List ClassListing) (x z w : World) → Images x w → (a : GoesAhead program x z)
    → ImageAhead program z w (pairs_in a)
image_ahead program x z w i a =
    let k = goes_image i.naming i.cells program x z a w i.is i.reached in
    record {
      world = k.world;
      ahead = k.ahead;
      same = k.same;
      images = record { naming = i.naming; cells = i.cells; reached = k.reached; is = k.is };
    }
