use Rattle.std.proofs.Common.{◌≡◌, ℕ, ◌+◌, List, [], ◌∷◌, ◌++◌, map, drop, reverse, Bool, true, false, not}
use Rattle.std.proofs.Common.{if◌then◌else◌, Option, Some, None, Result, Ok, Err, refl, sym, ◌∙◌, ap}
use Rattle.std.specs.Option.{option_len, option_map_or, option_or, option_to_list}
use Rattle.std.specs.Result.{result_err}
use Rattle.std.proofs.lemmas.List.{map-append, drop-map}
use Rattle.model.specs.declared.names.Member.{Member}
use Rattle.model.specs.declared.listings.Method.{Method}
use Rattle.model.specs.declared.values.Kind.{Kind}
use Rattle.model.specs.declared.values.Value.{Value}
use Rattle.model.specs.declared.turns.Fault.{Fault}
use Rattle.model.specs.declared.turns.Fault.TheVariants.{WrongClass, MonitorLimit}
use Rattle.model.specs.declared.turns.Exception.TheVariants.{StackOverflow}
use Rattle.model.specs.declared.instructions.Invocation.{Invocation}
use Rattle.model.specs.declared.instructions.Invocation.TheVariants.{Virtual, Special, Static, Interface}
use Rattle.model.specs.Signatures.{argument_kinds}
use Rattle.model.specs.Classes.Flags.{is_synchronized}
use Rattle.model.specs.Classes.Search.{Declared}
use Rattle.model.specs.Classes.Resolution.{resolved_method}
use Rattle.model.specs.Classes.Selection.{selected}
use Rattle.model.specs.Classes.Types.{is_subtype}
use Rattle.model.specs.Callees.{CodedMethod, Callee, callee_of}
use Rattle.model.specs.Callees.Callee.{Own, Coded, NoCode}
use Rattle.model.specs.declared.colours.Cell.{Cell}
use Rattle.model.specs.Values.{births_of}
use Rattle.model.specs.Frames.{Frame, ref_on, running, running_frame, with_running, has_room_for}
use Rattle.model.specs.Locals.{value_on, arguments_on, frames_of_call}
use Rattle.model.specs.Worlds.{Monitor, free_monitor, with_thread}
use Rattle.model.specs.Worlds.Thread.{Live}
use Rattle.model.specs.Objects.{class_at}
use Rattle.model.specs.Monitors.{may_enter, is_full, entered, monitor_of, with_monitor_of}
use Rattle.model.specs.Completions.{Completion, Site, frames_in, raises}
use Rattle.model.specs.Completions.Completion.{Goes, Faults, Waits}
use Rattle.model.specs.Table.Invokes.{fault_in_pops, with_arguments, arguments_in, Call, operands_in, method_monitor}
use Rattle.model.specs.Table.Invokes.{monitor_for, world_entered, guarded, enters_frame, enters_method, called}
use Rattle.model.specs.Table.Invokes.{called_on, on_object, selected_for, special_for, invoked}
use Rattle.model.specs.Collector.Places.{Reach}
use Rattle.model.proofs.CollectorLemmas.Calls.{below_known}
use Rattle.model.proofs.CollectorLemmas.Words.{ref_on-known}
use Rattle.join.specs.Naming.{Naming, named_ref, named_value, named_frame}
use Rattle.join.specs.OnCells.{site_on, completion_on, on_cells, InCell, ReachedInCells}
use Rattle.join.proofs.Cells.{class_in_cell}
use Rattle.join.proofs.Naming.{renamed, ref_on_named, value_on_named, births_named}
use Rattle.join.proofs.Completions.{raises_on_cells}
use Rattle.join.proofs.Monitors.{monitor_of_on_cells, with_monitor_on_cells}
use Rattle.join.proofs.Frames.{running_named, arguments_on_named, run_named, call_named, room_named, frames_on_cells}
use Rattle.join.proofs.Frames.{thread_on_cells}
use Rattle.join.proofs.Table.Builtins.{builtin_on_cells}

-- calls come to the same on cells: which method runs is reported by classes, and whether it may by a monitor and the
-- limits

module _ (h : Naming) where
  -- ---- arguments

  fault_named : (r : Result Value Fault) → result_err (renamed h (named_value h) r) ≡ result_err r
  fault_named (Err fault) = refl
  fault_named (Ok v) = refl

  pops_named : (kinds : List Kind) (stack : List Value) → fault_in_pops kinds (map (named_value h) stack)
      ≡ fault_in_pops kinds stack
  pops_named [] stack = refl
  pops_named (kind ∷ kinds) stack =
      ap (λ o. option_or o (fault_in_pops kinds (drop 1 (map (named_value h) stack))))
      (ap result_err (value_on_named h kind stack) ∙ fault_named (value_on kind stack))
      ∙ ap (option_or (result_err (value_on kind stack))) (ap (fault_in_pops kinds) (drop-map (named_value h) 1 stack)
      ∙ pops_named kinds (drop 1 stack))

  -- ---- frames

  guarded_named : (monitor : Option ℕ) (fs : List Frame) → guarded (named_ref h monitor) (map (named_frame h) fs)
      ≡ map (named_frame h) (guarded monitor fs)
  guarded_named monitor fs =
      ap (λ g. with_running (map (named_frame h) fs) (record g { monitor = named_ref h monitor })) (run_named h fs)
      ∙ running_named h fs (record (running_frame fs) { monitor = monitor })

  listed_named : (o : Option ℕ) → option_to_list (named_ref h o) ≡ map h (option_to_list o)
  listed_named None = refl
  listed_named (Some b) = refl

  count_named : (o : Option ℕ) → option_len (named_ref h o) ≡ option_len o
  count_named None = refl
  count_named (Some b) = refl

  module _ (cells : List Cell) (s : Site) (u : ReachedInCells h cells s.world) (e : running (frames_in s)
      ≡ Some s.frame) where
    abbrev image : Site
    image = site_on h cells s

    abbrev image_of : Completion → Completion
    image_of c = completion_on h cells c

    abbrev Known : Option ℕ → Type 0
    Known o = (b : ℕ) → o ≡ Some b → Reach s.world b

    -- ---- a call

    abbrev call : Member → Option ℕ → Call
    call m o = record { site = s; member = m; object = o }

    abbrev call_image : Member → Option ℕ → Call
    call_image m o = record { site = image; member = m; object = named_ref h o }

    operands_named : (m : Member) (o : Option ℕ) → operands_in (call_image m o) ≡ operands_in (call m o)
    operands_named m o = ap (λ (n : ℕ). arguments_in m + n) (count_named o)

    monitor_named : (m : Member) (o : Option ℕ) (c : CodedMethod) → method_monitor (call_image m o) c
        ≡ named_ref h (method_monitor (call m o) c)
    monitor_named m o c = go (is_synchronized c.method)
      where
        go : (t : Bool) → (if t then named_ref h o else None) ≡ named_ref h (if t then o else None)
        go true = refl
        go false = refl

    monitor_reached : (t : Bool) (o : Option ℕ) → Known o → Known (if t then o else None)
    monitor_reached true o k = k
    monitor_reached false o k = λ b q. absurd (cc)

    entered_on_cells : (o : Option ℕ) → Known o → world_entered image (named_ref h o)
        ≡ on_cells h cells (world_entered s o)
    entered_on_cells None k = refl
    entered_on_cells (Some b) k =
        let t = u.reached b (k b refl) in
        ap (λ m. with_monitor_of image.world (h b) (entered s.thread m)) (monitor_of_on_cells h cells s.world b t)
        ∙ with_monitor_on_cells h cells s.world b (entered s.thread (monitor_of s.world b)) u.named t

    monitor_same : (o : Option ℕ) → Known o → option_map_or (monitor_of image.world) (named_ref h o) free_monitor
        ≡ option_map_or (monitor_of s.world) o free_monitor
    monitor_same None k = refl
    monitor_same (Some b) k = monitor_of_on_cells h cells s.world b (u.reached b (k b refl))

    frames_same : (c : CodedMethod) (n : ℕ) (o : Option ℕ)
        → guarded (named_ref h o) (frames_of_call (frames_in image) c.place c.code.max_locals c.code.max_stack n)
        ≡ map (named_frame h) (guarded o (frames_of_call (frames_in s) c.place c.code.max_locals c.code.max_stack n))
    frames_same c n o =
        ap (λ fs. guarded (named_ref h o) (frames_of_call fs c.place c.code.max_locals c.code.max_stack n))
        (frames_on_cells h cells s.world s.thread)
        ∙ ap (guarded (named_ref h o)) (call_named h (frames_in s) c.place c.code.max_locals c.code.max_stack n)
        ∙ guarded_named o (frames_of_call (frames_in s) c.place c.code.max_locals c.code.max_stack n)

    writes_same : (n : ℕ) (o : Option ℕ) → births_of (arguments_on n image.frame.stack)
        ++ option_to_list (named_ref h o) ≡ map h (births_of (arguments_on n s.frame.stack) ++ option_to_list o)
    writes_same n o =
        ap (λ bs. bs ++ option_to_list (named_ref h o)) (ap births_of (arguments_on_named h n s.frame.stack)
        ∙ births_named h (arguments_on n s.frame.stack))
        ∙ ap (λ bs. map h (births_of (arguments_on n s.frame.stack)) ++ bs) (listed_named o)
        ∙ sym (map-append h (births_of (arguments_on n s.frame.stack)) (option_to_list o))

    abbrev entering : Site → ℕ → Option ℕ → CodedMethod → Completion
    entering r n o c =
        Goes (with_thread (world_entered r o) r.thread
        (Live (guarded o (frames_of_call (frames_in r) c.place c.code.max_locals c.code.max_stack n))))
        (births_of (arguments_on n r.frame.stack) ++ option_to_list o)

    entering_on_cells : (c : CodedMethod) (n : ℕ) (o : Option ℕ) → Known o → entering image n (named_ref h o) c
        ≡ image_of (entering s n o c)
    entering_on_cells c n o k =
        let gs = guarded o (frames_of_call (frames_in s) c.place c.code.max_locals c.code.max_stack n) in
        rw (entered_on_cells o k, frames_same c n o, writes_same n o)
        (ap (λ w. Goes w (map h (births_of (arguments_on n s.frame.stack) ++ option_to_list o)))
        (thread_on_cells h cells (world_entered s o) s.thread (Live gs)))

    enters_frame_on_cells : (m : Member) (o : Option ℕ) (c : CodedMethod) → Known o → enters_frame (call_image m o) c
        ≡ image_of (enters_frame (call m o) c)
    enters_frame_on_cells m o c k =
        ap (λ (n : ℕ). entering image n (method_monitor (call_image m o) c) c) (operands_named m o)
        ∙ ap (λ r. entering image (operands_in (call m o)) r c) (monitor_named m o c)
        ∙ entering_on_cells c (operands_in (call m o)) (method_monitor (call m o) c)
        (monitor_reached (is_synchronized c.method) o k)

    by_tests : (x y : Completion) (may room full : Bool) → x ≡ image_of y →
        (if not may then Waits else if not room then raises StackOverflow else if full then Faults MonitorLimit else x)
        ≡ image_of (if not may then Waits else if not room then raises StackOverflow else if full
        then Faults MonitorLimit else y)
    by_tests x y false room full q = refl
    by_tests x y true false full q = raises_on_cells h cells u.stack_error StackOverflow
    by_tests x y true true true q = refl
    by_tests x y true true false q = q

    enters_method_on_cells : (m : Member) (o : Option ℕ) (c : CodedMethod) → Known o → enters_method (call_image m o) c
        ≡ image_of (enters_method (call m o) c)
    enters_method_on_cells m o c k =
        let monitor : monitor_for (call_image m o) c ≡ monitor_for (call m o) c =
        ap (λ r. option_map_or (monitor_of image.world) r free_monitor) (monitor_named m o c)
        ∙ monitor_same (method_monitor (call m o) c) (monitor_reached (is_synchronized c.method) o k) in
        let room : has_room_for (frames_in image) c.code.max_locals c.code.max_stack
        ≡ has_room_for (frames_in s) c.code.max_locals c.code.max_stack =
        ap (λ fs. has_room_for fs c.code.max_locals c.code.max_stack) (frames_on_cells h cells s.world s.thread)
        ∙ room_named h (frames_in s) c.code.max_locals c.code.max_stack in
        ap (λ (x : Monitor). if not (may_enter s.thread x.owner) then Waits
        else if not (has_room_for (frames_in image) c.code.max_locals c.code.max_stack) then raises StackOverflow
        else if is_full x then Faults MonitorLimit else enters_frame (call_image m o) c) monitor
        ∙ ap (λ (is : Bool). if not (may_enter s.thread (monitor_for (call m o) c).owner) then Waits else if not is
        then raises StackOverflow else if is_full (monitor_for (call m o) c) then Faults MonitorLimit
        else enters_frame (call_image m o) c) room
        ∙ by_tests (enters_frame (call_image m o) c) (enters_frame (call m o) c)
        (may_enter s.thread (monitor_for (call m o) c).owner) (has_room_for (frames_in s) c.code.max_locals
        c.code.max_stack) (is_full (monitor_for (call m o) c)) (enters_frame_on_cells m o c k)

    called_on_cells : (m : Member) (o : Option ℕ) (callee : Callee) → Known o → called (call_image m o) callee
        ≡ image_of (called (call m o) callee)
    called_on_cells m o NoCode k = refl
    called_on_cells m o (Own builtin) k = builtin_on_cells h cells s u e builtin
    called_on_cells m o (Coded c) k = enters_method_on_cells m o c k

    -- ---- its arguments and its object

    pops_on_cells : (m : Member) (x y : Completion) → x ≡ image_of y → with_arguments image m x
        ≡ image_of (with_arguments s m y)
    pops_on_cells m x y q =
        ap (λ o. option_map_or Faults o x) (pops_named (reverse (argument_kinds m.descriptor)) s.frame.stack)
        ∙ go (fault_in_pops (reverse (argument_kinds m.descriptor)) s.frame.stack)
      where
        go : (o : Option Fault) → option_map_or Faults o x ≡ image_of (option_map_or Faults o y)
        go None = q
        go (Some fault) = refl

    by_class : (t : Bool) (x y : Completion) → x ≡ image_of y → (if not t then Faults WrongClass else x)
        ≡ image_of (if not t then Faults WrongClass else y)
    by_class true x y q = q
    by_class false x y q = refl

    on_on_cells : (m : Member) (method image_method : ℕ → Option (Declared Method))
        → ((b : ℕ) → InCell h cells s.world b → image_method (h b) ≡ method b) → (r : Result (Option ℕ) Fault)
        → ((b : ℕ) → r ≡ Ok (Some b) → Reach s.world b) → called_on image m image_method (renamed h (named_ref h) r)
        ≡ image_of (called_on s m method r)
    on_on_cells m method image_method q (Err fault) k = refl
    on_on_cells m method image_method q (Ok None) k = refl
    on_on_cells m method image_method q (Ok (Some b)) k =
        let t = u.reached b (k b refl) in
        ap (λ class. if not (is_subtype s.program class m.class) then Faults WrongClass
        else called (call_image m (Some b)) (callee_of s.program (image_method (h b))))
        (class_in_cell h cells s.world b t)
        ∙ by_class (is_subtype s.program (class_at s.world b) m.class) _ _
        (ap (λ d. called (call_image m (Some b)) (callee_of s.program d)) (q b t)
        ∙ called_on_cells m (Some b) (callee_of s.program (method b)) (λ c z. k c (ap Ok z)))

    object_on_cells : (m : Member) (method image_method : ℕ → Option (Declared Method))
        → ((b : ℕ) → InCell h cells s.world b → image_method (h b) ≡ method b) → on_object image m image_method
        ≡ image_of (on_object s m method)
    object_on_cells m method image_method q =
        pops_on_cells m _ _
        (ap (called_on image m image_method) (ap ref_on (drop-map (named_value h) (arguments_in m) s.frame.stack)
        ∙ ref_on_named h (drop (arguments_in m) s.frame.stack))
        ∙ on_on_cells m method image_method q (ref_on (drop (arguments_in m) s.frame.stack))
        (λ b k. ref_on-known (Reach s.world) (drop (arguments_in m) s.frame.stack) b
        (below_known s.world s.thread (arguments_in m) s.frame e) k))

    -- ---- the four invokes

    selected_on_cells : (m : Member) (b : ℕ) → InCell h cells s.world b → selected_for image m (h b)
        ≡ selected_for s m b
    selected_on_cells m b t = ap (λ class. selected s.program class m.name m.descriptor)
        (class_in_cell h cells s.world b t)

    pub invoked_on_cells : (invocation : Invocation) (m : Member) → invoked image invocation m
        ≡ image_of (invoked s invocation m)
    invoked_on_cells Static m = pops_on_cells m _ _
        (called_on_cells m None (callee_of s.program (resolved_method s.program m)) (λ b k. absurd (cc)))
    invoked_on_cells Virtual m = object_on_cells m (selected_for s m) (selected_for image m) (selected_on_cells m)
    invoked_on_cells Special m = object_on_cells m (λ b. special_for s m) (λ b. special_for image m) (λ b t. refl)
    invoked_on_cells (Interface count) m = object_on_cells m (selected_for s m) (selected_for image m)
        (selected_on_cells m)
