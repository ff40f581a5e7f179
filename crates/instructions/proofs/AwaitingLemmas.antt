-- When a call waits: another thread has entered the monitor of the method that it calls, or the thread that it joins
-- goes on.
use Rattle.std.proofs.Common.{◌≡◌, ℕ, ℤ, List, Bool, true, false, not, Option, Some, None, Result, Ok, Err, refl, ap}
use Rattle.std.proofs.Common.{◌∙◌}
use Rattle.std.specs.Prelude.{drop, length, reverse, slice_get, if◌then◌else◌}
use Rattle.std.specs.Option.{option_map, option_map_or}
use Rattle.model.specs.declared.builtins.Builtin.{Builtin}
use Rattle.model.specs.declared.builtins.Builtin.TheVariants.{PrintInt, PrintLong, PutByte, Initialize, RunThread}
use Rattle.model.specs.declared.builtins.Builtin.TheVariants.{StartThread, JoinThread}
use Rattle.model.specs.declared.places.MethodPlace.{MethodPlace}
use Rattle.model.specs.declared.turns.Exception.TheVariants.{StackOverflow}
use Rattle.model.specs.declared.turns.Fault.{Fault}
use Rattle.model.specs.declared.turns.Fault.TheVariants.{MonitorLimit, NoMethod, WrongClass}
use Rattle.model.specs.declared.values.Kind.{Kind as ValueKind}
use Rattle.model.specs.Completions.{Completion, Site, frames_in, raises, waits}
use Rattle.model.specs.Completions.Completion.{Faults, Waits}
use Rattle.model.specs.Frames.{has_room_for, int_on, long_on, ref_on}
use Rattle.model.specs.Monitors.{is_full, may_enter}
use Rattle.model.specs.Printing.{decimal_line, low_byte}
use Rattle.model.specs.Signatures.{argument_kinds}
use Rattle.model.specs.Table.Builtins.{does_nothing, prints_on}
use Rattle.model.specs.Objects.{object_at}
use Rattle.model.specs.Table.Invokes.{fault_in_pops}
use Rattle.model.specs.Table.Threads.{has_live_thread, joined, thread_if}
use Rattle.model.specs.Worlds.{Monitor, Object}
use Rattle.linking.specs.declared.method_tables.Body.{Body}
use Rattle.linking.specs.declared.method_tables.Body.TheVariants.{NoCode, Own, Coded}
use Rattle.linking.specs.declared.operations.Operation.{Operation}
use Rattle.linking.specs.declared.operations.Operation.TheVariants as operation
use Rattle.linking.specs.MethodFacts.{MethodFacts}
use Rattle.linking.specs.Selectors.{Signature, selectors}
use Rattle.instructions.specs.declared.awaiting.Awaited.{Awaited}
use Rattle.instructions.specs.declared.awaiting.Awaited.TheVariants.{Entry}
use Rattle.instructions.specs.declared.kinds.Course.{Course}
use Rattle.instructions.specs.declared.kinds.Kind.{Kind}
use Rattle.instructions.specs.Acting.{AreIn}
use Rattle.instructions.specs.Awaiting.{awaited_of_own, goes_on_in, awaits, awaits_thread, awaited_as, awaited_at}
use Rattle.instructions.specs.Awaiting.{awaited_of_body, awaited_of_known, awaited_on, awaited_selected}
use Rattle.instructions.specs.Awaiting.{awaited_special}
use Rattle.instructions.specs.CallsByNumbers.{called_as, called_at, called_known, called_none, called_object, called_on}
use Rattle.instructions.specs.CallsByNumbers.{called_selected, called_special, called_static, enters, enters_frame}
use Rattle.instructions.specs.CallsByNumbers.{is_call, is_kind_of, is_static, is_synchronized, known_at, method_monitor}
use Rattle.instructions.specs.CallsByNumbers.{monitor_wanted, no_own, object_found, operands_of, place_of_number, runs}
use Rattle.instructions.specs.CallsByNumbers.{selected_place}
use Rattle.instructions.specs.Heaps.{HeapValue, kind_held}
use Rattle.instructions.specs.OwnCalls.{operated_by_calls, own_call}
use Rattle.instructions.specs.Shown.{objects_shown}
use Rattle.instructions.specs.Starting.{lives_on}
use Rattle.instructions.proofs.CallsSilent.{started_quiet}
use Rattle.instructions.proofs.StartingLemmas.{live-in, thread-shown}
use Rattle.instructions.proofs.MonitoringLemmas.{monitor-shown}

-- ---- what waits where objects are shown

module _ (courses : List Course) (s : Site) (h : HeapValue) (shown : s.world.objects
    ≡ objects_shown s.program h.objects)
    (alike : AreIn courses s.world.threads) where
  -- a completion waits for this
  abbrev WaitsFor : Completion → Option Awaited → Type 0
  WaitsFor c awaited = waits c ≡ awaits courses s.thread h s.frame awaited

  unless : (b : Bool) (fault : Fault) (c : Completion) (awaited : Option Awaited) → WaitsFor c awaited
      → WaitsFor (if b then Faults fault else c) (if b then None else awaited)
  unless true fault c awaited e = refl
  unless false fault c awaited e = e

  where-so : (b : Bool) (fault : Fault) (c : Completion) (awaited : Option Awaited) → WaitsFor c awaited
      → WaitsFor (if not b then Faults fault else c) (if b then awaited else None)
  where-so true fault c awaited e = e
  where-so false fault c awaited e = refl

  wanted : (monitor : Option ℕ) → not (may_enter s.thread (monitor_wanted s monitor).owner)
      ≡ awaits courses s.thread h s.frame (option_map Entry monitor)
  wanted None = refl
  wanted (Some birth) =
      ap (λ (m : Monitor). not (may_enter s.thread m.owner)) (monitor-shown s.program h s.world shown birth)

  module _ (place : MethodPlace) (max_locals max_stack count : ℕ) (monitor : Option ℕ) where
    abbrev chosen : Bool → Bool → Bool → Completion
    chosen may room full =
        if not may then Waits else if not room then raises StackOverflow else if full then Faults MonitorLimit
        else enters_frame s place max_locals max_stack count monitor

    chosen-waits : (may room full : Bool) → waits (chosen may room full) ≡ not may
    chosen-waits false room full = refl
    chosen-waits true false full = refl
    chosen-waits true true true = refl
    chosen-waits true true false = refl

    entry : WaitsFor (enters s place max_locals max_stack count monitor) (option_map Entry monitor)
    entry =
        chosen-waits (may_enter s.thread (monitor_wanted s monitor).owner)
        (has_room_for (frames_in s) max_locals max_stack) (is_full (monitor_wanted s monitor))
        ∙ wanted monitor

  -- ---- the machine's own methods

  joins : (r : Result (Option ℕ) Fault) → waits (joined s r) ≡ goes_on_in courses h r
  joins (Err fault) = refl
  joins (Ok None) = refl
  joins (Ok (Some birth)) =
      by (has_live_thread s.world (thread_if (object_at s.world birth)))
      ∙ live-in courses s.world (thread_if (object_at s.world birth)) alike
      ∙ ap (λ (objects : List Object). lives_on courses (thread_if (slice_get objects birth))) shown
      ∙ ap (lives_on courses) (thread-shown s.program h birth)
    where
      by : (b : Bool) → waits (if b then Waits else does_nothing s) ≡ b
      by true = refl
      by false = refl

  own : (builtin : Builtin) → WaitsFor (own_call h s builtin) (awaited_of_own builtin)
  own PrintInt = refl
  own PrintLong = refl
  own PutByte = refl
  own Initialize = refl
  own RunThread = refl
  own StartThread = (started_quiet s h (ref_on s.frame.stack)).1
  own JoinThread = joins (ref_on s.frame.stack)

  bytes : (line : ℤ → List ℕ) (r : Result ℤ Fault) → WaitsFor (prints_on s line r) None
  bytes line (Ok z) = refl
  bytes line (Err e) = refl

  -- ---- calls on objects

  body : (place : MethodPlace) (facts : MethodFacts) (birth : ℕ) (b : Body)
      → WaitsFor (runs (own_call h s) s place facts (Some birth) b) (awaited_of_body facts birth b)
  body place facts birth NoCode = refl
  body place facts birth (Own builtin) = own builtin
  body place facts birth (Coded max_locals max_stack) =
      entry place max_locals max_stack (operands_of facts (Some birth)) (method_monitor facts (Some birth))

  known : (birth : ℕ) (place : MethodPlace) (facts : Option MethodFacts)
      → WaitsFor (called_known (own_call h s) s birth place facts) (awaited_of_known birth facts)
  known birth place None = refl
  known birth place (Some facts) =
      unless (is_static facts) NoMethod (runs (own_call h s) s place facts (Some birth) facts.body)
      (awaited_of_body facts birth facts.body) (body place facts birth facts.body)

  at : (birth : ℕ) (place : Option MethodPlace)
      → WaitsFor (called_at (own_call h s) s birth place) (awaited_at s.program birth place)
  at birth None = refl
  at birth (Some place) = known birth place (known_at s.program place)

  module _ (class : ℕ) (method : Kind → Option MethodPlace) where
    of-class : (birth : ℕ) (o : Option Kind)
        → WaitsFor (called_as (own_call h s) s class method birth o) (awaited_as s.program class method birth o)
    of-class birth None = refl
    of-class birth (Some kind) =
        where-so (is_kind_of s.program kind class) WrongClass (called_at (own_call h s) s birth (method kind))
        (awaited_at s.program birth (method kind)) (at birth (method kind))

    object : (r : Result (Option ℕ) Fault)
        → WaitsFor (called_object (own_call h s) s h class method r) (awaited_on s.program h class method r)
    object (Err fault) = refl
    object (Ok None) = refl
    object (Ok (Some birth)) = of-class birth (kind_held h birth)

    on : (kinds : List ValueKind)
        → WaitsFor (called_on (own_call h s) s h class kinds method)
        (awaited_on s.program h class method (object_found kinds s.frame.stack))
    on kinds = by (fault_in_pops (reverse kinds) s.frame.stack) (ref_on (drop (length kinds) s.frame.stack))
      where
        by : (fault : Option Fault) (r : Result (Option ℕ) Fault)
            → WaitsFor (option_map_or Faults fault (called_object (own_call h s) s h class method r))
            (awaited_on s.program h class method (option_map_or Err fault r))
        by None r = object r
        by (Some fault) r = refl

  selected : (class : ℕ) (o : Option Signature)
      → WaitsFor (called_selected (own_call h s) s h class o) (awaited_selected s.program h s.frame class o)
  selected class None = refl
  selected class (Some signature) = on class (selected_place s.program signature) (argument_kinds signature.1)

  special : (class : ℕ) (place : MethodPlace) (facts : Option MethodFacts)
      → WaitsFor (called_special (own_call h s) s h class place facts)
      (awaited_special s.program h s.frame class place facts)
  special class place None = refl
  special class place (Some facts) = on class (λ kind. Some place) facts.arguments

  -- ---- calls that wait for nothing: none is found, or there is no object

  nothing-on : (class : ℕ) (r : Result (Option ℕ) Fault) → awaited_on s.program h class (λ kind. None) r ≡ None
  nothing-on class (Err fault) = refl
  nothing-on class (Ok None) = refl
  nothing-on class (Ok (Some birth)) = by (kind_held h birth)
    where
      either : (b : Bool) → (let none : Option Awaited = None in if b then none else none) ≡ None
      either true = refl
      either false = refl

      by : (o : Option Kind) → awaited_as s.program class (λ kind. None) birth o ≡ None
      by None = refl
      by (Some kind) = either (is_kind_of s.program kind class)

  none : (class : ℕ) (facts : Option MethodFacts) → WaitsFor (called_none (own_call h s) s h class facts) None
  none class None = refl
  none class (Some facts) =
      on class (λ kind. None) facts.arguments
      ∙ ap (awaits courses s.thread h s.frame) (nothing-on class (object_found facts.arguments s.frame.stack))

  static : (place : MethodPlace) (facts : Option MethodFacts) → WaitsFor (called_static s place facts) None
  static place None = refl
  static place (Some facts) = by (fault_in_pops (reverse facts.arguments) s.frame.stack) where
    no-monitor : (b : Bool)
        → awaits courses s.thread h s.frame
        (option_map Entry (let none : Option ℕ = None in if b then none else none)) ≡ false
    no-monitor true = refl
    no-monitor false = refl

    code : (b : Body) → WaitsFor (runs no_own s place facts None b) None
    code NoCode = refl
    code (Own builtin) = refl
    code (Coded max_locals max_stack) =
        entry place max_locals max_stack (operands_of facts None) (method_monitor facts None)
        ∙ no-monitor (is_synchronized facts)

    by : (fault : Option Fault) → WaitsFor (option_map_or Faults fault (runs no_own s place facts None facts.body)) None
    by None = code facts.body
    by (Some fault) = refl

-- a call waits where another thread has entered the monitor of its method, or goes on that it joins
pub call_waits : (courses : List Course) (s : Site) (h : HeapValue) → s.world.objects
    ≡ objects_shown s.program h.objects
    → AreIn courses s.world.threads → (op : Operation) → is_call op ≡ true
    → waits (operated_by_calls s h op) ≡ awaits_thread s.program courses s.thread h s.frame op
call_waits courses s h shown alike (operation.Invokestatic class method) e =
    let place = place_of_number (class, method) in static courses s h shown alike place (known_at s.program place)
call_waits courses s h shown alike (operation.Invokevirtual class selector) e =
    selected courses s h shown alike class (slice_get (selectors s.program) selector)
call_waits courses s h shown alike (operation.Invokespecial class declarer method) e =
    let place = place_of_number (declarer, method)
    in special courses s h shown alike class place (known_at s.program place)
call_waits courses s h shown alike (operation.Invokenone class declarer method) e =
    none courses s h shown alike class (known_at s.program (place_of_number (declarer, method)))
call_waits courses s h shown alike operation.PrintInt e = bytes courses s h shown alike decimal_line
    (int_on s.frame.stack)
call_waits courses s h shown alike operation.PrintLong e = bytes courses s h shown alike decimal_line
    (long_on s.frame.stack)
call_waits courses s h shown alike operation.PutByte e = bytes courses s h shown alike low_byte (int_on s.frame.stack)
call_waits courses s h shown alike _ e = cc
