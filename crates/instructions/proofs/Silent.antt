-- What the turn of a thread prints, and whether it waits, by the numbers that its step names.
use Rattle.std.proofs.Common.{◌≡◌, ℕ, List, [], ◌∷◌, Bool, true, false, Option, Some, None, Result, Ok, Err, refl, ap}
use Rattle.std.proofs.Common.{sym, ◌∙◌}
use Rattle.std.specs.Prelude.{◌||◌, ◌++◌, ◌==◌, not, slice_get, if◌then◌else◌}
use Rattle.model.specs.declared.instructions.MonitorOperation.{MonitorOperation}
use Rattle.model.specs.declared.instructions.MonitorOperation.TheVariants.{Enter, Exit}
use Rattle.model.specs.declared.listings.Placed.{Placed}
use Rattle.model.specs.declared.turns.Abrupt.{Abrupt}
use Rattle.model.specs.declared.turns.Abrupt.TheVariants.{Fault as Faulted, Throw as Thrown}
use Rattle.model.specs.declared.turns.ClassState.{ClassState}
use Rattle.model.specs.declared.turns.ClassState.TheVariants.{Unused, Running, Done, Failed}
use Rattle.model.specs.declared.turns.Exception.{Exception}
use Rattle.model.specs.declared.turns.Exception.TheVariants as exception
use Rattle.model.specs.declared.turns.Fault.{Fault}
use Rattle.model.specs.declared.turns.Fault.TheVariants.{NoInstruction, WrongClass}
use Rattle.model.specs.declared.turns.Mark.{Mark}
use Rattle.model.specs.declared.turns.Mark.TheVariants.{Unmarked, Waiting, Failing}
use Rattle.model.specs.declared.values.Kind.TheVariants.{Int, Long, Ref}
use Rattle.model.specs.declared.values.Value.{Value}
use Rattle.model.specs.ClassListings.{ClassListing}
use Rattle.model.specs.Completions.Completion.{Faults, Goes, Throws, Waits}
use Rattle.model.specs.Completions.{Completion, Site, completes, frames_in, prints, raises, waits}
use Rattle.model.specs.Frames.{Frame, Moved, ref_on, replaced_if_room, within_limits}
use Rattle.model.specs.Initialisation.{callers_waiting, initializer_frames, with_states}
use Rattle.model.specs.Locals.{value_on}
use Rattle.model.specs.Monitors.{exited, is_full, is_owner, may_enter, monitor_of, with_monitor_of}
use Rattle.model.specs.Programs.{instruction_of}
use Rattle.model.specs.Stores.{Storage, storage_kind}
use Rattle.model.specs.Table.Fields.{word_got}
use Rattle.model.specs.Table.Initialisation.{claims, initialises, states_in}
use Rattle.model.specs.Table.Monitors.{enter_if, moved_with, operates, operates_if}
use Rattle.model.specs.Words.{slot_at}
use Rattle.model.specs.Worlds.{Monitor, World, with_class_states, with_thread}
use Rattle.model.specs.Worlds.Thread.{Live}
use Rattle.linking.specs.declared.class_tables.Word.{Word}
use Rattle.linking.specs.declared.operations.Operation.{Operation}
use Rattle.linking.specs.declared.operations.Operation.TheVariants as operation
use Rattle.linking.specs.declared.static_slots.Slot.{Slot}
use Rattle.linking.specs.ClassTables.{class_tables, words_in}
use Rattle.linking.specs.StaticSlots.{static_slots}
use Rattle.linking.specs.Storages.{shown_storage}
use Rattle.plain_steps.specs.PlainMoves.{plain_move}
use Rattle.instructions.specs.Acting.{AreIn, site_of}
use Rattle.instructions.specs.declared.awaiting.Awaited.TheVariants.{Entry}
use Rattle.instructions.specs.Aside.{aside_move}
use Rattle.instructions.specs.Awaiting.{awaited_apart, awaited_on_top, awaits, awaits_thread}
use Rattle.instructions.specs.ByNumbers.{field_got_at, field_put_at, field_put_if, field_put_into, operated_by_numbers}
use Rattle.instructions.specs.ByNumbers.{static_got_if, static_put_at, static_put_if, word_place, word_put_at}
use Rattle.instructions.specs.CallsByNumbers.{printed_by_call}
use Rattle.instructions.specs.Heaps.{HeapValue, held, kind_held}
use Rattle.instructions.specs.InitialisingByNumbers.{after_initialising_by_numbers, chain_at, class_used_by}
use Rattle.instructions.specs.InitialisingByNumbers.{initialises_class, is_others, waits_for}
use Rattle.instructions.specs.MonitorsByNumbers.{is_object, operates_by}
use Rattle.instructions.specs.Operated.{aside_at, completed_at, moved_or, operated, operated_apart, operated_else}
use Rattle.instructions.specs.Operated.{operated_on_calls, operated_on_objects, printed_at, printed_if, marked}
use Rattle.instructions.specs.Operated.{standing, stepped, waits_at, waits_by, waits_if}
use Rattle.instructions.specs.Shown.{objects_shown}
use Rattle.instructions.specs.Throwing.{is_throwable, throws_kind, throws_operand}
use Rattle.instructions.proofs.AwaitingLemmas.{call_waits}
use Rattle.instructions.proofs.CallsSilent.{call_prints}
use Rattle.instructions.proofs.MonitoringLemmas.{monitor-shown}
use Rattle.instructions.proofs.ReturnLemmas.{returned_silent}
use Rattle.instructions.proofs.TypesSilent.{types_silent}
use Rattle.instructions.specs.declared.kinds.Course.{Course}
use Rattle.instructions.specs.declared.kinds.Kind.{Kind}
use Rattle.instructions.specs.declared.machines.Machine.{Machine}

-- ---- of completions

raises_silent : (e : Exception) → prints (raises e) ≡ None
raises_silent exception.Arithmetic = refl
raises_silent exception.NullPointer = refl
raises_silent exception.ClassCast = refl
raises_silent exception.NegativeArraySize = refl
raises_silent exception.ArrayStore = refl
raises_silent exception.IllegalMonitorState = refl
raises_silent exception.ArrayIndexOutOfBounds = refl
raises_silent exception.IllegalThreadState = refl
raises_silent exception.StackOverflow = refl
raises_silent exception.ExceptionInInitializer = refl
raises_silent exception.NoClassDefFound = refl

raises_goes : (e : Exception) → waits (raises e) ≡ false
raises_goes exception.Arithmetic = refl
raises_goes exception.NullPointer = refl
raises_goes exception.ClassCast = refl
raises_goes exception.NegativeArraySize = refl
raises_goes exception.ArrayStore = refl
raises_goes exception.IllegalMonitorState = refl
raises_goes exception.ArrayIndexOutOfBounds = refl
raises_goes exception.IllegalThreadState = refl
raises_goes exception.StackOverflow = refl
raises_goes exception.ExceptionInInitializer = refl
raises_goes exception.NoClassDefFound = refl

completes_silent : (s : Site) (r : Result Moved Abrupt) → prints (completes s r) ≡ None
completes_silent s (Ok moved) = refl
completes_silent s (Err (Faulted kind)) = refl
completes_silent s (Err (Thrown e)) = raises_silent e

completes_goes : (s : Site) (r : Result Moved Abrupt) → waits (completes s r) ≡ false
completes_goes s (Ok moved) = refl
completes_goes s (Err (Faulted kind)) = refl
completes_goes s (Err (Thrown e)) = raises_goes e

-- ---- what names a field or a class prints nothing, and doesn't wait

static_got_silent : (s : Site) (n : ℕ) (o : Option Slot) → (prints (static_got_if s n o) ≡ None)
    × (waits (static_got_if s n o) ≡ false)
static_got_silent s n None = (refl, refl)
static_got_silent s n (Some slot) = (
  completes_silent s (replaced_if_room s.next s.frame 0 (slot_at s.world n ∷ [])),
  completes_goes s (replaced_if_room s.next s.frame 0 (slot_at s.world n ∷ [])),
)

static_put_silent : (s : Site) (n : ℕ) (storage : Storage) (r : Result Value Fault)
    → (prints (static_put_at s n storage r) ≡ None) × (waits (static_put_at s n storage r) ≡ false)
static_put_silent s n storage (Err fault) = (refl, refl)
static_put_silent s n storage (Ok v) = (refl, refl)

static_put_if_silent : (s : Site) (n : ℕ) (o : Option Slot) → (prints (static_put_if s n o) ≡ None)
    × (waits (static_put_if s n o) ≡ false)
static_put_if_silent s n None = (refl, refl)
static_put_if_silent s n (Some slot) = static_put_silent s n (shown_storage slot.storage)
    (value_on (storage_kind (shown_storage slot.storage)) s.frame.stack)

word_got_silent : (s : Site) (birth : ℕ) (o : Option ℕ) → (prints (word_got s birth o) ≡ None)
    × (waits (word_got s birth o) ≡ false)
word_got_silent s birth None = (refl, refl)
word_got_silent s birth (Some place) = (completes_silent s _, completes_goes s _)

field_got_silent : (s : Site) (h : HeapValue) (class word declarer : ℕ) (r : Result (Option ℕ) Fault)
    → (prints (field_got_at s h class word declarer r) ≡ None) × (waits (field_got_at s h class word declarer r)
    ≡ false)
field_got_silent s h class word declarer (Err fault) = (refl, refl)
field_got_silent s h class word declarer (Ok None) = (refl, refl)
field_got_silent s h class word declarer (Ok (Some birth)) = word_got_silent s birth
    (word_place s.program (held h birth) class word declarer)

word_put_silent : (s : Site) (storage : Storage) (v : Value) (birth : ℕ) (o : Option ℕ)
    → (prints (word_put_at s storage v birth o) ≡ None) × (waits (word_put_at s storage v birth o) ≡ false)
word_put_silent s storage v birth None = (refl, refl)
word_put_silent s storage v birth (Some place) = (refl, refl)

field_put_into_silent : (s : Site) (h : HeapValue) (class word declarer : ℕ) (storage : Storage) (v : Value)
    (o : Option ℕ) → (prints (field_put_into s h class word declarer storage v o) ≡ None)
    × (waits (field_put_into s h class word declarer storage v o) ≡ false)
field_put_into_silent s h class word declarer storage v None = (refl, refl)
field_put_into_silent s h class word declarer storage v (Some birth) = word_put_silent s storage v birth
    (word_place s.program (held h birth) class word declarer)

field_put_silent : (s : Site) (h : HeapValue) (class word declarer : ℕ) (storage : Storage)
    (r : Result (Value × Option ℕ) Fault) → (prints (field_put_at s h class word declarer storage r) ≡ None)
    × (waits (field_put_at s h class word declarer storage r) ≡ false)
field_put_silent s h class word declarer storage (Err fault) = (refl, refl)
field_put_silent s h class word declarer storage (Ok operands) = field_put_into_silent s h class word declarer storage
    operands.0 operands.1

field_put_if_silent : (s : Site) (h : HeapValue) (class word declarer : ℕ) (o : Option Word)
    → (prints (field_put_if s h class word declarer o) ≡ None) × (waits (field_put_if s h class word declarer o)
    ≡ false)
field_put_if_silent s h class word declarer None = (refl, refl)
field_put_if_silent s h class word declarer (Some declared) = field_put_silent s h class word declarer
    (shown_storage declared.storage) _

numbered_silent : (s : Site) (h : HeapValue) (op : Operation) → (prints (operated_by_numbers s h op) ≡ None)
    × (waits (operated_by_numbers s h op) ≡ false)
numbered_silent s h (operation.Getstatic n) = static_got_silent s n (slice_get (static_slots s.program) n)
numbered_silent s h (operation.Putstatic n) = static_put_if_silent s n (slice_get (static_slots s.program) n)
numbered_silent s h (operation.Getfield class word declarer) = field_got_silent s h class word declarer
    (ref_on s.frame.stack)
numbered_silent s h (operation.Putfield class word declarer) = field_put_if_silent s h class word declarer
    (slice_get (words_in (class_tables s.program) declarer) word)
numbered_silent s h (operation.New class) = (refl, refl)
numbered_silent s h _ = (refl, refl)

-- ---- athrow

throws_silent : (program : List ClassListing) (h : HeapValue) (r : Result (Option ℕ) Fault)
    → (prints (throws_operand program h r) ≡ None) × (waits (throws_operand program h r) ≡ false)
throws_silent program h (Err fault) = (refl, refl)
throws_silent program h (Ok None) = (refl, refl)
throws_silent program h (Ok (Some reference)) = by (kind_held h reference)
  where
    thrown : (b : Bool) → (prints (if b then Throws reference else Faults WrongClass) ≡ None)
        × (waits (if b then Throws reference else Faults WrongClass) ≡ false)
    thrown true = (refl, refl)
    thrown false = (refl, refl)

    by : (o : Option Kind) → (prints (throws_kind program reference o) ≡ None)
        × (waits (throws_kind program reference o) ≡ false)
    by None = (refl, refl)
    by (Some kind) = thrown (is_throwable program kind)

-- ---- operations that aren't plain

objects_silent : (s : Site) (h : HeapValue) (op : Operation)
    → (prints (operated_on_objects s h op) ≡ None) × (waits (operated_on_objects s h op) ≡ false)
objects_silent s h (operation.Getstatic n) = numbered_silent s h (operation.Getstatic n)
objects_silent s h (operation.Putstatic n) = numbered_silent s h (operation.Putstatic n)
objects_silent s h (operation.Getfield a b c) = numbered_silent s h (operation.Getfield a b c)
objects_silent s h (operation.Putfield a b c) = numbered_silent s h (operation.Putfield a b c)
objects_silent s h (operation.New n) = (refl, refl)
objects_silent s h op = types_silent s h op

-- ---- monitors

enter_prints : (own : Completion) (may full : Bool) → prints own ≡ None → prints (enter_if own may full) ≡ None
enter_prints own false full e = refl
enter_prints own true true e = refl
enter_prints own true false e = e

enter_waits : (own : Completion) (may full : Bool) → waits own ≡ false → waits (enter_if own may full) ≡ not may
enter_waits own false full e = refl
enter_waits own true true e = refl
enter_waits own true false e = e

exit_silent : (s : Site) (w : World) (owns : Bool)
    → (let c = if owns then moved_with s w else raises exception.IllegalMonitorState in (prints c ≡ None)
    × (waits c ≡ false))
exit_silent s w true = (refl, refl)
exit_silent s w false = (refl, refl)

operates_prints : (s : Site) (operation : MonitorOperation) (birth : ℕ) → prints (operates s operation birth) ≡ None
operates_prints s Enter birth =
    let m = monitor_of s.world birth in enter_prints (moved_with s _) (may_enter s.thread m.owner) (is_full m) refl
operates_prints s Exit birth =
    let m = monitor_of s.world birth
    in (exit_silent s (with_monitor_of s.world birth (exited m)) (is_owner s.thread m.owner)).0

monitors_print : (s : Site) (h : HeapValue) (operation : MonitorOperation) (r : Result (Option ℕ) Fault)
    → prints (operates_by s h operation r) ≡ None
monitors_print s h operation (Err fault) = refl
monitors_print s h operation (Ok None) = refl
monitors_print s h operation (Ok (Some birth)) = by (is_object s.program (kind_held h birth)) where
  by : (there : Bool) → prints (operates_if s operation birth there) ≡ None
  by true = operates_prints s operation birth
  by false = refl

-- ---- what stands aside

aside_silent : (s : Site) (o : Option Placed) → (prints (aside_at s o) ≡ None) × (waits (aside_at s o) ≡ false)
aside_silent s None = (refl, refl)
aside_silent s (Some i) = by (aside_move s.next i.instruction s.frame)
  where
    by : (o : Option (Result Moved Abrupt)) → (let c = moved_or s o (Faults NoInstruction) in (prints c ≡ None)
        × (waits c ≡ false))
    by None = (refl, refl)
    by (Some m) = (completes_silent s m, completes_goes s m)

apart_prints : (s : Site) (h : HeapValue) (op : Operation) → prints (operated_apart s h op) ≡ None
apart_prints s h operation.Monitorenter = monitors_print s h Enter (ref_on s.frame.stack)
apart_prints s h operation.Monitorexit = monitors_print s h Exit (ref_on s.frame.stack)
apart_prints s h operation.Aside = (aside_silent s (instruction_of s.program s.frame)).0
apart_prints s h op = (objects_silent s h op).0

else_prints : (s : Site) (h : HeapValue) (op : Operation) → prints (operated_else s h op) ≡ printed_by_call s.frame op
else_prints s h operation.Return = (returned_silent s None).0
else_prints s h operation.Ireturn = (returned_silent s (Some Int)).0
else_prints s h operation.Lreturn = (returned_silent s (Some Long)).0
else_prints s h operation.Areturn = (returned_silent s (Some Ref)).0
else_prints s h operation.Athrow = (throws_silent s.program h (ref_on s.frame.stack)).0
else_prints s h (operation.Invokestatic a b) = call_prints s h (operation.Invokestatic a b)
else_prints s h (operation.Invokenone a b c) = call_prints s h (operation.Invokenone a b c)
else_prints s h operation.PrintInt = call_prints s h operation.PrintInt
else_prints s h operation.PrintLong = call_prints s h operation.PrintLong
else_prints s h operation.PutByte = call_prints s h operation.PutByte
else_prints s h op = apart_prints s h op

calls_print : (s : Site) (h : HeapValue) (op : Operation) → prints (operated_on_calls s h op)
    ≡ printed_by_call s.frame op
calls_print s h (operation.Invokevirtual a b) = call_prints s h (operation.Invokevirtual a b)
calls_print s h (operation.Invokespecial a b c) = call_prints s h (operation.Invokespecial a b c)
calls_print s h op = else_prints s h op

-- a plain move prints nothing, and what prints has no plain move
plain_prints_none : (s : Site) (op : Operation) (m : Result Moved Abrupt) → plain_move s.next op s.frame ≡ Some m
    → None ≡ printed_by_call s.frame op
unfolding plain_move
plain_prints_none s operation.PrintInt m is = cc
plain_prints_none s operation.PrintLong m is = cc
plain_prints_none s operation.PutByte m is = cc
plain_prints_none s _ m is = refl

operated_prints : (s : Site) (h : HeapValue) (op : Operation) → prints (operated s h op) ≡ printed_by_call s.frame op
operated_prints s h op = by (plain_move s.next op s.frame) refl where
  by : (o : Option (Result Moved Abrupt)) → plain_move s.next op s.frame ≡ o
      → prints (moved_or s o (operated_on_calls s h op)) ≡ printed_by_call s.frame op
  by None is = calls_print s h op
  by (Some m) is = completes_silent s m ∙ plain_prints_none s op m is

-- ---- what comes before them

abbrev claims_frames : Site → List ℕ → List Frame → Bool → Completion
claims_frames s classes frames fit =
    if fit
    then Goes (with_class_states (with_thread s.world s.thread (Live frames))
    (with_states (Running s.thread) classes (states_in s))) []
    else raises exception.StackOverflow

claim_silent : (s : Site) (classes : List ℕ) (frames : List Frame) (fit : Bool)
    → (prints (claims_frames s classes frames fit) ≡ None) × (waits (claims_frames s classes frames fit) ≡ false)
claim_silent s classes frames true = (refl, refl)
claim_silent s classes frames false = (refl, refl)

abbrev frames_claimed : Site → List ℕ → List Frame
frames_claimed s classes = frames_in s ++ callers_waiting (initializer_frames s.program classes)

claimed_prints : (s : Site) (classes : List ℕ) (own : Completion) → prints own ≡ None → prints (claims s classes own)
    ≡ None
claimed_prints s [] own none = none
claimed_prints s (class ∷ classes) own none =
    (claim_silent s (class ∷ classes) (frames_claimed s (class ∷ classes))
    (within_limits (frames_claimed s (class ∷ classes)))).0

chain_prints : (s : Site) (own : Completion) → prints own ≡ None → (unused : List ℕ) (above : ClassState)
    → prints (initialises s unused above own) ≡ None
chain_prints s own none unused Unused = claimed_prints s unused own none
chain_prints s own none unused (Running t) = by (t == s.thread)
  where
    by : (b : Bool) → prints (if b then claims s unused own else Waits) ≡ None
    by true = claimed_prints s unused own none
    by false = refl
chain_prints s own none unused Done = claimed_prints s unused own none
chain_prints s own none unused Failed = refl

class_prints : (s : Site) (own : Completion) → prints own ≡ None → (class : Option ℕ)
    → prints (initialises_class s own class) ≡ None
class_prints s own none None = none
class_prints s own none (Some class) =
    chain_prints s own none (chain_at s.program (states_in s) class).unused
    (chain_at s.program (states_in s) class).above

-- what prints uses no class
pub stepped_prints : (s : Site) (h : HeapValue) (op : Operation)
    → prints (after_initialising_by_numbers s op (operated s h op)) ≡ printed_by_call s.frame op
stepped_prints s h (operation.Getstatic n) = class_prints s _ (operated_prints s h (operation.Getstatic n))
    (class_used_by s.program (operation.Getstatic n))
stepped_prints s h (operation.Putstatic n) = class_prints s _ (operated_prints s h (operation.Putstatic n))
    (class_used_by s.program (operation.Putstatic n))
stepped_prints s h (operation.New n) = class_prints s _ (operated_prints s h (operation.New n)) (Some n)
stepped_prints s h (operation.Invokestatic a b) = class_prints s _ (operated_prints s h (operation.Invokestatic a b))
    (Some a)
stepped_prints s h op = operated_prints s h op

-- the turn prints what is told of its step
pub turn_prints : (program : List ClassListing) (w : World) (t : ℕ) (h : HeapValue) (o : Option Frame)
    → prints (completed_at program w t h o) ≡ printed_at program o
turn_prints program w t h None = refl
turn_prints program w t h (Some f) = by f.mark
  where
    by : (m : Mark) → prints (marked m (stepped program w t h f (standing program f)))
        ≡ printed_if m (printed_by_call f (standing program f).operation)
    by Unmarked = stepped_prints (site_of program w t f (standing program f).next) h (standing program f).operation
    by Waiting = refl
    by Failing = refl

-- ---- whether it waits

module _ (courses : List Course) (s : Site) (h : HeapValue) (objects_are : s.world.objects
    ≡ objects_shown s.program h.objects)
    (alike : AreIn courses s.world.threads) where
  enters_waits : (r : Result (Option ℕ) Fault) → waits (operates_by s h Enter r)
      ≡ awaits courses s.thread h s.frame (awaited_on_top s.program h r)
  enters_waits (Err fault) = refl
  enters_waits (Ok None) = refl
  enters_waits (Ok (Some birth)) = by (is_object s.program (kind_held h birth)) where
    by : (there : Bool) → waits (operates_if s Enter birth there) ≡ awaits courses s.thread h s.frame (if there
        then Some (Entry birth) else None)
    by true =
        let m = monitor_of s.world birth in
        enter_waits (moved_with s _) (may_enter s.thread m.owner) (is_full m) refl
        ∙ ap (λ (m : Monitor). not (may_enter s.thread m.owner)) (monitor-shown s.program h s.world objects_are birth)
    by false = refl

  exits_waits : (r : Result (Option ℕ) Fault) → waits (operates_by s h Exit r) ≡ false
  exits_waits (Err fault) = refl
  exits_waits (Ok None) = refl
  exits_waits (Ok (Some birth)) = by (is_object s.program (kind_held h birth)) where
    by : (there : Bool) → waits (operates_if s Exit birth there) ≡ false
    by true =
        let m = monitor_of s.world birth
        in (exit_silent s (with_monitor_of s.world birth (exited m)) (is_owner s.thread m.owner)).1
    by false = refl

  else_waits : (op : Operation) → waits (operated_else s h op)
      ≡ awaits courses s.thread h s.frame (awaited_apart s.program h s.frame op)
  else_waits operation.Return = (returned_silent s None).1
  else_waits operation.Ireturn = (returned_silent s (Some Int)).1
  else_waits operation.Lreturn = (returned_silent s (Some Long)).1
  else_waits operation.Areturn = (returned_silent s (Some Ref)).1
  else_waits operation.Athrow = (throws_silent s.program h (ref_on s.frame.stack)).1
  else_waits (operation.Invokestatic a b) = call_waits courses s h objects_are alike (operation.Invokestatic a b) refl
  else_waits (operation.Invokenone a b c) = call_waits courses s h objects_are alike (operation.Invokenone a b c) refl
  else_waits operation.PrintInt = call_waits courses s h objects_are alike operation.PrintInt refl
  else_waits operation.PrintLong = call_waits courses s h objects_are alike operation.PrintLong refl
  else_waits operation.PutByte = call_waits courses s h objects_are alike operation.PutByte refl
  else_waits operation.Monitorenter = enters_waits (ref_on s.frame.stack)
  else_waits operation.Monitorexit = exits_waits (ref_on s.frame.stack)
  else_waits operation.Aside = (aside_silent s (instruction_of s.program s.frame)).1
  else_waits op = (objects_silent s h op).1

  calls_wait : (op : Operation) → waits (operated_on_calls s h op) ≡ awaits_thread s.program courses s.thread h s.frame
      op
  calls_wait (operation.Invokevirtual a b) = call_waits courses s h objects_are alike (operation.Invokevirtual a b) refl
  calls_wait (operation.Invokespecial a b c) = call_waits courses s h objects_are alike (operation.Invokespecial a b c)
      refl
  calls_wait op = else_waits op

  -- what calls has no plain move
  plain_waits_not : (op : Operation) (m : Result Moved Abrupt) → plain_move s.next op s.frame ≡ Some m
      → false ≡ awaits_thread s.program courses s.thread h s.frame op
  unfolding plain_move
  plain_waits_not (operation.Invokestatic a b) m is = cc
  plain_waits_not (operation.Invokevirtual a b) m is = cc
  plain_waits_not (operation.Invokespecial a b c) m is = cc
  plain_waits_not (operation.Invokenone a b c) m is = cc
  plain_waits_not operation.Monitorenter m is = cc
  plain_waits_not _ m is = refl

  operated_waits : (op : Operation) → waits (operated s h op) ≡ awaits_thread s.program courses s.thread h s.frame op
  operated_waits op = by (plain_move s.next op s.frame) refl where
    by : (o : Option (Result Moved Abrupt)) → plain_move s.next op s.frame ≡ o
        → waits (moved_or s o (operated_on_calls s h op)) ≡ awaits_thread s.program courses s.thread h s.frame op
    by None is = calls_wait op
    by (Some m) is = completes_goes s m ∙ plain_waits_not op m is

  claimed_waits : (classes : List ℕ) (own : Completion) → waits own ≡ false → waits (claims s classes own) ≡ false
  claimed_waits [] own goes = goes
  claimed_waits (class ∷ classes) own goes =
      (claim_silent s (class ∷ classes) (frames_claimed s (class ∷ classes))
      (within_limits (frames_claimed s (class ∷ classes)))).1

  chain_waits : (own : Completion) → waits own ≡ false → (unused : List ℕ) (above : ClassState)
      → waits (initialises s unused above own) ≡ is_others s.thread above
  chain_waits own goes unused Unused = claimed_waits unused own goes
  chain_waits own goes unused (Running t) = by (t == s.thread)
    where
      by : (b : Bool) → waits (if b then claims s unused own else Waits) ≡ not b
      by true = claimed_waits unused own goes
      by false = refl
  chain_waits own goes unused Done = claimed_waits unused own goes
  chain_waits own goes unused Failed = refl

  class_waits : (own : Completion) → waits own ≡ false → (class : Option ℕ) → waits (initialises_class s own class)
      ≡ waits_for s.program (states_in s) s.thread class
  class_waits own goes None = goes
  class_waits own goes (Some class) =
      chain_waits own goes (chain_at s.program (states_in s) class).unused
      (chain_at s.program (states_in s) class).above

  or-false : (a b : Bool) → b ≡ false → a ≡ (a || b)
  or-false true b e = refl
  or-false false b e = sym e

  -- an operation that enters no monitor
  uses_waits : (op : Operation) → awaits_thread s.program courses s.thread h s.frame op ≡ false
      → waits (after_initialising_by_numbers s op (operated s h op))
      ≡ (waits_for s.program (states_in s) s.thread (class_used_by s.program op) || awaits_thread s.program courses
      s.thread h s.frame op)
  uses_waits op none =
      class_waits (operated s h op) (operated_waits op ∙ none) (class_used_by s.program op)
      ∙ or-false (waits_for s.program (states_in s) s.thread (class_used_by s.program op))
      (awaits_thread s.program courses s.thread h s.frame op) none

  pub stepped_waits : (op : Operation) → waits (after_initialising_by_numbers s op (operated s h op))
      ≡ (waits_for s.program (states_in s) s.thread (class_used_by s.program op) || awaits_thread s.program courses
      s.thread h s.frame op)
  stepped_waits (operation.Getstatic n) = uses_waits (operation.Getstatic n) refl
  stepped_waits (operation.Putstatic n) = uses_waits (operation.Putstatic n) refl
  stepped_waits (operation.New n) = uses_waits (operation.New n) refl
  stepped_waits (operation.Invokestatic a b) = uses_waits (operation.Invokestatic a b) refl
  stepped_waits op = operated_waits op

-- the turn waits where it is told of it
pub turn_waits : (program : List ClassListing) (courses : List Course) (w : World) (m : Machine) (t : ℕ)
    (o : Option Frame)
    → w.objects ≡ objects_shown program m.heap.objects → w.statics.states ≡ m.states.items → AreIn courses w.threads
    → waits (completed_at program w t m.heap o) ≡ waits_at program courses m t o
turn_waits program courses w m t None objects states lives = refl
turn_waits program courses w m t (Some f) objects states lives = by f.mark
  where
    op : Operation
    op = (standing program f).operation

    by : (mark : Mark) → waits (marked mark (stepped program w t m.heap f (standing program f)))
        ≡ waits_if mark (waits_by program courses m t f op)
    by Unmarked =
        stepped_waits courses (site_of program w t f (standing program f).next) m.heap objects lives op
        ∙ ap (λ (ss : List ClassState). waits_for program ss t (class_used_by program op)
        || awaits_thread program courses t m.heap f op) states
    by Waiting = refl
    by Failing = refl
