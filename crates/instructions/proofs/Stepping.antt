-- What the turn of a thread comes to is what the instruction table says.
use Rattle.std.proofs.Common.{◌≡◌, inl, inr, ℕ, ℤ, List, length, Bool, true, false, Option, Some, None, refl, ap, subst}
use Rattle.std.proofs.Common.{sym, ◌∙◌}
use Rattle.std.specs.Prelude.{if◌then◌else◌}
use Rattle.std.specs.List.{list_all}
use Rattle.std.specs.Option.{option_map, option_and_then}
use Rattle.model.specs.declared.instructions.Access.{Access}
use Rattle.model.specs.declared.instructions.Access.TheVariants.{Get, Put}
use Rattle.model.specs.declared.instructions.ArrayOperation.TheVariants.{New as NewArray, NewOf, Length, Load, Store}
use Rattle.model.specs.declared.instructions.ClassOperation.TheVariants.{New as NewObject, CheckCast, InstanceOf}
use Rattle.model.specs.declared.instructions.ElementKind.TheVariants as element
use Rattle.model.specs.declared.instructions.Instruction.TheVariants.{Nop, Constant, Local, Stack, Number, Branch}
use Rattle.model.specs.declared.instructions.Instruction.TheVariants.{TableSwitch, LookupSwitch, Return}
use Rattle.model.specs.declared.instructions.Instruction.TheVariants.{Static as StaticField, Field as FieldOf}
use Rattle.model.specs.declared.instructions.Instruction.TheVariants.{Array as ArrayOf, Class as ClassOf, Invoke, Throw}
use Rattle.model.specs.declared.instructions.Instruction.TheVariants.{Monitor}
use Rattle.model.specs.declared.instructions.Constant.TheVariants.{Null, SmallInt, SmallLong, Byte, Short}
use Rattle.model.specs.declared.instructions.Constant.TheVariants.{Int as IntConstant, Long as LongConstant}
use Rattle.model.specs.declared.instructions.Invocation.{Invocation}
use Rattle.model.specs.declared.instructions.LookupSwitch.{LookupSwitch as LookupSwitchOf}
use Rattle.model.specs.declared.instructions.TableSwitch.{TableSwitch as TableSwitchOf}
use Rattle.model.specs.declared.instructions.MonitorOperation.{MonitorOperation}
use Rattle.model.specs.declared.instructions.MonitorOperation.TheVariants.{Enter, Exit}
use Rattle.model.specs.declared.listings.Placed.{Placed}
use Rattle.model.specs.declared.names.Member.{Member}
use Rattle.model.specs.declared.turns.Fault.TheVariants.{NoInstruction}
use Rattle.model.specs.declared.turns.Mark.{Mark}
use Rattle.model.specs.declared.turns.Mark.TheVariants.{Unmarked, Waiting, Failing}
use Rattle.model.specs.declared.values.Kind.{Kind}
use Rattle.model.specs.declared.values.Kind.TheVariants.{Int, Long, Ref}
use Rattle.model.specs.declared.values.Value.{Value}
use Rattle.model.specs.Accepted.Refusals.{refusal_of}
use Rattle.model.specs.ClassListings.{ClassListing}
use Rattle.model.specs.CodeListings.{CodeListing}
use Rattle.model.specs.Completions.{Site, prints, waits}
use Rattle.model.specs.Completions.Completion.{Faults}
use Rattle.model.specs.Frames.{Frame, running}
use Rattle.model.specs.Classes.Resolution.{resolved_field}
use Rattle.model.specs.Classes.Special.{superclass_at}
use Rattle.model.specs.Programs.{code_at, instruction_of, placed_at}
use Rattle.model.specs.Table.Initialisation.{after_initialising}
use Rattle.model.specs.Table.Next.{Listed, class_used, completion, by_family, at_frame, at_instruction, at_mark}
use Rattle.model.specs.Turns.{print_of}
use Rattle.model.specs.WellNamed.{is_well_named}
use Rattle.model.specs.Worlds.{World, frames_at, opening_slots}
use Rattle.loader.specs.declared.programs.Step.{Step}
use Rattle.linking.specs.declared.operations.Operation.{Operation}
use Rattle.linking.specs.declared.operations.Operation.TheVariants as operation
use Rattle.linking.specs.declared.operations.TypeNumber.{TypeNumber}
use Rattle.linking.specs.Operations.{operation_of, or_resolved}
use Rattle.linking.specs.PlainOperations.{is_32_bits}
use Rattle.linking.specs.ResolvedOperations.{accesses_slot, accesses_word, call_operation, casts, makes_array}
use Rattle.linking.specs.ResolvedOperations.{makes_object, slot_number, tests_type, type_of, word_named}
use Rattle.loader.specs.Steps.{step_of, step_in}
use Rattle.loader.specs.StepLists.{step_or_none}
use Rattle.plain_steps.specs.Plain.{is_plain}
use Rattle.plain_steps.specs.PlainMoves.{plain_move}
use Rattle.plain_steps.proofs.TableLemmas.{by_family-plain, direct_move}
use Rattle.resolve.specs.Numbers.{class_number}
use Rattle.instructions.specs.declared.kinds.Course.{Course}
use Rattle.instructions.specs.declared.machines.Machine.{Machine}
use Rattle.instructions.specs.Acting.{AreIn, site_of}
use Rattle.instructions.specs.Aside.{aside_move}
use Rattle.instructions.specs.ByNumbers.{AreStored, IsNumbered, operated_by_numbers}
use Rattle.instructions.specs.CallsByNumbers.{is_call}
use Rattle.instructions.specs.Heaps.{HeapValue}
use Rattle.instructions.specs.NamedThings.{goes_by_name, goes_by_type}
use Rattle.instructions.specs.Operated.{aside_at, completed_at, marked, moved_or, operated, operated_on_calls}
use Rattle.instructions.specs.Operated.{printed_at, standing, stepped, waits_at}
use Rattle.instructions.specs.OwnCalls.{operated_by_calls, own_call}
use Rattle.instructions.specs.Shown.{keyed, objects_shown}
use Rattle.instructions.specs.TypesByNumbers.{operated_by_types}
use Rattle.instructions.proofs.ByNumberLemmas.{code-by_numbers}
use Rattle.instructions.proofs.CodeCalls.{IsCallIfValid, call-is, code-call}
use Rattle.instructions.proofs.InitialisingAgreement.{code-initialises}
use Rattle.instructions.proofs.MonitorAgreement.{monitor_agrees}
use Rattle.instructions.proofs.StartAgreement.{own-alike}
use Rattle.instructions.proofs.Silent.{turn_prints, turn_waits}
use Rattle.instructions.proofs.ThrowAgreement.{throw_agrees}
use Rattle.instructions.proofs.TypeAgreement.{code-by_types}

-- the step of an instruction in code of a class that has this superclass, if there is one
abbrev pub step_for : List ClassListing → List ℕ → Option Placed → Step
step_for program superclass i = step_or_none (option_map (step_of program superclass) i)

-- the step at a frame's method and pc is that of the instruction at which the frame stands
step-of_instruction : (program : List ClassListing) (superclass : List ℕ) (o : Option CodeListing) (pc : ℕ)
    → step_or_none (option_and_then (λ (code : CodeListing). step_in (step_of program superclass) code.instructions pc)
    o)
    ≡ step_for program superclass (option_and_then (λ (code : CodeListing). placed_at code pc) o)
step-of_instruction program superclass None pc = refl
step-of_instruction program superclass (Some code) pc = refl

step_stands : (program : List ClassListing) (f : Frame)
    → standing program f ≡ step_for program (superclass_at program f.method.class) (instruction_of program f)
step_stands program f = step-of_instruction program (superclass_at program f.method.class) (code_at program f.method)
    f.pc

-- ---- each family's operations are carried out as that family's

slot_stays : (s : Site) (h : HeapValue) (access : Access) (o : Option ℕ)
    → operated_by_numbers s h (accesses_slot access o) ≡ operated s h (accesses_slot access o)
unfolding plain_move
slot_stays s h access None = refl
slot_stays s h Get (Some n) = refl
slot_stays s h Put (Some n) = refl

word_stays : (s : Site) (h : HeapValue) (access : Access) (o : Option (ℕ × (ℕ × ℕ)))
    → operated_by_numbers s h (accesses_word access o) ≡ operated s h (accesses_word access o)
unfolding plain_move
word_stays s h access None = refl
word_stays s h Get (Some n) = refl
word_stays s h Put (Some n) = refl

new_stays : (s : Site) (h : HeapValue) (o : Option ℕ) → operated_by_numbers s h (makes_object o)
    ≡ operated s h (makes_object o)
unfolding plain_move
new_stays s h None = refl
new_stays s h (Some n) = refl

named_stays : (s : Site) (h : HeapValue) (superclass : List ℕ) (i : Listed) → goes_by_name i ≡ true
    → operated_by_numbers s h (operation_of s.program superclass i) ≡ operated s h (operation_of s.program superclass i)
named_stays s h superclass (StaticField access m) e = slot_stays s h access (option_and_then (slot_number s.program)
    (resolved_field s.program m))
named_stays s h superclass (FieldOf access m) e = word_stays s h access (word_named s.program m)
named_stays s h superclass (ClassOf NewObject name) e = new_stays s h (class_number s.program name)
named_stays s h superclass _ e = cc

array_stays : (s : Site) (h : HeapValue) (o : Option TypeNumber) → operated_by_types s h (makes_array o)
    ≡ operated s h (makes_array o)
unfolding plain_move
array_stays s h None = refl
array_stays s h (Some t) = refl

cast_stays : (s : Site) (h : HeapValue) (o : Option TypeNumber) → operated_by_types s h (casts o)
    ≡ operated s h (casts o)
unfolding plain_move
cast_stays s h None = refl
cast_stays s h (Some t) = refl

test_stays : (s : Site) (h : HeapValue) (o : Option TypeNumber) → operated_by_types s h (tests_type o)
    ≡ operated s h (tests_type o)
unfolding plain_move
test_stays s h None = refl
test_stays s h (Some t) = refl

typed_stays : (s : Site) (h : HeapValue) (superclass : List ℕ) (i : Listed) → goes_by_type i ≡ true
    → operated_by_types s h (operation_of s.program superclass i) ≡ operated s h (operation_of s.program superclass i)
unfolding plain_move
typed_stays s h superclass (ArrayOf (NewArray primitive)) e = refl
typed_stays s h superclass (ArrayOf (NewOf name)) e = array_stays s h (type_of s.program name)
typed_stays s h superclass (ArrayOf Length) e = refl
typed_stays s h superclass (ArrayOf (Load element.Int)) e = refl
typed_stays s h superclass (ArrayOf (Load element.Long)) e = refl
typed_stays s h superclass (ArrayOf (Load element.Ref)) e = refl
typed_stays s h superclass (ArrayOf (Load element.Byte)) e = refl
typed_stays s h superclass (ArrayOf (Load element.Char)) e = refl
typed_stays s h superclass (ArrayOf (Load element.Short)) e = refl
typed_stays s h superclass (ArrayOf (Store element.Int)) e = refl
typed_stays s h superclass (ArrayOf (Store element.Long)) e = refl
typed_stays s h superclass (ArrayOf (Store element.Ref)) e = refl
typed_stays s h superclass (ArrayOf (Store element.Byte)) e = refl
typed_stays s h superclass (ArrayOf (Store element.Char)) e = refl
typed_stays s h superclass (ArrayOf (Store element.Short)) e = refl
typed_stays s h superclass (ClassOf CheckCast name) e = cast_stays s h (type_of s.program name)
typed_stays s h superclass (ClassOf InstanceOf name) e = test_stays s h (type_of s.program name)
typed_stays s h superclass _ e = cc

call_stays : (s : Site) (h : HeapValue) (op : Operation) → is_call op ≡ true → operated_by_calls s h op
    ≡ operated s h op
unfolding plain_move
call_stays s h (operation.Invokestatic a b) e = refl
call_stays s h (operation.Invokevirtual a b) e = refl
call_stays s h (operation.Invokespecial a b c) e = refl
call_stays s h (operation.Invokenone a b c) e = refl
call_stays s h operation.PrintInt e = refl
call_stays s h operation.PrintLong e = refl
call_stays s h operation.PutByte e = refl
call_stays s h _ e = cc

-- ---- the instruction table

-- what holds of the world of an accepted program that the code keeps by numbers
pub record IsKept (program : List ClassListing) (w : World) (h : HeapValue) : Type 0 where
  pub accepted : refusal_of program ≡ None
  pub names : list_all is_well_named program ≡ true
  pub slots : List Value
  pub objects_are : w.objects ≡ objects_shown program h.objects
  pub stored : AreStored program h.objects
  pub fields_are : w.statics.fields ≡ keyed (opening_slots program) slots
  pub slots_fit : length slots ≡ length (opening_slots program)
  pub sized : length w.statics.states ≡ length program

and_then-some : {A B : Type 0} (f : A → Option B) (o : Option A) (y : B) → option_and_then f o ≡ Some y
    → (x : A) × (o ≡ Some x) × (f x ≡ Some y)
and_then-some f None y e = cc
and_then-some f (Some x) y e = (x, refl, e)

module _ (program : List ClassListing) (w : World) (t : ℕ) (h : HeapValue) (f : Frame) where
  -- the superclass of the class whose code runs
  abbrev above : List ℕ
  above = superclass_at program f.method.class

  abbrev site : ℕ → Site
  site n = site_of program w t f n

  -- what the table says of an instruction is what its operation comes to
  abbrev Agree : ℕ → Listed → Type 0
  Agree n i = by_family (site n) i ≡ operated (site n) h (operation_of program above i)

  plain_agrees : (n : ℕ) (i : Listed) → is_plain i ≡ true → Agree n i
  plain_agrees n i e =
      let d = direct_move n f i e in
      by_family-plain (site n) i d.0 d.1 d.2 d.3
      ∙ sym (ap (λ o. moved_or (site n) o (operated_on_calls (site n) h d.0)) d.3)
      ∙ sym (ap (λ o. operated (site n) h (or_resolved program above i o)) d.2)

  returned_agrees : (n : ℕ) (kind : Option Kind) → Agree n (Return kind)
  unfolding plain_move
  returned_agrees n None = refl
  returned_agrees n (Some Int) = refl
  returned_agrees n (Some Long) = refl
  returned_agrees n (Some Ref) = refl

  module _ (kept : IsKept program w h) where
    numbered : (n : ℕ) → IsNumbered (site n) h kept.slots
    numbered n = record {
      objects_are = kept.objects_are;
      stored = kept.stored;
      fields_are = kept.fields_are;
      slots_fit = kept.slots_fit;
    }

    thrown_agrees : (n : ℕ) → Agree n Throw
    unfolding plain_move
    thrown_agrees n = throw_agrees (site n) h kept.slots (numbered n) kept.accepted

    monitor_stays : (n : ℕ) (operation : MonitorOperation) → Agree n (Monitor operation)
    unfolding plain_move
    monitor_stays n Enter = monitor_agrees (site n) h kept.slots (numbered n) kept.accepted Enter
    monitor_stays n Exit = monitor_agrees (site n) h kept.slots (numbered n) kept.accepted Exit

    -- at an instruction of the frame's code
    module _ (i : Placed) (code : CodeListing) (there : code_at program f.method ≡ Some code) (at : placed_at code f.pc
        ≡ Some i) where
      abbrev n : ℕ
      n = i.next

      named_agrees : goes_by_name i.instruction ≡ true → Agree n i.instruction
      named_agrees named =
          (code-by_numbers (site n) h kept.slots (numbered n) kept.accepted above f.method code f.pc i there at
          named).same
          ∙ named_stays (site n) h above i.instruction named

      typed_agrees : goes_by_type i.instruction ≡ true → Agree n i.instruction
      typed_agrees typed =
          (code-by_types (site n) h kept.slots (numbered n) kept.accepted kept.names above f.method code f.pc i there at
          typed).same
          ∙ typed_stays (site n) h above i.instruction typed

      called_agrees : (invocation : Invocation) (m : Member) → i.instruction ≡ Invoke invocation m
          → Agree n (Invoke invocation m)
      called_agrees invocation m is =
          let agrees = code-call (own_call h) (site n) h kept.slots (numbered n) kept.accepted kept.names code f.pc i
          invocation m there at is
          (own-alike (site n) h kept.objects_are kept.accepted kept.names m) in
          agrees.same ∙ call_stays (site n) h (call_operation program above invocation m) (call_is_call agrees.valid)
        where
          call_is_call : (call_operation program above invocation m ≡ operation.Invalid → ⊥)
              → is_call (call_operation program above invocation m) ≡ true
          call_is_call valid = by (call-is program above invocation m)
            where
              by : IsCallIfValid (call_operation program above invocation m)
                  → is_call (call_operation program above invocation m) ≡ true
              by (inl call) = call
              by (inr invalid) = absurd (valid invalid)

      -- the instruction that stands aside is the one that is there
      aside_operated : (j : Listed) → i.instruction ≡ j → operated (site n) h operation.Aside
          ≡ moved_or (site n) (aside_move n j f) (Faults NoInstruction)
      unfolding plain_move
      aside_operated j is =
          let found : instruction_of program f ≡ Some i = rw there at in
          ap (aside_at (site n)) found ∙ ap (λ j. moved_or (site n) (aside_move n j f) (Faults NoInstruction)) is

      table_agrees : (table : TableSwitchOf ℕ) → i.instruction ≡ TableSwitch table → Agree n (TableSwitch table)
      table_agrees table is = sym (aside_operated (TableSwitch table) is)

      lookup_agrees : (lookup : LookupSwitchOf ℕ) → i.instruction ≡ LookupSwitch lookup → Agree n (LookupSwitch lookup)
      lookup_agrees lookup is = sym (aside_operated (LookupSwitch lookup) is)

      -- a long of 32 bits has an operation of its own
      long_agrees : (z : ℤ) → i.instruction ≡ Constant (LongConstant z) → Agree n (Constant (LongConstant z))
      unfolding plain_move
      long_agrees z is = by (is_32_bits z)
        where
          by : (b : Bool) → by_family (site n) (Constant (LongConstant z))
              ≡ operated (site n) h (if b then operation.Lconst z else operation.Aside)
          by true = refl
          by false = sym (aside_operated (Constant (LongConstant z)) is)

      placed_agrees : (j : Listed) → i.instruction ≡ j → Agree n j
      placed_agrees Nop is = plain_agrees n Nop refl
      placed_agrees (Constant Null) is = plain_agrees n (Constant Null) refl
      placed_agrees (Constant (SmallInt k)) is = plain_agrees n (Constant (SmallInt k)) refl
      placed_agrees (Constant (SmallLong k)) is = plain_agrees n (Constant (SmallLong k)) refl
      placed_agrees (Constant (Byte z)) is = plain_agrees n (Constant (Byte z)) refl
      placed_agrees (Constant (Short z)) is = plain_agrees n (Constant (Short z)) refl
      placed_agrees (Constant (IntConstant width z)) is = plain_agrees n (Constant (IntConstant width z)) refl
      placed_agrees (Constant (LongConstant z)) is = long_agrees z is
      placed_agrees (Local access) is = plain_agrees n (Local access) refl
      placed_agrees (Stack operation) is = plain_agrees n (Stack operation) refl
      placed_agrees (Number operation) is = plain_agrees n (Number operation) refl
      placed_agrees (Branch test target) is = plain_agrees n (Branch test target) refl
      placed_agrees (TableSwitch table) is = table_agrees table is
      placed_agrees (LookupSwitch lookup) is = lookup_agrees lookup is
      placed_agrees (Return kind) is = returned_agrees n kind
      placed_agrees (StaticField access m) is = subst (Agree n) is (named_agrees (ap goes_by_name is))
      placed_agrees (FieldOf access m) is = subst (Agree n) is (named_agrees (ap goes_by_name is))
      placed_agrees (ArrayOf operation) is = subst (Agree n) is (typed_agrees (ap goes_by_type is))
      placed_agrees (ClassOf NewObject name) is = subst (Agree n) is (named_agrees (ap goes_by_name is))
      placed_agrees (ClassOf CheckCast name) is = subst (Agree n) is (typed_agrees (ap goes_by_type is))
      placed_agrees (ClassOf InstanceOf name) is = subst (Agree n) is (typed_agrees (ap goes_by_type is))
      placed_agrees (Invoke invocation m) is = called_agrees invocation m is
      placed_agrees Throw is = thrown_agrees n
      placed_agrees (Monitor operation) is = monitor_stays n operation

      -- the class that it uses is initialised first
      site_agrees : after_initialising (site n) (class_used program i.instruction) (by_family (site n) i.instruction)
          ≡ stepped program w t h f (step_for program above (Some i))
      site_agrees =
          ap (after_initialising (site n) (class_used program i.instruction)) (placed_agrees i.instruction refl)
          ∙ code-initialises (site n) kept.accepted kept.sized above
          (operated (site n) h (operation_of program above i.instruction)) f.method code f.pc i there at

    at_agrees : (i : Option Placed) → instruction_of program f ≡ i → at_instruction program w t f i
        ≡ stepped program w t h f (step_for program above i)
    unfolding plain_move
    at_agrees None e = refl
    at_agrees (Some i) e =
        let code = and_then-some (λ (code : CodeListing). placed_at code f.pc) (code_at program f.method) i e in
        site_agrees i code.0 code.1 code.2

    marked_agrees : (m : Mark) → at_mark program w t f m ≡ marked m (stepped program w t h f (standing program f))
    marked_agrees Unmarked = at_agrees (instruction_of program f) refl
        ∙ ap (stepped program w t h f) (sym (step_stands program f))
    marked_agrees Waiting = refl
    marked_agrees Failing = refl

module _ (program : List ClassListing) (w : World) (t : ℕ) (h : HeapValue) (kept : IsKept program w h) where
  pub completion_completed : completion program w t ≡ completed_at program w t h (running (frames_at w t))
  unfolding completion
  completion_completed = by (running (frames_at w t))
    where
      by : (o : Option Frame) → at_frame program w t o ≡ completed_at program w t h o
      by None = refl
      by (Some f) = marked_agrees program w t h f kept f.mark

  pub print_completed : print_of program w t ≡ printed_at program (running (frames_at w t))
  print_completed = ap prints completion_completed ∙ turn_prints program w t h (running (frames_at w t))

-- whether the turn waits, of the machine's parts
pub waits_completed : (program : List ClassListing) (courses : List Course) (w : World) (m : Machine) (t : ℕ)
    → IsKept program w m.heap
    → w.statics.states ≡ m.states.items → AreIn courses w.threads
    → waits (completion program w t) ≡ waits_at program courses m t (running (frames_at w t))
waits_completed program courses w m t kept states lives =
    ap waits (completion_completed program w t m.heap kept)
    ∙ turn_waits program courses w m t (running (frames_at w t)) kept.objects_are states lives
