-- Worked rows: what small programs come to, computed from the definitions.
use Rattle.std.proofs.Common.{sym, ◌∙◌, ap}
use Rattle.std.specs.Prelude.{◌≡◌, ℕ, ◌+◌, ℤ, pos, List, [], ◌∷◌, replicate, Some, None, codes, refl, true}
use Rattle.std.specs.Int.{int_wrap}
use Rattle.std.specs.Fmt.{digits}
use Rattle.model.specs.declared.colours.Colour.TheVariants.{White}
use Rattle.model.specs.declared.instructions.Constant.TheVariants.{SmallInt as Small, Int as Number}
use Rattle.model.specs.declared.instructions.SmallInt.TheVariants.{One}
use Rattle.model.specs.declared.instructions.Width.TheVariants.{Narrow}
use Rattle.model.specs.declared.instructions.NumberOperation.TheVariants.{Binary}
use Rattle.model.specs.declared.instructions.NumberKind.TheVariants.{Int as Ints}
use Rattle.model.specs.declared.instructions.Operator.TheVariants.{Add}
use Rattle.model.specs.declared.instructions.Invocation.TheVariants.{Static}
use Rattle.model.specs.declared.instructions.Instruction.TheVariants.{Nop, Constant as Push, Number as Compute, Return}
use Rattle.model.specs.declared.instructions.Instruction.TheVariants.{Invoke}
use Rattle.model.specs.declared.journals.Outcome.TheVariants.{Done as D, Fault as F}
use Rattle.model.specs.declared.journals.Row.{Row}
use Rattle.model.specs.declared.listings.Placed.{Placed}
use Rattle.model.specs.declared.turns.Actor.{Actor}
use Rattle.model.specs.declared.turns.Actor.TheVariants.{Thread}
use Rattle.model.specs.declared.turns.Fault.TheVariants.{StackEmpty, StackFull, NoInstruction}
use Rattle.model.specs.declared.turns.Status.TheVariants.{Running, Finished, Faulted}
use Rattle.model.specs.declared.turns.Turn.TheVariants.{NotReady, Stopped, Fault as TurnFault, OutputFull, StepLimit}
use Rattle.model.specs.ClassListings.{ClassListing}
use Rattle.model.specs.Classes.Builtin.{builtin_classes}
use Rattle.model.specs.Classes.Search.{upwards}
use Rattle.model.specs.Accounts.{after_turn}
use Rattle.model.specs.declared.colours.Cell.TheVariants.{Taken}
use Rattle.model.specs.Table.Next.{Listed, completion, next}
use Rattle.model.specs.Turns.{refusal}
use Rattle.model.specs.Machines.{Recorded, machine_of, after_turn_by, answer_to, after_turns, opened}
use Rattle.model.specs.Observers.{output_of, status_of, fault_of, pick_of, output_full_of}

-- ---- the programs

-- an instruction and its size in bytes
abbrev Sized : Type 0
Sized = ℕ × Listed

abbrev placed_from : ℕ → List Sized → List Placed
placed_from pc [] = []
placed_from pc (i ∷ is) = record { pc = pc; next = pc + i.0; instruction = i.1 } ∷ placed_from (pc + i.0) is

-- a class of this name whose static main has so much stack and no locals
abbrev class_of : List ℕ → ℕ → List Sized → ClassListing
class_of name stack code = record {
  name = name;
  flags = record { 0 = 1 };
  superclass = codes "java/lang/Object";
  interfaces = [];
  fields = [];
  methods = record {
    flags = record { 0 = 9 };
    name = codes "main";
    descriptor = codes "()V";
    code = Some (record { max_stack = stack; max_locals = 0; rows = []; instructions = placed_from 0 code });
  } ∷ [];
}

abbrev ldc : ℤ → Sized
ldc z = (2, Push (Number Narrow z))

abbrev iconst_1 : Sized
iconst_1 = (1, Push (Small One))

abbrev iadd : Sized
iadd = (1, Compute (Binary Ints Add))

abbrev print : Sized
print = (3, Invoke Static (record { class = codes "vm/Sys"; name = codes "print"; descriptor = codes "(I)V" }))

abbrev return : Sized
return = (1, Return None)

-- the empty main, and one that adds 1 to the greatest int and prints the sum
abbrev empty_main : List ClassListing
empty_main = class_of (codes "E") 0 (return ∷ []) ∷ []

abbrev wrapping_sum : List ClassListing
wrapping_sum = class_of (codes "A") 2 (ldc (pos 2147483647) ∷ iconst_1 ∷ iadd ∷ print ∷ return ∷ []) ∷ []

abbrev missing_operand : List ClassListing
missing_operand = class_of (codes "A") 2 (iconst_1 ∷ iadd ∷ []) ∷ []

abbrev no_return : List ClassListing
no_return = class_of (codes "A") 0 ((1, Nop) ∷ []) ∷ []

abbrev no_room : List ClassListing
no_room = class_of (codes "A") 0 (iconst_1 ∷ return ∷ []) ∷ []

-- ---- running them: on two small cells, with these limits, for so many turns of thread 0

abbrev opening : List ClassListing → ℕ → ℕ → Recorded
opening program steps output = opened program (record { small = 2; medium = 0; large = 0 })
    (record { steps = steps; output = output })

abbrev turns : ℕ → List Actor
turns n = replicate n (Thread 0)

abbrev run : List ClassListing → ℕ → ℕ → Recorded
run program output n = after_turns (opening program 1000000 output) (turns n)

abbrev done : Row
done = record { actor = Thread 0; outcome = D; worker = 0 }

abbrev fault : Row
fault = record { actor = Thread 0; outcome = F; worker = 0 }

-- ---- the empty main: one row, no output, the end

empty_main-rows : (run empty_main 65536 1).journal.rows ≡ done ∷ []
unfolding machine_of after_turn_by refusal next completion after_turn upwards builtin_classes int_wrap digits
empty_main-rows = refl

empty_main-output : output_of (run empty_main 65536 1) ≡ []
unfolding machine_of after_turn_by refusal next completion after_turn upwards builtin_classes int_wrap digits
empty_main-output = refl

empty_main-status : status_of (run empty_main 65536 1) ≡ Finished
unfolding machine_of after_turn_by refusal next completion after_turn upwards builtin_classes int_wrap digits
empty_main-status = refl

-- births 1 and 2 have the two cells, white
opening-cells : (machine_of (opening empty_main 1000000 65536)).account.cells ≡ Taken 1 White ∷ Taken 2 White ∷ []
unfolding machine_of
opening-cells = refl

-- ---- the greatest int and 1 are the least int

wrapping_sum-output : output_of (run wrapping_sum 65536 5) ≡ codes "-2147483648\n"
unfolding machine_of after_turn_by refusal next completion after_turn upwards builtin_classes int_wrap digits
wrapping_sum-output = refl

wrapping_sum-rows : (run wrapping_sum 65536 5).journal.rows ≡ replicate 5 done
unfolding machine_of after_turn_by refusal next completion after_turn upwards builtin_classes int_wrap digits
wrapping_sum-rows = refl

wrapping_sum-status : status_of (run wrapping_sum 65536 5) ≡ Finished
unfolding machine_of after_turn_by refusal next completion after_turn upwards builtin_classes int_wrap digits
wrapping_sum-status = refl

wrapping_sum-midway : status_of (run wrapping_sum 65536 4) ≡ Running
unfolding machine_of after_turn_by refusal next completion after_turn upwards builtin_classes int_wrap digits
wrapping_sum-midway = refl

-- 12 bytes fit into 12
wrapping_sum-fits : output_of (run wrapping_sum 12 5) ≡ codes "-2147483648\n"
unfolding machine_of after_turn_by refusal next completion after_turn upwards builtin_classes int_wrap digits
wrapping_sum-fits = refl

-- and not into 11: the fourth turn, the print, is refused and changes nothing, and so is the fifth
wrapping_sum-full : answer_to (run wrapping_sum 11 3) (Thread 0) 0 ≡ OutputFull
unfolding machine_of after_turn_by answer_to refusal next completion after_turn upwards builtin_classes int_wrap digits
wrapping_sum-full = refl

wrapping_sum-full_again : answer_to (run wrapping_sum 11 4) (Thread 0) 0 ≡ OutputFull
unfolding machine_of after_turn_by answer_to refusal next completion after_turn upwards builtin_classes int_wrap digits
wrapping_sum-full_again = refl

-- the world after three turns, by its rows
abbrev three_turns : Recorded
three_turns = record {
  program = wrapping_sum;
  journal = record (opening wrapping_sum 1000000 11).journal
      { rows = replicate 3 done };
}

wrapping_sum-third : run wrapping_sum 11 3 ≡ three_turns
unfolding machine_of after_turn_by refusal next completion after_turn upwards builtin_classes int_wrap digits
wrapping_sum-third = refl

wrapping_sum-refused : after_turns three_turns (turns 2) ≡ three_turns
unfolding machine_of after_turn_by refusal next completion after_turn upwards builtin_classes int_wrap digits
wrapping_sum-refused = refl

wrapping_sum-unchanged : run wrapping_sum 11 5 ≡ run wrapping_sum 11 3
wrapping_sum-unchanged = ap (λ (v : Recorded). after_turns v (turns 2)) wrapping_sum-third ∙ wrapping_sum-refused
    ∙ sym wrapping_sum-third

wrapping_sum-output_full : output_full_of (run wrapping_sum 11 5) ≡ true
unfolding machine_of after_turn_by refusal next completion after_turn upwards builtin_classes int_wrap digits
wrapping_sum-output_full = refl

-- ---- an operand is missing: the second row is a fault, F1

missing_operand-rows : (run missing_operand 65536 2).journal.rows ≡ done ∷ fault ∷ []
unfolding machine_of after_turn_by refusal next completion after_turn upwards builtin_classes int_wrap digits
missing_operand-rows = refl

missing_operand-fault : fault_of (run missing_operand 65536 2) ≡ Some (StackEmpty, 0)
unfolding machine_of after_turn_by refusal next completion after_turn upwards builtin_classes int_wrap digits
missing_operand-fault = refl

missing_operand-answer : answer_to (run missing_operand 65536 1) (Thread 0) 0 ≡ TurnFault StackEmpty
unfolding machine_of after_turn_by answer_to refusal next completion after_turn upwards builtin_classes int_wrap digits
missing_operand-answer = refl

missing_operand-status : status_of (run missing_operand 65536 2) ≡ Faulted
unfolding machine_of after_turn_by refusal next completion after_turn upwards builtin_classes int_wrap digits
missing_operand-status = refl

-- a turn after the fault
missing_operand-stopped : answer_to (run missing_operand 65536 2) (Thread 0) 0 ≡ Stopped
unfolding machine_of after_turn_by answer_to refusal next completion after_turn upwards builtin_classes int_wrap digits
missing_operand-stopped = refl

-- ---- a main without a return: F5 after its last instruction

no_return-fault : fault_of (run no_return 65536 2) ≡ Some (NoInstruction, 0)
unfolding machine_of after_turn_by refusal next completion after_turn upwards builtin_classes int_wrap digits
no_return-fault = refl

-- ---- a stack past its limit: F2

no_room-fault : fault_of (run no_room 65536 1) ≡ Some (StackFull, 0)
unfolding machine_of after_turn_by refusal next completion after_turn upwards builtin_classes int_wrap digits
no_room-fault = refl

-- ---- the other answers

-- at the step limit
one_step : answer_to (after_turns (opening wrapping_sum 1 65536) (turns 1)) (Thread 0) 0 ≡ StepLimit
unfolding machine_of after_turn_by answer_to refusal next completion after_turn upwards builtin_classes int_wrap digits
one_step = refl

-- a thread that was never started, one that has ended, and the collector, which has no turn yet
never_started : answer_to (opening empty_main 1000000 65536) (Thread 1) 0 ≡ NotReady
unfolding machine_of after_turn_by answer_to refusal next completion after_turn upwards builtin_classes int_wrap digits
never_started = refl

has_ended : answer_to (run empty_main 65536 1) (Thread 0) 0 ≡ NotReady
unfolding machine_of after_turn_by answer_to refusal next completion after_turn upwards builtin_classes int_wrap digits
has_ended = refl

-- the thread to go on with: thread 0 until it ends
picked : pick_of (run wrapping_sum 65536 2) ≡ Some 0
unfolding machine_of after_turn_by refusal next completion after_turn upwards builtin_classes int_wrap digits
picked = refl

none_picked : pick_of (run wrapping_sum 65536 5) ≡ None
unfolding machine_of after_turn_by refusal next completion after_turn upwards builtin_classes int_wrap digits
none_picked = refl
