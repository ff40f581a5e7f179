-- Programs with an array, and one that catches what the machine throws, run whole.
use Rattle.std.specs.Prelude.{◌≡◌, pos, List, [], ◌∷◌, Some, None, codes, refl}
use Rattle.std.specs.Int.{int_wrap}
use Rattle.std.specs.Fmt.{digits}
use Rattle.model.specs.declared.instructions.ArrayOperation.TheVariants.{New, Load, Store}
use Rattle.model.specs.declared.instructions.ClassOperation.TheVariants.{InstanceOf}
use Rattle.model.specs.declared.instructions.Constant.TheVariants.{SmallInt, Byte, Short}
use Rattle.model.specs.declared.instructions.ElementKind.TheVariants.{Byte as ByteElement}
use Rattle.model.specs.declared.instructions.Instruction.TheVariants.{Constant, Array, Class, Number, Stack}
use Rattle.model.specs.declared.instructions.NumberKind.TheVariants.{Int as Ints}
use Rattle.model.specs.declared.instructions.NumberOperation.TheVariants.{Binary}
use Rattle.model.specs.declared.instructions.Operator.TheVariants.{Div}
use Rattle.model.specs.declared.instructions.Primitive.TheVariants.{Byte as Bytes, Int as AllInts}
use Rattle.model.specs.declared.instructions.SmallInt.TheVariants.{Zero, One, Two}
use Rattle.model.specs.declared.instructions.StackOperation.TheVariants.{Dup, Pop}
use Rattle.model.specs.declared.journals.HeapShape.{HeapShape}
use Rattle.model.specs.declared.journals.Outcome.TheVariants.{Done, NoRoom}
use Rattle.model.specs.declared.turns.Actor.TheVariants.{Thread}
use Rattle.model.specs.ClassListings.{ClassListing}
use Rattle.model.specs.Accounts.{after_turn, shade}
use Rattle.model.specs.Classes.Builtin.{builtin_classes}
use Rattle.model.specs.Classes.Search.{upwards}
use Rattle.model.specs.Classes.Subclasses.{is_within}
use Rattle.model.specs.Classes.Types.{is_subtype_within}
use Rattle.model.specs.Machines.{Recorded, Machine, machine_of, after_turn_by, after_turns, opened, opening_machine}
use Rattle.model.specs.Observers.{thread_of}
use Rattle.model.specs.Table.Next.{completion, next}
use Rattle.model.specs.Turns.{refusal}
use Rattle.model.specs.Worlds.Thread.{Ended}
use Rattle.model.specs.Collector.Runs.{moved_by, moved_by_all}
use Rattle.model.proofs.TableRows.Listings.{Sized, print, return, ample}
use Rattle.model.proofs.TableRows.Stages.{class_of, small, thread}

abbrev iconst_0 : Sized
iconst_0 = (1, Constant (SmallInt Zero))

abbrev newarray_int : Sized
newarray_int = (2, Array (New AllInts))

-- ---- a byte array keeps the low 8 bits of 200

abbrev bytes : List ClassListing
bytes = class_of (codes "A") [] 4 0 []
    ((1, Constant (SmallInt Two)) ∷ (2, Array (New Bytes)) ∷ (1, Stack Dup) ∷ iconst_0 ∷ (3, Constant (Short (pos 200)))
    ∷
    (1, Array (Store ByteElement)) ∷ iconst_0 ∷ (1, Array (Load ByteElement)) ∷ print ∷ return ∷ []) ∷ []

abbrev bytes_run : Machine
bytes_run = moved_by_all bytes (small 3) ample (opening_machine bytes (small 3)) (thread 10)

bytes-output : bytes_run.world.output ≡ codes "-56\n"
unfolding moved_by refusal next completion after_turn shade builtin_classes upwards int_wrap digits
bytes-output = refl

bytes-end : bytes_run.world.threads ≡ Ended None ∷ []
unfolding moved_by refusal next completion after_turn shade builtin_classes upwards int_wrap digits
bytes-end = refl

-- ---- five ints want five words, and cells of four have no room: what is thrown was made before the run

abbrev five : List ClassListing
five = class_of (codes "A") [] 1 0 [] ((2, Constant (Byte (pos 5))) ∷ newarray_int ∷ return ∷ []) ∷ []

abbrev five_run : Recorded
five_run = after_turns (opened five (small 64) ample) (thread 2)

five-rows : five_run.journal.rows ≡ record { actor = Thread 0; outcome = Done; worker = 0 } ∷ record {
  actor = Thread 0;
  outcome = NoRoom;
  worker = 0;
} ∷ []
unfolding machine_of after_turn_by refusal next completion after_turn shade
five-rows = refl

five-end : thread_of five_run 0 ≡ Some (Ended (Some (codes "java/lang/OutOfMemoryError")))
unfolding machine_of after_turn_by refusal next completion after_turn shade
five-end = refl

-- ---- whatever a division by 0 throws is caught and tested: where no cell is left for the exception, it is
-- OutOfMemoryError; a medium cell serves too. The rows' pcs: A is 0, B 3, H 5

abbrev caught : List ClassListing
caught = class_of (codes "A") [] 2 0 (record { start = 0; end = 3; handler = 5; class = None } ∷ [])
    ((1, Constant (SmallInt One)) ∷ iconst_0 ∷ (1, Number (Binary Ints Div)) ∷ (1, Stack Pop) ∷ return ∷
    (3, Class InstanceOf (codes "java/lang/OutOfMemoryError")) ∷ print ∷ return ∷ []) ∷ []

abbrev two_medium : HeapShape
two_medium = record { small = 2; medium = 1; large = 0 }

abbrev caught_run : HeapShape → Machine
caught_run shape = moved_by_all caught shape ample (opening_machine caught shape) (thread 6)

caught-without_room : (caught_run (small 2)).world.output ≡ codes "1\n"
unfolding moved_by refusal next completion after_turn shade builtin_classes upwards is_within is_subtype_within digits
caught-without_room = refl

caught-with_room : (caught_run two_medium).world.output ≡ codes "0\n"
unfolding moved_by refusal next completion after_turn shade builtin_classes upwards is_within is_subtype_within digits
caught-with_room = refl

caught-end : (caught_run two_medium).world.threads ≡ Ended None ∷ []
unfolding moved_by refusal next completion after_turn shade builtin_classes upwards is_within is_subtype_within digits
caught-end = refl
