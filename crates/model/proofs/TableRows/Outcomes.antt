-- Runs of the machine that tell the outcome of each turn, and what programs with class initializers are written with.
use Rattle.std.proofs.Common.{◌≡◌, ◌∙◌, ap, refl}
use Rattle.std.specs.Prelude.{ℕ, pos, List, [], ◌∷◌, ◌++◌, map, replicate, Option, Some, None, codes}
use Rattle.model.specs.declared.colours.Colour.TheVariants.{White, Grey}
use Rattle.model.specs.declared.colours.Phase.TheVariants.{Idle}
use Rattle.model.specs.declared.instructions.Access.TheVariants.{Get, Put}
use Rattle.model.specs.declared.instructions.ClassOperation.TheVariants.{New}
use Rattle.model.specs.declared.instructions.Constant.TheVariants.{SmallInt, Byte}
use Rattle.model.specs.declared.instructions.Instruction.TheVariants.{Class, Constant, Invoke, Number, Stack}
use Rattle.model.specs.declared.instructions.Instruction.TheVariants.{Static as StaticField, Throw}
use Rattle.model.specs.declared.instructions.Invocation.TheVariants.{Static}
use Rattle.model.specs.declared.instructions.NumberKind.TheVariants.{Int as Ints}
use Rattle.model.specs.declared.instructions.NumberOperation.TheVariants.{Binary}
use Rattle.model.specs.declared.instructions.Operator.TheVariants.{Div}
use Rattle.model.specs.declared.instructions.SmallInt.TheVariants.{Zero, One, Two}
use Rattle.model.specs.declared.instructions.StackOperation.TheVariants.{Pop}
use Rattle.model.specs.declared.journals.HeapShape.{HeapShape}
use Rattle.model.specs.declared.journals.Outcome.{Outcome}
use Rattle.model.specs.declared.journals.Outcome.TheVariants.{Done}
use Rattle.model.specs.declared.journals.Row.{Row}
use Rattle.model.specs.declared.listings.ExceptionRow.{ExceptionRow}
use Rattle.model.specs.declared.listings.Field.{Field}
use Rattle.model.specs.declared.listings.Method.{Method}
use Rattle.model.specs.declared.turns.Actor.TheVariants.{Thread as ByThread}
use Rattle.model.specs.declared.turns.ClassState.{ClassState}
use Rattle.model.specs.declared.turns.Mark.TheVariants.{Failing}
use Rattle.model.specs.declared.values.Value.{Value}
use Rattle.model.specs.declared.values.Value.TheVariants.{Int}
use Rattle.model.specs.Accounts.{Account}
use Rattle.model.specs.declared.colours.Cell.{Cell}
use Rattle.model.specs.declared.colours.Cell.TheVariants.{Free, Taken}
use Rattle.model.specs.ClassListings.{ClassListing}
use Rattle.model.specs.CodeListings.{CodeListing}
use Rattle.model.specs.Collector.Runs.{advance_if, moved_by, moved_by_all}
use Rattle.model.specs.Frames.{Frame}
use Rattle.model.specs.Machines.{Machine, advance, opening_machine, row_by}
use Rattle.model.specs.Worlds.{World, Thread, Object, FieldValue, opening_objects}
use Rattle.model.proofs.TableRows.Listings.{Sized, ample}
use Rattle.model.proofs.TableRows.Sites.{class, frame, member, method, place}
use Rattle.model.proofs.TableRows.Stages.{account}

-- ---- runs

-- a machine, and what came of each turn that led to it: none where a turn was refused
pub record Played : Type 0 where
  pub machine : Machine
  pub outcomes : List (Option Outcome)

abbrev pub turned : List ClassListing → HeapShape → Played → Option Row → Played
turned program shape p None = record { machine = p.machine; outcomes = p.outcomes ++ None ∷ [] }
turned program shape p (Some row) = record {
  machine = advance program shape ample p.machine row;
  outcomes = p.outcomes
      ++ Some row.outcome ∷ [];
}

-- turns of these threads
abbrev pub plays : List ClassListing → HeapShape → Played → List ℕ → Played
plays program shape p [] = p
plays program shape p (t ∷ ts) = plays program shape
    (turned program shape p (row_by program ample p.machine (ByThread t) 0)) ts

abbrev pub opens : List ClassListing → HeapShape → Played
opens program shape = record { machine = opening_machine program shape; outcomes = [] }

-- some turns, and then some more
pub and_then : (program : List ClassListing) (shape : HeapShape) (p q r : Played) (first later : List ℕ)
    → plays program shape p first ≡ q → plays program shape q later ≡ r → plays program shape p (first ++ later) ≡ r
and_then program shape p q r [] later h k = ap (λ x. plays program shape x later) h ∙ k
and_then program shape p q r (t ∷ first) later h k =
    and_then program shape (turned program shape p (row_by program ample p.machine (ByThread t) 0)) q r first later h k

abbrev pub played : World → Account → List (Option Outcome) → Played
played w a outcomes = record { machine = record { world = w; account = a }; outcomes = outcomes }

pub turned-moves : (program : List ClassListing) (shape : HeapShape) (p : Played) (row : Option Row)
    → (turned program shape p row).machine ≡ advance_if program shape ample p.machine row
turned-moves program shape p None = refl
turned-moves program shape p (Some row) = refl

-- the machine is that of the same turns without their outcomes
pub plays-moves : (program : List ClassListing) (shape : HeapShape) (p : Played) (ts : List ℕ)
    → (plays program shape p ts).machine ≡ moved_by_all program shape ample p.machine (map ByThread ts)
unfolding moved_by
plays-moves program shape p [] = refl
plays-moves program shape p (t ∷ ts) =
    let row = row_by program ample p.machine (ByThread t) 0 in
    plays-moves program shape (turned program shape p row) ts
    ∙ ap (λ m. moved_by_all program shape ample m (map ByThread ts)) (turned-moves program shape p row)

abbrev pub done : ℕ → List (Option Outcome)
done n = replicate n (Some Done)

-- so many turns of thread 0
abbrev pub zeros : ℕ → List ℕ
zeros n = replicate n 0

-- ---- instructions

abbrev pub iconst_0 : Sized
iconst_0 = (1, Constant (SmallInt Zero))

abbrev pub iconst_1 : Sized
iconst_1 = (1, Constant (SmallInt One))

abbrev pub iconst_2 : Sized
iconst_2 = (1, Constant (SmallInt Two))

abbrev pub bipush : ℕ → Sized
bipush n = (2, Constant (Byte (pos n)))

abbrev pub idiv : Sized
idiv = (1, Number (Binary Ints Div))

abbrev pub pop : Sized
pop = (1, Stack Pop)

abbrev pub athrow : Sized
athrow = (1, Throw)

abbrev pub new : List ℕ → Sized
new name = (3, Class New name)

-- the field `x I` of a class
abbrev pub getstatic : List ℕ → Sized
getstatic name = (3, StaticField Get (member name (codes "x") (codes "I")))

abbrev pub putstatic : List ℕ → Sized
putstatic name = (3, StaticField Put (member name (codes "x") (codes "I")))

abbrev pub invokestatic : List ℕ → List ℕ → Sized
invokestatic class name = (3, Invoke Static (member class name (codes "()V")))

-- ---- classes

abbrev pub object_class : List ℕ
object_class = codes "java/lang/Object"

abbrev pub error : List ℕ
error = codes "java/lang/Error"

abbrev pub arithmetic : List ℕ
arithmetic = codes "java/lang/ArithmeticException"

abbrev pub in_initializer : List ℕ
in_initializer = codes "java/lang/ExceptionInInitializerError"

abbrev pub no_class : List ℕ
no_class = codes "java/lang/NoClassDefFoundError"

abbrev pub out_of_memory : List ℕ
out_of_memory = codes "java/lang/OutOfMemoryError"

abbrev pub stack_overflow : List ℕ
stack_overflow = codes "java/lang/StackOverflowError"

abbrev pub with_rows : List ExceptionRow → Option CodeListing → Option CodeListing
with_rows rows None = None
with_rows rows (Some code) = Some (record code { rows = rows })

abbrev pub catching : List ExceptionRow → Method → Method
catching rows m = record m { code = with_rows rows m.code }

abbrev pub main : ℕ → List Sized → Method
main stack code = method 9 (codes "main") (codes "()V") stack 0 code

-- without locals
abbrev pub initializer : ℕ → List Sized → Method
initializer stack code = method 8 (codes "<clinit>") (codes "()V") stack 0 code

abbrev pub row : ℕ → ℕ → ℕ → Option (List ℕ) → ExceptionRow
row start end handler class = record { start = start; end = end; handler = handler; class = class }

abbrev pub x : ℕ → Field
x flags = record { flags = record { 0 = flags }; name = codes "x"; descriptor = codes "I"; constant = None }

abbrev pub plain : List ℕ → List Method → ClassListing
plain name methods = class name object_class [] methods

-- the same with a static field `x I`
abbrev pub with_x : ClassListing → ClassListing
with_x c = record c { fields = x 8 ∷ [] }

-- ---- worlds

abbrev pub holding : List ℕ → ℕ → FieldValue
holding class n = record { class = class; name = codes "x"; descriptor = codes "I"; value = Int (pos n) }

-- a frame without locals: of a method by class and number
abbrev pub at : ℕ → ℕ → ℕ → List Value → ℕ → Frame
at class number pc stack room = frame (place class number) pc [] stack room None

abbrev pub failed : Frame → Frame
failed f = record f { mark = Failing }

abbrev pub world : List Thread → List FieldValue → List ClassState → List ℕ → List Object → ℕ → World
world threads fields states output objects rows = record {
  threads = threads;
  statics = record { fields = fields; states = states };
  output = output;
  objects = opening_objects ++ objects;
  fault = None;
  rows = rows;
}

-- ---- accounts of small cells

-- births 1 and 2 in front of these
abbrev pub cells : List Cell → List ℕ → List ℕ → Account
cells others free grey = account (Taken 1 White ∷ Taken 2 White ∷ others) free grey Idle

abbrev pub three_free : Account
three_free = cells (Free ∷ Free ∷ Free ∷ []) (2 ∷ 3 ∷ 4 ∷ []) []

abbrev pub two_free : Account
two_free = cells (Taken 3 Grey ∷ Free ∷ Free ∷ []) (3 ∷ 4 ∷ []) (3 ∷ [])
