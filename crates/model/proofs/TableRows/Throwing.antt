-- Worked turns that end with a throwable (JVMS 2.10), and turns that ask for a cell. Thread 0 has two frames, main's
-- outside; births 1 and 2 are the errors that were made before the run, 3 has a monitor, 4 is an exception.
use Rattle.std.specs.Prelude.{◌≡◌, ℕ, pos, List, [], ◌∷◌, ◌++◌, Option, Some, None, codes, refl}
use Rattle.model.specs.declared.values.Value.{Value}
use Rattle.model.specs.declared.values.Value.TheVariants.{Int, Ref}
use Rattle.model.specs.declared.values.Entry.TheVariants.{Holds}
use Rattle.model.specs.declared.turns.Fault.TheVariants.{StackFull, WrongKind}
use Rattle.model.specs.declared.turns.Mark.TheVariants.{Unmarked}
use Rattle.model.specs.declared.turns.Exception.TheVariants.{Arithmetic, ArrayIndexOutOfBounds, StackOverflow}
use Rattle.model.specs.declared.listings.ExceptionRow.{ExceptionRow}
use Rattle.model.specs.declared.listings.Method.{Method}
use Rattle.model.specs.ClassListings.{ClassListing}
use Rattle.model.specs.Classes.Builtin.{builtin_classes}
use Rattle.model.specs.Classes.Subclasses.{is_within}
use Rattle.model.specs.Frames.{Frame}
use Rattle.model.specs.Worlds.{World, Contents, Object, Thread, free_monitor, plain_object}
use Rattle.model.specs.Worlds.Contents.{Instance, Array}
use Rattle.model.specs.Worlds.Thread.{Live, Ended}
use Rattle.model.specs.Results.{Effect, faulted}
use Rattle.model.specs.Completions.{Completion, asks, prints, raises}
use Rattle.model.specs.Completions.Completion.{Goes, Prints, Creates, Throws, Faults}
use Rattle.model.specs.Effects.{Choice, effect_of}
use Rattle.model.specs.Effects.Choice.{NewObject, NoRoom}

-- ---- the program: main's rows and those of the method that it calls

abbrev arithmetic : List ℕ
arithmetic = codes "java/lang/ArithmeticException"

abbrev runtime : List ℕ
runtime = codes "java/lang/RuntimeException"

abbrev out_of_memory : List ℕ
out_of_memory = codes "java/lang/OutOfMemoryError"

abbrev row : ℕ → ℕ → ℕ → Option (List ℕ) → ExceptionRow
row start end handler class = record { start = start; end = end; handler = handler; class = class }

abbrev method : List ℕ → List ExceptionRow → Method
method name rows = record {
  flags = record { 0 = 9 };
  name = name;
  descriptor = codes "()V";
  code = Some (record { max_stack = 2; max_locals = 1; rows = rows; instructions = [] });
}

-- main calls m at pc 6
abbrev program : List ExceptionRow → List ExceptionRow → List ClassListing
program outer inner = record {
  name = codes "A";
  flags = record { 0 = 1 };
  superclass = codes "java/lang/Object";
  interfaces = [];
  fields = [];
  methods = method (codes "main") outer ∷ method (codes "m") inner ∷ [];
} ∷ []

-- ---- the world

abbrev frame : ℕ → ℕ → List Value → ℕ → Option ℕ → Frame
frame number pc stack room monitor = record {
  method = record { class = 0; method = number };
  pc = pc;
  locals = Holds (Int (pos 7)) ∷ [];
  stack = stack;
  room = room;
  monitor = monitor;
  mark = Unmarked;
}

abbrev main_at : ℕ → List Value → Frame
main_at pc stack = frame 0 pc stack 2 None

-- m has the method monitor of birth 3
abbrev m_at : ℕ → List Value → ℕ → Frame
m_at pc stack room = frame 1 pc stack room (Some 3)

-- the monitor of birth 3, by its owner and count
abbrev objects : Option ℕ → ℕ → List Object
objects owner count =
    plain_object [] ∷ plain_object out_of_memory ∷ plain_object (codes "java/lang/StackOverflowError") ∷
    record { contents = Instance (codes "A") []; monitor = record { owner = owner; count = count }; thread = None } ∷
    plain_object arithmetic ∷ []

abbrev world : Thread → List Object → World
world thread objects = record {
  threads = thread ∷ Ended None ∷ [];
  statics = record { fields = []; states = [] };
  output = 65 ∷ [];
  objects = objects;
  fault = None;
  rows = 9;
}

-- main at its call with an operand, and m within a range, with two operands
abbrev standing : ℕ → ℕ → Thread
standing pc room = Live (main_at 6 (Int (pos 1) ∷ []) ∷ m_at pc (Int (pos 2) ∷ Int (pos 3) ∷ []) room ∷ [])

-- birth 3's monitor was entered once, by this thread
abbrev before : ℕ → World
before pc = world (standing pc 2) (objects (Some 0) 1)

abbrev then : World → List ℕ → Effect
then after writes = record { after = after; writes = writes }

abbrev throws : List ExceptionRow → List ExceptionRow → World → ℕ → Effect
throws outer inner w birth = effect_of (program outer inner) w 0 NewObject (Throws birth)

-- ---- which row takes it: its range begins at start and ends before end, and the first that fits counts

-- the handler finds the throwable alone on the stack; locals and monitor stay
abbrev in_m : ℕ → Effect
in_m handler = then (world (Live (main_at 6 (Int (pos 1) ∷ []) ∷ m_at handler (Ref (Some 4) ∷ []) 2 ∷ []))
    (objects (Some 0) 1)) (4 ∷ [])

-- m is left, and its monitor with it
abbrev in_main : ℕ → Effect
in_main handler = then (world (Live (main_at handler (Ref (Some 4) ∷ []) ∷ [])) (objects None 0)) (4 ∷ [])

abbrev ended_by : List ℕ → Effect
ended_by class = then (world (Ended (Some class)) (objects None 0)) []

row_starts : throws [] (row 3 5 20 None ∷ []) (before 3) 4 ≡ in_m 20
unfolding is_within builtin_classes
row_starts = refl

row_goes_on : throws [] (row 3 5 20 None ∷ []) (before 4) 4 ≡ in_m 20
unfolding is_within builtin_classes
row_goes_on = refl

row_ended : throws [] (row 3 5 20 None ∷ []) (before 5) 4 ≡ ended_by arithmetic
unfolding is_within builtin_classes
row_ended = refl

row_not_begun : throws [] (row 3 5 20 None ∷ []) (before 2) 4 ≡ ended_by arithmetic
unfolding is_within builtin_classes
row_not_begun = refl

row_first : throws [] (row 3 5 20 None ∷ row 3 5 30 None ∷ []) (before 3) 4 ≡ in_m 20
unfolding is_within builtin_classes
row_first = refl

row_of_class : throws [] (row 3 5 20 (Some out_of_memory) ∷ row 3 5 30 (Some arithmetic) ∷ []) (before 3) 4 ≡ in_m 30
unfolding is_within builtin_classes
row_of_class = refl

row_of_superclass : throws [] (row 3 5 20 (Some runtime) ∷ []) (before 3) 4 ≡ in_m 20
unfolding is_within builtin_classes
row_of_superclass = refl

-- ---- frames are left: the caller is tried at its call, and its monitor is no other's

caller_takes : throws (row 6 9 12 (Some runtime) ∷ []) (row 3 5 20 (Some out_of_memory) ∷ []) (before 3) 4 ≡ in_main 12
unfolding is_within builtin_classes
caller_takes = refl

innermost_takes : throws (row 6 9 12 None ∷ []) (row 3 5 20 None ∷ []) (before 3) 4 ≡ in_m 20
unfolding is_within builtin_classes
innermost_takes = refl

none_takes : throws (row 7 9 12 None ∷ []) [] (before 3) 4 ≡ ended_by arithmetic
unfolding is_within builtin_classes
none_takes = refl

-- entered twice, it is still owned; another thread's stays as it is
entered_twice : throws [] [] (world (standing 3 2) (objects (Some 0) 2)) 4 ≡
    then (world (Ended (Some arithmetic)) (objects (Some 0) 1)) []
unfolding is_within builtin_classes
entered_twice = refl

of_another : throws [] [] (world (standing 3 2) (objects (Some 1) 2)) 4 ≡
    then (world (Ended (Some arithmetic)) (objects (Some 1) 2)) []
unfolding is_within builtin_classes
of_another = refl

of_nobody : throws [] [] (world (standing 3 2) (objects None 0)) 4 ≡
    then (world (Ended (Some arithmetic)) (objects None 0)) []
unfolding is_within builtin_classes
of_nobody = refl

-- ---- a handler without room for the throwable: F2, and nothing changes but the fault

abbrev roomless : World
roomless = world (standing 3 0) (objects (Some 0) 1)

no_room_to_handle : throws [] (row 3 5 20 None ∷ []) roomless 4 ≡ faulted roomless 0 StackFull
unfolding is_within builtin_classes
no_room_to_handle = refl

abbrev roomless_main : World
roomless_main = world (Live (frame 0 6 [] 0 None ∷ m_at 3 [] 2 ∷ [])) (objects (Some 0) 1)

no_room_in_caller : throws (row 6 9 12 None ∷ []) [] roomless_main 4 ≡ faulted roomless_main 0 StackFull
unfolding is_within builtin_classes
no_room_in_caller = refl

-- ---- the machine makes an exception: it asks for a cell of no words, but for StackOverflowError

abbrev raise : Choice → World → Effect
raise choice w = effect_of (program [] (row 3 5 20 (Some arithmetic) ∷ row 3 5 30 (Some out_of_memory) ∷ [])) w 0 choice
    (raises Arithmetic)

made : raise NewObject (before 3) ≡
    then (world (Live (main_at 6 (Int (pos 1) ∷ []) ∷ m_at 20 (Ref (Some 5) ∷ []) 2 ∷ [])) (objects (Some 0) 1
    ++ plain_object arithmetic ∷ [])) (5 ∷ [])
unfolding is_within builtin_classes
made = refl

not_made : raise NoRoom (before 3) ≡
    then (world (Live (main_at 6 (Int (pos 1) ∷ []) ∷ m_at 30 (Ref (Some 1) ∷ []) 2 ∷ [])) (objects (Some 0) 1))
    (1 ∷ [])
unfolding is_within builtin_classes
not_made = refl

-- no exception is made where its handler has no room for it
made_without_room : raise NewObject roomless ≡ faulted roomless 0 StackFull
unfolding is_within builtin_classes
made_without_room = refl

not_made_without_room : raise NoRoom roomless ≡ faulted roomless 0 StackFull
unfolding is_within builtin_classes
not_made_without_room = refl

raise_asks : asks (raises ArrayIndexOutOfBounds) ≡ Some 0
raise_asks = refl

overflow_is_there : raises StackOverflow ≡ Throws 2
overflow_is_there = refl

overflow_asks : asks (raises StackOverflow) ≡ None
overflow_asks = refl

-- ---- a new object, in place of the value at the top

abbrev two_ints : Contents
two_ints = Array (codes "I") (Int (pos 0) ∷ Int (pos 0) ∷ [])

abbrev create : Choice → World → ℕ → Effect
create choice w taken = effect_of (program [] (row 3 5 30 (Some out_of_memory) ∷ [])) w 0 choice
    (Creates 4 taken two_ints)

abbrev new_array : Object
new_array = record { contents = two_ints; monitor = free_monitor; thread = None }

create_asks : asks (Creates 4 1 two_ints) ≡ Some 2
create_asks = refl

created : create NewObject (before 3) 1 ≡
    then (world (Live (main_at 6 (Int (pos 1) ∷ []) ∷ m_at 4 (Ref (Some 5) ∷ Int (pos 3) ∷ []) 2 ∷ []))
    (objects (Some 0) 1 ++ new_array ∷ [])) (5 ∷ [])
created = refl

-- on a full stack: F2 where a cell has room, else OutOfMemoryError
created_on_full : create NewObject (before 3) 0 ≡ faulted (before 3) 0 StackFull
created_on_full = refl

not_created : create NoRoom (before 3) 0 ≡
    then (world (Live (main_at 6 (Int (pos 1) ∷ []) ∷ m_at 30 (Ref (Some 1) ∷ []) 2 ∷ [])) (objects (Some 0) 1))
    (1 ∷ [])
unfolding is_within builtin_classes
not_created = refl

-- ---- the rest

abbrev ready : Completion → Effect
ready c = effect_of (program [] []) (before 3) 0 NewObject c

printed : ready (Prints (before 4) (66 ∷ 10 ∷ [])) ≡ then (record (before 4) { output = 65 ∷ 66 ∷ 10 ∷ [] }) []
printed = refl

print_reported : prints (Prints (before 4) (66 ∷ 10 ∷ [])) ≡ Some (66 ∷ 10 ∷ [])
print_reported = refl

went_on : ready (Goes (before 4) (4 ∷ 3 ∷ [])) ≡ then (before 4) (4 ∷ 3 ∷ [])
went_on = refl

at_once_at_fault : ready (Faults WrongKind) ≡ then (record (before 3) { fault = Some (WrongKind, 0) }) []
at_once_at_fault = refl
