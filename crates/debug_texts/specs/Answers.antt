use Rattle.std.specs.Prelude.{ℕ, ◌+◌, List, [], ◌∷◌, ◌++◌, codes, length, reverse, slice_get, Option, Some, None}
use Rattle.std.specs.Fmt.{decimal, signed_decimal}
use Rattle.model.specs.declared.colours.Colour.{Colour}
use Rattle.model.specs.declared.colours.Colour.TheVariants.{White, Grey, Black}
use Rattle.model.specs.declared.colours.Phase.{Phase}
use Rattle.model.specs.declared.colours.Phase.TheVariants.{Idle, Statics, Frames, Mark, Append}
use Rattle.model.specs.declared.listings.Method.{Method}
use Rattle.model.specs.declared.places.MethodPlace.{MethodPlace}
use Rattle.model.specs.declared.turns.ClassState.{ClassState}
use Rattle.model.specs.declared.turns.ClassState.TheVariants.{Unused, Running as Initialising, Done as Initialised, Failed}
use Rattle.model.specs.declared.turns.Fault.{Fault as FaultKind}
use Rattle.model.specs.declared.turns.Fault.TheVariants.{StackEmpty, StackFull, WrongKind, WrongLocal, NoInstruction}
use Rattle.model.specs.declared.turns.Fault.TheVariants.{WrongClass, WrongReturn, ThreadLimit, NoMethod, MonitorLimit}
use Rattle.model.specs.declared.turns.Mark.{Mark as MarkKind}
use Rattle.model.specs.declared.turns.Mark.TheVariants.{Unmarked, Waiting, Failing}
use Rattle.model.specs.declared.turns.Turn.{Turn}
use Rattle.model.specs.declared.turns.Turn.TheVariants.{Done, NotReady, Stopped, Fault, OutputFull, StepLimit}
use Rattle.model.specs.declared.values.Entry.{Entry}
use Rattle.model.specs.declared.values.Entry.TheVariants.{Unset, Holds, UpperHalf}
use Rattle.model.specs.declared.values.Value.{Value}
use Rattle.model.specs.declared.values.Value.TheVariants.{Int, Long, Ref}
use Rattle.model.specs.declared.views.CellView.{CellView}
use Rattle.debug_texts.specs.declared.answers.Reason.{Reason}
use Rattle.debug_texts.specs.declared.answers.Reason.TheVariants.{Running, Finished, Stuck, Turn as ByTurn, Breakpoint}
use Rattle.model.specs.ClassListings.{ClassListing}
use Rattle.model.specs.Frames.{Frame}
use Rattle.model.specs.Worlds.{Contents, FieldValue, Thread}
use Rattle.model.specs.Worlds.Contents.{Instance, Array}
use Rattle.model.specs.Worlds.Thread.{Live, Ended}

-- The text of each answer. Each line ends in a newline, and one space stands between two words.

abbrev pub line : List ℕ → List ℕ
line text = text ++ 10 ∷ []

-- a word, a space, and a number
abbrev pub numbered : List ℕ → ℕ → List ℕ
numbered word n = word ++ 32 ∷ decimal n

-- ---- values

-- a birth
abbrev pub birth_text : ℕ → List ℕ
birth_text b = 35 ∷ decimal b

abbrev pub value_text : Value → List ℕ
value_text (Int z) = signed_decimal z
value_text (Long z) = signed_decimal z ++ 76 ∷ []
value_text (Ref None) = codes "null"
value_text (Ref (Some b)) = birth_text b

-- a hyphen for what isn't set, a circumflex for the upper half of a long
abbrev pub entry_text : Entry → List ℕ
entry_text Unset = 45 ∷ []
entry_text (Holds v) = value_text v
entry_text UpperHalf = 94 ∷ []

-- each after a space
abbrev pub values_text : List Value → List ℕ
values_text [] = []
values_text (v ∷ vs) = 32 ∷ (value_text v ++ values_text vs)

abbrev pub entries_text : List Entry → List ℕ
entries_text [] = []
entries_text (e ∷ es) = 32 ∷ (entry_text e ++ entries_text es)

-- ---- frames

abbrev pub method_name : Option Method → List ℕ
method_name None = codes "<clinit>()V"
method_name (Some m) = m.name ++ m.descriptor

abbrev pub method_words_in : Option ClassListing → ℕ → List ℕ
method_words_in None method = []
method_words_in (Some c) method = c.name ++ 46 ∷ method_name (slice_get c.methods method)

-- C.m(A)R; the initializer of a class that declares none stands past its methods
abbrev pub method_words : List ClassListing → MethodPlace → List ℕ
method_words program place = method_words_in (slice_get program place.class) place.method

abbrev pub monitor_line : Option ℕ → List ℕ
monitor_line None = []
monitor_line (Some b) = line (codes "monitor " ++ birth_text b)

abbrev pub mark_line : MarkKind → List ℕ
mark_line Unmarked = []
mark_line Waiting = line (codes "waiting")
mark_line Failing = line (codes "failing")

-- frame D C.m(A)R pc P
abbrev pub frame_line : List ClassListing → ℕ → Frame → List ℕ
frame_line program depth f =
    line (numbered (numbered (codes "frame") depth ++ 32 ∷ method_words program f.method ++ codes " pc") f.pc)

abbrev pub locals_line : List Entry → List ℕ
locals_line locals = line (codes "locals" ++ entries_text locals)

-- the stack's bottom comes first
abbrev pub stack_line : List Value → List ℕ
stack_line values = line (codes "stack" ++ values_text values)

abbrev pub end_text : Option ℕ → MarkKind → List ℕ
end_text monitor mark = monitor_line monitor ++ mark_line mark

abbrev pub parts_text : List Entry → List Value → Option ℕ → MarkKind → List ℕ
parts_text locals stack monitor mark = locals_line locals ++ (stack_line stack ++ end_text monitor mark)

abbrev pub body_text : Frame → List ℕ
body_text f = parts_text f.locals (reverse f.stack) f.monitor f.mark

abbrev pub frame_text : List ClassListing → ℕ → Frame → List ℕ
frame_text program depth f = frame_line program depth f ++ body_text f

-- the innermost frame comes first; the outermost is number 0
abbrev pub frames_text : List ClassListing → ℕ → List Frame → List ℕ
frames_text program depth [] = []
frames_text program depth (f ∷ fs) = frames_text program (depth + 1) fs ++ frame_text program depth f

abbrev pub stack_text : List ClassListing → Option Thread → List ℕ
stack_text program None = line (codes "error no such thread")
stack_text program (Some (Live frames)) = frames_text program 0 frames
stack_text program (Some (Ended by)) = line (codes "ended")

-- ---- objects

-- C.name = V
abbrev pub field_line : FieldValue → List ℕ
field_line f = line (f.class ++ 46 ∷ f.name ++ codes " = " ++ value_text f.value)

abbrev pub fields_text : List FieldValue → List ℕ
fields_text [] = []
fields_text (f ∷ fs) = field_line f ++ fields_text fs

-- an object with a line for each field, the superclass's first; an array on one line, with its own descriptor
abbrev pub contents_text : ℕ → Contents → List ℕ
contents_text birth (Instance class fields) =
    line (numbered (codes "object") birth ++ 32 ∷ class) ++ fields_text fields
contents_text birth (Array element values) =
    line (numbered (numbered (codes "array") birth ++ 32 ∷ 91 ∷ element) (length values) ++ values_text values)

abbrev pub object_text : ℕ → Option Contents → List ℕ
object_text birth None = line (codes "error no such object")
object_text birth (Some contents) = contents_text birth contents

-- ---- the heap

abbrev pub colour_word : Colour → List ℕ
colour_word White = codes "white"
colour_word Grey = codes "grey"
colour_word Black = codes "black"

abbrev pub held_text : Option (ℕ × Colour) → List ℕ
held_text None = codes "free"
held_text (Some (birth, colour)) = birth_text birth ++ 32 ∷ colour_word colour

-- cell N WORDS, and free or what it holds
abbrev pub cell_line : ℕ → CellView → List ℕ
cell_line number cell =
    line (numbered (numbered (codes "cell") number) cell.words ++ 32 ∷ held_text cell.held)

abbrev pub phase_word : Phase → List ℕ
phase_word Idle = codes "idle"
phase_word (Statics slot) = codes "statics"
phase_word (Frames thread frame entry) = codes "frames"
phase_word (Mark word) = codes "mark"
phase_word (Append cell) = codes "append"

abbrev pub phase_line : Phase → List ℕ
phase_line phase = line (codes "phase " ++ phase_word phase)

-- ---- classes

abbrev pub state_words : ClassState → List ℕ
state_words Unused = codes "unused"
state_words (Initialising thread) = numbered (codes "running") thread
state_words Initialised = codes "done"
state_words Failed = codes "failed"

abbrev pub class_text : List ℕ → Option ClassState → List ℕ
class_text name None = line (codes "error no such class")
class_text name (Some state) = line (codes "class " ++ name ++ 32 ∷ state_words state)

-- ---- turns

abbrev pub fault_words : FaultKind → List ℕ
fault_words StackEmpty = codes "fault F1"
fault_words StackFull = codes "fault F2"
fault_words WrongKind = codes "fault F3"
fault_words WrongLocal = codes "fault F4"
fault_words NoInstruction = codes "fault F5"
fault_words WrongClass = codes "fault F6"
fault_words WrongReturn = codes "fault F7"
fault_words ThreadLimit = codes "fault F8"
fault_words NoMethod = codes "fault F9"
fault_words MonitorLimit = codes "fault F10"

abbrev pub turn_words : Turn → List ℕ
turn_words Done = codes "done"
turn_words NotReady = codes "not ready"
turn_words Stopped = codes "stopped"
turn_words (Fault f) = fault_words f
turn_words OutputFull = codes "output full"
turn_words StepLimit = codes "step limit"

abbrev pub turn_text : Turn → List ℕ
turn_text turn = line (turn_words turn)

-- ---- runs

-- numbers as they print
abbrev pub stop_text : List ℕ → List ℕ → List ℕ → List ℕ
stop_text turns number thread =
    codes "ran " ++ (turns ++ (codes ": at breakpoint " ++ (number ++ (codes " thread " ++ (thread ++ 10 ∷ [])))))

abbrev pub reason_line : Reason → List ℕ
reason_line Running = codes "running\n"
reason_line Finished = codes "finished\n"
reason_line Stuck = codes "stuck\n"
reason_line (ByTurn turn) = turn_text turn
reason_line (Breakpoint number thread) =
    codes "at breakpoint " ++ (decimal number ++ (codes " thread " ++ (decimal thread ++ 10 ∷ [])))

-- ran K: REASON
abbrev pub ran_text : ℕ → Reason → List ℕ
ran_text turns reason = codes "ran " ++ (decimal turns ++ (codes ": " ++ reason_line reason))

-- ---- breakpoints, and what ends

abbrev pub bad_command : List ℕ
bad_command = line (codes "error bad command")

abbrev pub broken_text : ℕ → List ℕ
broken_text number = line (numbered (codes "breakpoint") number)

abbrev pub no_place : List ℕ
no_place = line (codes "error no such place")

abbrev pub deleted_text : ℕ → List ℕ
deleted_text number = line (numbered (codes "deleted") number)

abbrev pub no_breakpoint : List ℕ
no_breakpoint = line (codes "error no such breakpoint")

-- how many bytes the output has, and these
abbrev pub farewell : List ℕ → List ℕ
farewell output = line (numbered (codes "output") (length output)) ++ output
