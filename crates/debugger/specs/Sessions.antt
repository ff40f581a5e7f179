use Rattle.std.specs.Prelude.{◌≡◌, ◌≢◌, ◌⊎◌, ℕ, ◌+◌, List, [], ◌∷◌, ◌++◌, Option, Some, None, Result, Ok, Err}
use Rattle.std.specs.Io.KnownBytes.{Appends, Consumes, IsAtEnd, Keeps}
use Rattle.std.specs.List.{AllByRecursion}
use Rattle.std.specs.Option.{option_map}
use Rattle.debug_texts.specs.Answers.{bad_command, broken_text, cell_line, class_text, deleted_text, farewell}
use Rattle.debug_texts.specs.Answers.{no_breakpoint, no_place, object_text, phase_line, ran_text, stack_text, turn_text}
use Rattle.debug_texts.specs.Commands.{Said, command_of}
use Rattle.debug_texts.specs.Commands.Said.{Break, Delete, Step, Collect, Run, Stack, Object, Heap, Class, Quit}
use Rattle.debug_texts.specs.Lines.{IsLine, ReadsLine}
use Rattle.debug_texts.specs.Streams.{AppendsPart}
use Rattle.model.specs.declared.colours.Cell.{Cell}
use Rattle.model.specs.declared.places.CodePlace.{CodePlace}
use Rattle.model.specs.declared.turns.Actor.{Actor}
use Rattle.model.specs.declared.turns.Actor.TheVariants.{Thread as ByThread, Collector}
use Rattle.model.specs.Machines.{Recorded, after_turn_by, after_turns, answer_to, machine_of}
use Rattle.model.specs.Observers.{cell_view, class_state_of, object_of, output_of, phase_of, thread_of}
use Rattle.model.specs.Room.{words_of_cell}
use Rattle.model.specs.Worlds.{Object as ObjectValue}
use Rattle.debugger.specs.declared.errors.DebugError.{DebugError}
use Rattle.debugger.specs.declared.errors.DebugError.TheVariants.{Read, Write, Memory}
use Rattle.debugger.specs.Breakpoints.{Breakpoints, Changes, at_number, place_named}
use Rattle.debugger.specs.Runs.{run_for}

-- A session: command lines in, answers out.

-- what a session works on
pub record Debugged : Type 0 where
  pub world : Recorded
  pub breakpoints : Breakpoints

abbrev pub debugged : Recorded → Breakpoints → Debugged
debugged v bs = record { world = v; breakpoints = bs }

abbrev pub with_world : Debugged → Recorded → Debugged
with_world s v = debugged v s.breakpoints

-- ---- what a command does, and answers

-- nothing changes
abbrev pub Answers : Debugged → Debugged → List ℕ → List ℕ → Type 0
Answers s t answer text = (t ≡ s) × (answer ≡ text)

-- a breakpoint gets a number that none had
pub record Added (s : Debugged) (place : CodePlace) (t : Debugged) (answer : List ℕ) : Type 0 where
  pub number : ℕ
  pub vacant : at_number s.breakpoints number ≡ None
  pub changes : Changes s.breakpoints t.breakpoints number (Some place)
  pub world : t.world ≡ s.world
  pub answer_is : answer ≡ broken_text number

abbrev pub Breaks : Debugged → Option CodePlace → Debugged → List ℕ → Type 0
Breaks s None t answer = Answers s t answer no_place
Breaks s (Some place) t answer = Added s place t answer

pub record Deleted (s : Debugged) (number : ℕ) (t : Debugged) (answer : List ℕ) : Type 0 where
  pub changes : Changes s.breakpoints t.breakpoints number None
  pub world : t.world ≡ s.world
  pub answer_is : answer ≡ deleted_text number

abbrev pub Deletes : Debugged → ℕ → Option CodePlace → Debugged → List ℕ → Type 0
Deletes s number None t answer = Answers s t answer no_breakpoint
Deletes s number (Some place) t answer = Deleted s number t answer

abbrev pub cells_text : Recorded → ℕ → List Cell → List ℕ
cells_text v number [] = []
cells_text v number (cell ∷ cells) =
    cell_line number (cell_view (words_of_cell v.journal.shape number) cell) ++ cells_text v (number + 1) cells

-- each cell, and where the collector stands
abbrev pub heap_text : Recorded → List ℕ
heap_text v = cells_text v 0 (machine_of v).account.cells ++ phase_line (phase_of v)

-- one turn of an actor
abbrev pub Turns : Debugged → Recorded → Debugged → List ℕ → List ℕ → Type 0
Turns s after t answer text = (t ≡ with_world s after) × (answer ≡ text)

-- a command leads from one state to another, with an answer; a line that is none changes nothing
abbrev pub Does : Debugged → Option Said → Debugged → List ℕ → Type 0
Does s None t answer = Answers s t answer bad_command
Does s (Some (Break class name descriptor pc)) t answer =
    Breaks s (place_named s.world.program class name descriptor pc) t answer
Does s (Some (Delete number)) t answer = Deletes s number (at_number s.breakpoints number) t answer
Does s (Some (Step thread)) t answer = Turns s (after_turn_by s.world (ByThread thread) 0) t answer
    (turn_text (answer_to s.world (ByThread thread) 0))
Does s (Some Collect) t answer = Turns s (after_turn_by s.world Collector 0) t answer
    (turn_text (answer_to s.world Collector 0))
Does s (Some (Run n)) t answer = Turns s (run_for s.breakpoints n s.world).world t answer
    (ran_text (run_for s.breakpoints n s.world).turns (run_for s.breakpoints n s.world).reason)
Does s (Some (Stack thread)) t answer = Answers s t answer (stack_text s.world.program (thread_of s.world thread))
Does s (Some (Object birth)) t answer = Answers s t answer
    (object_text birth (option_map (λ (o : ObjectValue). o.contents) (object_of s.world birth)))
Does s (Some Heap) t answer = Answers s t answer (heap_text s.world)
Does s (Some (Class name)) t answer = Answers s t answer (class_text name (class_state_of s.world name))
Does s (Some Quit) t answer = Answers s t answer []

-- ---- lines, one after another

-- what a line does: it leads from one state to another, with an answer
abbrev pub Doing : Type 1
Doing = Debugged → List ℕ → Debugged → List ℕ → Type 0

-- what lines do, and all that they answer, where P is what one does
abbrev pub AllDone : Doing → Debugged → List (List ℕ) → Debugged → List ℕ → Type 0
AllDone P s [] t answers = (t ≡ s) × (answers ≡ [])
AllDone P s (line ∷ lines) t answers =
    (m : Debugged) × (first : List ℕ) × (rest : List ℕ) × P s line m first × AllDone P m lines t rest
    × (answers ≡ first ++ rest)

-- a line that doesn't end the session
abbrev pub GoesOn : List ℕ → Type 0
GoesOn line = IsLine line × (command_of line ≢ Some Quit)

-- these lines were read
abbrev pub ReadsLines : Option (List ℕ) → Option (List ℕ) → List (List ℕ) → Type 0
ReadsLines before after [] = Consumes before after []
ReadsLines before after (line ∷ lines) =
    (mid : Option (List ℕ)) × ReadsLine before mid line × ReadsLines mid after lines

-- the line that ends a session was read, or the source is at its end
abbrev pub ReadsEnd : Option (List ℕ) → Option (List ℕ) → Type 0
ReadsEnd before after =
    ((line : List ℕ) × IsLine line × (command_of line ≡ Some Quit) × ReadsLine before after line)
    ⊎ (Consumes before after [] × IsAtEnd after)

-- ---- how a session ends, once the lines before were carried out and answered

-- a read failed within a line
pub record ReadStops (s : Debugged) (w : Recorded) (mid after out now : Option (List ℕ)) (answers : List ℕ) : Type 0
  where
    pub world : w ≡ s.world
    pub part : List ℕ
    pub is_line : IsLine part
    pub read : Consumes mid after part
    pub written : Appends out now answers

-- memory ran out at a line, which did nothing
pub record MemoryStops (s : Debugged) (w : Recorded) (mid after out now : Option (List ℕ)) (answers : List ℕ) : Type 0
  where
    pub world : w ≡ s.world
    pub line : List ℕ
    pub go_on : GoesOn line
    pub read : ReadsLine mid after line
    pub written : Appends out now answers

-- a write failed in the answer to one line more, which was carried out
pub record AnswerStops (P : Doing) (s : Debugged) (w : Recorded) (mid after out now : Option (List ℕ))
    (answers : List ℕ) : Type 0 where
  pub line : List ℕ
  pub go_on : GoesOn line
  pub read : ReadsLine mid after line
  pub end : Debugged
  pub answer : List ℕ
  pub done : P s line end answer
  pub world : w ≡ end.world
  pub answered : Option (List ℕ)
  pub written : Appends out answered answers
  pub part : AppendsPart answered now answer

-- a write failed in what a session says in the end
pub record FarewellStops (s : Debugged) (w : Recorded) (mid after out now : Option (List ℕ)) (answers : List ℕ) : Type 0
  where
    pub world : w ≡ s.world
    pub read : ReadsEnd mid after
    pub answered : Option (List ℕ)
    pub written : Appends out answered answers
    pub part : AppendsPart answered now (farewell (output_of w))

abbrev pub Stops : Doing → DebugError → Debugged → Recorded → (mid after out now : Option (List ℕ)) → List ℕ → Type 0
Stops P Read s w mid after out now answers = ReadStops s w mid after out now answers
Stops P Memory s w mid after out now answers = MemoryStops s w mid after out now answers
Stops P Write s w mid after out now answers =
    AnswerStops P s w mid after out now answers ⊎ FarewellStops s w mid after out now answers

-- `quit`, or no line more: what is said in the end was written too
pub record Closes (s : Debugged) (w : Recorded) (mid after out now : Option (List ℕ)) (answers : List ℕ) : Type 0
  where
    pub world : w ≡ s.world
    pub read : ReadsEnd mid after
    pub written : Appends out now (answers ++ farewell (output_of w))

abbrev pub Ends : {A : Type 0} → Doing → Result A DebugError → Debugged → Recorded
    → (mid after out now : Option (List ℕ)) → List ℕ → Type 0
Ends P (Ok a) s w mid after out now answers = Closes s w mid after out now answers
Ends P (Err e) s w mid after out now answers = Stops P e s w mid after out now answers

-- a session from one state on: lines that were read, carried out as P says and answered, and how it ends after them
pub record SessionBy {A : Type 0} (P : Doing) (result : Result A DebugError) (s : Debugged) (w : Recorded)
    (before after out now : Option (List ℕ)) : Type 0 where
  pub lines : List (List ℕ)
  pub end : Debugged
  pub answers : List ℕ
  pub read_to : Option (List ℕ)
  pub go_on : AllByRecursion GoesOn lines
  pub done : AllDone P s lines end answers
  pub read : ReadsLines before read_to lines
  pub ends : Ends P result end w read_to after out now answers

-- a line is a command
abbrev pub DoesLine : Doing
DoesLine s line t answer = Does s (command_of line) t answer

-- a session of commands
abbrev pub Session : {A : Type 0} → Result A DebugError → Debugged → Recorded → (before after out now : Option (List ℕ))
    → Type 0
Session result s w before after out now = SessionBy DoesLine result s w before after out now

-- some list of actors leads from one world to another, one turn each
abbrev pub LedByActors : Recorded → Recorded → Type 0
LedByActors v w = (actors : List Actor) × (w ≡ after_turns v actors)

-- ---- one command

-- all of a text was written, or a beginning of it where a write failed
abbrev pub WrittenBy : DebugError → (out now : Option (List ℕ)) → List ℕ → Type 0
WrittenBy Read out now text = ⊥
WrittenBy Memory out now text = ⊥
WrittenBy Write out now text = AppendsPart out now text

abbrev pub Written : {A : Type 0} → Result A DebugError → (out now : Option (List ℕ)) → List ℕ → Type 0
Written (Ok a) out now text = Appends out now text
Written (Err e) out now text = WrittenBy e out now text

-- the same of a text for which memory may have run out
abbrev pub ToldBy : DebugError → (out now : Option (List ℕ)) → List ℕ → Type 0
ToldBy Read out now text = ⊥
ToldBy Memory out now text = Keeps out now
ToldBy Write out now text = AppendsPart out now text

abbrev pub Told : {A : Type 0} → Result A DebugError → (out now : Option (List ℕ)) → List ℕ → Type 0
Told (Ok a) out now text = Appends out now text
Told (Err e) out now text = ToldBy e out now text

-- a command is carried out and answered; where memory runs out nothing changes, and where a write fails it is carried
-- out all the same
abbrev pub CarriesBy : (Debugged → List ℕ → Type 0) → DebugError → Debugged → Debugged → (out now : Option (List ℕ))
    → Type 0
CarriesBy P Read s t out now = ⊥
CarriesBy P Memory s t out now = (t ≡ s) × Keeps out now
CarriesBy P Write s t out now = (answer : List ℕ) × P t answer × AppendsPart out now answer

abbrev pub Carries : {A : Type 0} → (Debugged → List ℕ → Type 0) → Result A DebugError → Debugged → Debugged
    → (out now : Option (List ℕ)) → Type 0
Carries P (Ok a) s t out now = (answer : List ℕ) × P t answer × Appends out now answer
Carries P (Err e) s t out now = CarriesBy P e s t out now

-- ---- failed calls

abbrev pub CountsBy : DebugError → ℕ → ℕ → Type 0
CountsBy Read before after = after ≡ before
CountsBy Memory before after = after ≡ before
CountsBy Write before after = after ≡ before + 1

-- a sink's failed writes
abbrev pub Counts : {A : Type 0} → Result A DebugError → ℕ → ℕ → Type 0
Counts (Ok a) before after = after ≡ before
Counts (Err e) before after = CountsBy e before after

abbrev pub ReadsBy : DebugError → ℕ → ℕ → Type 0
ReadsBy Read before after = after ≡ before + 1
ReadsBy Memory before after = after ≡ before
ReadsBy Write before after = after ≡ before

-- a source's failed reads
abbrev pub CountsReads : {A : Type 0} → Result A DebugError → ℕ → ℕ → Type 0
CountsReads (Ok a) before after = after ≡ before
CountsReads (Err e) before after = ReadsBy e before after
