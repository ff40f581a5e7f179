use Rattle.std.specs.Prelude.{ℕ, zero, suc, ◌+◌, List, [], ◌∷◌, ◌++◌, length, slice_set, nat_lt, Bool, true, false}
use Rattle.std.specs.Prelude.{Option, Some, None, if◌then◌else◌, Result, Ok, Err}
use Rattle.model.specs.declared.colours.Colour.TheVariants.{White, Grey, Black}
use Rattle.model.specs.declared.colours.Phase.{Phase}
use Rattle.model.specs.declared.colours.Phase.TheVariants.{Idle, Statics, Frames, Mark, Append}
use Rattle.model.specs.declared.journals.HeapShape.{HeapShape}
use Rattle.model.specs.declared.journals.Limits.{Limits}
use Rattle.model.specs.declared.journals.Outcome.{Outcome}
use Rattle.model.specs.declared.journals.Outcome.TheVariants.{Done, Object as GotObject, NoRoom as FoundNoRoom}
use Rattle.model.specs.declared.journals.Row.{Row}
use Rattle.model.specs.declared.turns.Abrupt.{Abrupt}
use Rattle.model.specs.declared.turns.Actor.{Actor}
use Rattle.model.specs.declared.turns.Actor.TheVariants.{Thread, Collector}
use Rattle.model.specs.declared.turns.Exception.{Exception}
use Rattle.model.specs.declared.turns.Exception.TheVariants.{NoClassDefFound}
use Rattle.model.specs.declared.turns.Fault.{Fault}
use Rattle.model.specs.declared.turns.Fault.TheVariants.{NoInstruction, StackFull}
use Rattle.model.specs.declared.turns.Turn.{Turn}
use Rattle.model.specs.declared.values.Value.TheVariants.{Ref}
use Rattle.model.specs.ClassListings.{ClassListing}
use Rattle.model.specs.Classes.Exceptions.{exception_class}
use Rattle.model.specs.Accounts.{Account, take_cell, has_room, opening_account}
use Rattle.model.specs.declared.colours.Cell.{Cell}
use Rattle.model.specs.declared.colours.Cell.TheVariants.{Free, Taken}
use Rattle.model.specs.Frames.{Frame, Moved, running, with_running, replaced_if_room}
use Rattle.model.specs.Worlds.{World, Contents, frames_at, with_thread, with_fault, with_output, with_class_states}
use Rattle.model.specs.Worlds.{counted, plain_object, opening_world}
use Rattle.model.specs.Worlds.Thread.{Live}
use Rattle.model.specs.Objects.{made_of, with_object, words_in}
use Rattle.model.specs.Results.{Effect}
use Rattle.model.specs.Unwinding.{thrown}
use Rattle.model.specs.Completions.{Completion}
use Rattle.model.specs.Completions.Completion.{Goes, Prints, Creates, Throws, Raises, Denies, Faults, Waits}
use Rattle.model.specs.Turns.{refusal, is_fault}
use Rattle.model.specs.Table.Next.{completion, asked}
use Rattle.model.specs.Machines.{outcome_by, reported_of}
use Rattle.model.specs.Collector.Places.{slots_of, entries_at, words_of, root_at, word_at}
use Rattle.model.specs.Collector.Places.Place.{Slot, FrameEntry, MethodMonitor}
use Rattle.model.specs.Collector.Table.{cell_at, at_phase, append_step}
use Rattle.join.specs.OnCells.{nobody, on_cells}

-- What turns do on cells. What an instruction comes to is reported by the instruction table itself, on the world on
-- cells; what follows looks at a cell, or writes one, where the account's definitions speak of births.

-- a world whose references are numbers of cells and one more, the account with such references in its grey list, and
-- the number of the next birth, which the world on cells doesn't tell
pub record CellMachine : Type 0 where
  pub world : World
  pub account : Account
  pub births : ℕ

-- ---- shading: one look at a cell, and one write

abbrev pub shade_at : Account → ℕ → Cell → Account
shade_at a c Free = a
shade_at a c (Taken b White) = record a { cells = slice_set a.cells c (Taken b Grey); grey = a.grey ++ suc c ∷ [] }
shade_at a c (Taken b Grey) = a
shade_at a c (Taken b Black) = a

abbrev pub shade_cell : Account → ℕ → Account
shade_cell a zero = a
shade_cell a (suc c) = shade_at a c (cell_at a.cells c)

abbrev pub shade_cells : Account → List ℕ → Account
shade_cells a [] = a
shade_cells a (r ∷ rs) = shade_cells (shade_cell a r) rs

abbrev pub shade_cell_if : Account → Option ℕ → Account
shade_cell_if a None = a
shade_cell_if a (Some r) = shade_cell a r

-- ---- a collector's step

abbrev pub black_at : Account → ℕ → Cell → List Cell
black_at a c Free = a.cells
black_at a c (Taken b colour) = slice_set a.cells c (Taken b Black)

abbrev pub blacken_cell : Account → ℕ → List Cell
blacken_cell a zero = a.cells
blacken_cell a (suc c) = black_at a c (cell_at a.cells c)

abbrev pub statics_on : World → Account → ℕ → Bool → Account
statics_on w a s true = at_phase (shade_cell_if a (root_at w (Slot s))) (Statics (s + 1))
statics_on w a s false = at_phase a (Frames 0 0 0)

-- whether there is such a thread, such a frame and such an entry
abbrev pub frames_on : World → Account → ℕ → ℕ → ℕ → Bool → Bool → Bool → Account
frames_on w a t d j true true true = at_phase (shade_cell_if a (root_at w (FrameEntry t d j))) (Frames t d (j + 1))
frames_on w a t d j true true false = at_phase (shade_cell_if a (root_at w (MethodMonitor t d))) (Frames t (d + 1) 0)
frames_on w a t d j true false entry = at_phase a (Frames (t + 1) 0 0)
frames_on w a t d j false frame entry = at_phase a (Mark 0)

abbrev pub word_on : World → Account → ℕ → ℕ → List ℕ → Bool → Account
word_on w a q r rest true = at_phase (shade_cell_if a (word_at w r q)) (Mark (q + 1))
word_on w a q r rest false = record a { cells = blacken_cell a r; grey = rest; phase = Mark 0 }

abbrev pub mark_on : World → Account → ℕ → List ℕ → Account
mark_on w a q [] = at_phase a (Append 0)
mark_on w a q (r ∷ rest) = word_on w a q r rest (nat_lt q (length (words_of w.objects r)))

-- what becomes of the account
abbrev pub step_on : HeapShape → World → Account → Phase → Account
step_on shape w a Idle = at_phase (shade_cell (shade_cell a 1) 2) (Statics 0)
step_on shape w a (Statics s) = statics_on w a s (nat_lt s (length (slots_of w)))
step_on shape w a (Frames t d j) =
    frames_on w a t d j (nat_lt t (length w.threads)) (nat_lt d (length (frames_at w t)))
    (nat_lt j (length (entries_at (frames_at w t) d)))
step_on shape w a (Mark q) = mark_on w a q a.grey
step_on shape w a (Append p) = append_step shape a p (nat_lt p (length a.cells))

-- a cell that is given back holds nobody
abbrev pub emptied : World → ℕ → Cell → World
emptied w p Free = w
emptied w p (Taken b White) = with_object w (suc p) nobody
emptied w p (Taken b Grey) = w
emptied w p (Taken b Black) = w

-- what becomes of the world
abbrev pub swept_on : World → Account → Phase → World
swept_on w a Idle = w
swept_on w a (Statics s) = w
swept_on w a (Frames t d j) = w
swept_on w a (Mark q) = w
swept_on w a (Append p) = emptied w p (cell_at a.cells p)

unfoldable pub collected_on : HeapShape → CellMachine → CellMachine
collected_on shape x = record {
  world = swept_on x.world x.account x.account.phase;
  account = step_on shape x.world x.account x.account.phase;
  births = x.births;
}

-- ---- a thread's turn, by what its instruction comes to

-- a cell that was taken off its list gets a birth, grey and last in the grey list
abbrev pub birth_in : Account → ℕ → ℕ → Account
birth_in a c birth = record a { cells = slice_set a.cells c (Taken birth Grey); grey = a.grey ++ suc c ∷ [] }

-- what was written is shaded; a fault leaves the machine as it was but for itself, and no cell is taken
abbrev pub carried_unless : CellMachine → Account → ℕ → Effect → Option (Fault × ℕ) → CellMachine
carried_unless x a births e None = record { world = e.after; account = shade_cells a e.writes; births = births }
carried_unless x a births e (Some fault) = record { world = e.after; account = x.account; births = x.births }

abbrev pub carried_on : CellMachine → Account → ℕ → Effect → CellMachine
carried_on x a births e = carried_unless x a births e e.after.fault

abbrev pub faulted_on : CellMachine → ℕ → Fault → CellMachine
faulted_on x t fault = record { world = with_fault x.world t fault; account = x.account; births = x.births }

-- the new object is in its cell, and its reference on the stack; F2 where it has no room
abbrev pub created_with_on : CellMachine → ℕ → ℕ → Account → Contents → Result Moved Abrupt → CellMachine
created_with_on x t c a contents (Err abrupt) = faulted_on x t StackFull
created_with_on x t c a contents (Ok moved) = record {
  world =
      with_thread (with_object x.world (suc c) (made_of contents)) t
      (Live (with_running (frames_at x.world t) moved.frame));
  account = shade_cells (birth_in a c x.births) moved.writes;
  births = x.births + 1;
}

abbrev pub created_in : CellMachine → ℕ → ℕ → ℕ → Contents → ℕ → Account → Option Frame → CellMachine
created_in x t next taken contents c a None = faulted_on x t NoInstruction
created_in x t next taken contents c a (Some f) =
    created_with_on x t c a contents (replaced_if_room next f taken (Ref (Some (suc c)) ∷ []))

-- by the cell that is taken, if one has room, else the OutOfMemoryError is thrown
abbrev pub created_at : List ClassListing → CellMachine → ℕ → ℕ → ℕ → Contents → Option (ℕ × Account) → CellMachine
created_at program x t next taken contents None =
    carried_on x x.account x.births (thrown program x.world x.world t 1)
created_at program x t next taken contents (Some cell) =
    created_in x t next taken contents cell.0 cell.1 (running (frames_at x.world t))

-- an exception is made and thrown, in a world that may differ from the machine's in its class states
abbrev pub raised_at : List ClassListing → CellMachine → World → ℕ → Exception → Option (ℕ × Account) → CellMachine
raised_at program x w t exception None = carried_on x x.account x.births (thrown program x.world w t 1)
raised_at program x w t exception (Some cell) =
    carried_on x (birth_in cell.1 cell.0 x.births) (x.births + 1)
    (thrown program x.world (with_object w (suc cell.0) (plain_object (exception_class exception))) t (suc cell.0))

unfoldable pub turned_on : List ClassListing → CellMachine → ℕ → Completion → CellMachine
turned_on program x t (Goes after writes) =
    record { world = after; account = shade_cells x.account writes; births = x.births }
turned_on program x t (Prints after bytes) =
    record { world = with_output after (after.output ++ bytes); account = x.account; births = x.births }
turned_on program x t (Creates next taken contents) =
    created_at program x t next taken contents (take_cell x.account (words_in contents))
turned_on program x t (Throws r) = carried_on x x.account x.births (thrown program x.world x.world t r)
turned_on program x t (Raises exception) = raised_at program x x.world t exception (take_cell x.account 0)
turned_on program x t (Denies states) =
    raised_at program x (with_class_states x.world states) t NoClassDefFound (take_cell x.account 0)
turned_on program x t (Faults fault) = faulted_on x t fault
turned_on program x t Waits = x

-- ---- an actor's turn, unless it is refused

abbrev pub acted_on : List ClassListing → HeapShape → CellMachine → Actor → CellMachine
acted_on program shape x (Thread t) = turned_on program x t (completion program x.world t)
acted_on program shape x Collector = collected_on shape x

abbrev pub counted_on : CellMachine → CellMachine
counted_on x = record { world = counted x.world; account = x.account; births = x.births }

abbrev pub unless_refused_on : List ClassListing → HeapShape → CellMachine → Actor → Option Turn → CellMachine
unless_refused_on program shape x actor (Some refused) = x
unless_refused_on program shape x actor None = counted_on (acted_on program shape x actor)

unfoldable pub moved_on : List ClassListing → HeapShape → Limits → CellMachine → Actor → CellMachine
moved_on program shape limits x actor = unless_refused_on program shape x actor (refusal program limits x.world actor)

-- ---- the row of a turn

abbrev pub faults_on : List ClassListing → CellMachine → ℕ → Bool
faults_on program x t = is_fault (turned_on program x t (completion program x.world t)).world

-- what comes of a turn that asks for so many words, unless it faults
abbrev pub outcome_if_on : Account → Option ℕ → Outcome
outcome_if_on a None = Done
outcome_if_on a (Some words) = if has_room a words then GotObject else FoundNoRoom

abbrev pub outcome_on : List ClassListing → CellMachine → Actor → Outcome
outcome_on program x (Thread t) = outcome_by (faults_on program x t) (outcome_if_on x.account (asked program x.world t))
outcome_on program x Collector = Done

abbrev pub row_if_on : List ClassListing → CellMachine → Actor → ℕ → Option Turn → Option Row
row_if_on program x actor worker (Some refused) = None
row_if_on program x actor worker None =
    Some (record { actor = actor; outcome = outcome_on program x actor; worker = worker })

-- the row that an actor's turn makes, if it makes one
abbrev pub row_on : List ClassListing → Limits → CellMachine → Actor → ℕ → Option Row
row_on program limits x actor worker = row_if_on program x actor worker (refusal program limits x.world actor)

-- what an actor's turn answers
abbrev pub answer_if_on : CellMachine → Option Turn → Turn
answer_if_on after (Some refused) = refused
answer_if_on after None = reported_of after.world.fault

abbrev pub answer_on : List ClassListing → HeapShape → Limits → CellMachine → Actor → Turn
answer_on program shape limits x actor =
    answer_if_on (moved_on program shape limits x actor) (refusal program limits x.world actor)

-- ---- a run

-- one turn for each actor in order, whatever each comes to
abbrev pub moved_on_by_all : List ClassListing → HeapShape → Limits → CellMachine → List Actor → CellMachine
moved_on_by_all program shape limits x [] = x
moved_on_by_all program shape limits x (actor ∷ actors) =
    moved_on_by_all program shape limits (moved_on program shape limits x actor) actors

-- ---- the opening: births 1 and 2 are in the first two cells, so that each birth is named by itself

abbrev pub opening_on : List ClassListing → HeapShape → CellMachine
opening_on program shape = record {
  world = on_cells (λ b. b) (opening_account shape).cells (opening_world program);
  account = opening_account shape;
  births = 3;
}

-- the machine on cells after one turn for each actor
unfoldable pub cells_after : List ClassListing → HeapShape → Limits → List Actor → CellMachine
cells_after program shape limits actors = moved_on_by_all program shape limits (opening_on program shape) actors
