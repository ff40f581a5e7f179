use Rattle.std.specs.Prelude.{ℕ, List, [], ◌∷◌, ◌++◌, codes, drop, length, take, Option, Some, None}
use Rattle.std.specs.Fmt.{decimal}
use Rattle.debug_texts.specs.Answers.{birth_text, line, numbered, turn_text}
use Rattle.model.specs.declared.colours.Phase.{Phase}
use Rattle.model.specs.declared.colours.Phase.TheVariants.{Idle, Statics, Frames, Mark, Append}
use Rattle.model.specs.declared.journals.Row.{Row}
use Rattle.model.specs.declared.listings.Method.{Method}
use Rattle.model.specs.declared.listings.Placed.{Placed}
use Rattle.model.specs.declared.turns.Fault.{Fault}
use Rattle.model.specs.declared.turns.Status.{Status}
use Rattle.model.specs.declared.turns.Turn.{Turn}
use Rattle.model.specs.declared.turns.Status.TheVariants.{Running, Finished, Stuck, Faulted}
use Rattle.model.specs.ClassListings.{ClassListing}
use Rattle.model.specs.CodeListings.{CodeListing}
use Rattle.model.specs.Faults.{fault_number}
use Rattle.model.specs.JournalTexts.{lines_of_rows, row_line}
use Rattle.model.specs.Worlds.{Thread}
use Rattle.model.specs.Worlds.Thread.{Live, Ended}

-- The text of each answer that the debugger doesn't have.

-- ---- how a world stands

abbrev pub status_word : Status → List ℕ
status_word Running = codes "running"
status_word Finished = codes "finished"
status_word Stuck = codes "stuck"
status_word Faulted = codes "faulted"

-- a thread, or none
abbrev pub next_word : Option ℕ → List ℕ
next_word None = codes "-"
next_word (Some t) = decimal t

-- the phase, and where in it the collector stands
abbrev pub position_words : Phase → List ℕ
position_words Idle = codes "idle"
position_words (Statics slot) = numbered (codes "statics") slot
position_words (Frames thread frame entry) = numbered (numbered (numbered (codes "frames") thread) frame) entry
position_words (Mark word) = numbered (codes "mark") word
position_words (Append cell) = numbered (codes "append") cell

abbrev pub counts_words : ℕ → ℕ → List ℕ
counts_words rows births = numbered (codes " rows") rows ++ numbered (codes " births") births

abbrev pub state_line : Status → ℕ → ℕ → Option ℕ → Phase → List ℕ
state_line status rows births next phase =
    line (codes "state " ++ status_word status ++ counts_words rows births ++ codes " next " ++ next_word next
    ++ codes " phase " ++ position_words phase)

abbrev pub fault_line : Option (Fault × ℕ) → List ℕ
fault_line None = []
fault_line (Some fault) =
    line (codes "fault F" ++ decimal (fault_number fault.0) ++ numbered (codes " thread") fault.1)

-- ---- threads

abbrev pub end_words : Option (List ℕ) → List ℕ
end_words None = codes " ended\n"
end_words (Some class) = codes " ended by " ++ class ++ 10 ∷ []

abbrev pub life_words : Option Thread → List ℕ
life_words None = codes " none\n"
life_words (Some (Live frames)) = codes " lives\n"
life_words (Some (Ended by)) = end_words by

abbrev pub thread_line : ℕ → Option Thread → List ℕ
thread_line number thread = numbered (codes "thread") number ++ life_words thread

-- ---- methods

-- each after a space
abbrev pub places_text : List Placed → List ℕ
places_text [] = []
places_text (placed ∷ rest) = 32 ∷ (decimal placed.pc ++ places_text rest)

abbrev pub places_of : Option CodeListing → List ℕ
places_of None = []
places_of (Some code) = places_text code.instructions

abbrev pub method_line : Method → List ℕ
method_line m = line (codes "method " ++ m.name ++ m.descriptor ++ places_of m.code)

abbrev pub methods_lines : List Method → List ℕ
methods_lines [] = []
methods_lines (m ∷ ms) = method_line m ++ methods_lines ms

abbrev pub class_lines : ClassListing → List ℕ
class_lines c = line (codes "class " ++ c.name) ++ methods_lines c.methods

abbrev pub classes_lines : List ClassListing → List ℕ
classes_lines [] = []
classes_lines (c ∷ cs) = class_lines c ++ classes_lines cs

-- ---- the lists of the heap's cells

-- each after a space
abbrev pub births_words : List ℕ → List ℕ
births_words [] = []
births_words (b ∷ bs) = 32 ∷ (birth_text b ++ births_words bs)

abbrev pub cells_words : List ℕ → List ℕ
cells_words [] = []
cells_words (c ∷ cs) = 32 ∷ (decimal c ++ cells_words cs)

-- the free cells of so many words
abbrev pub free_line : ℕ → List ℕ → List ℕ
free_line words cells = line (numbered (codes "free") words ++ cells_words cells)

abbrev pub grey_line : List ℕ → List ℕ
grey_line births = line (codes "grey" ++ births_words births)

abbrev pub lists_text : (grey small medium large : List ℕ) → List ℕ
lists_text grey small medium large =
    grey_line grey ++ free_line 4 small ++ free_line 32 medium ++ free_line 256 large

-- ---- rows

abbrev pub rows_text : List Row → ℕ → ℕ → List ℕ
rows_text rows first count = lines_of_rows row_line (take count (drop first rows))

-- ---- whole texts

abbrev pub whole_text : List ℕ → List ℕ → List ℕ
whole_text word text = line (numbered word (length text)) ++ text

-- ---- rounds

-- how many are left, and what the last thread's turn answered
abbrev pub rounds_text : ℕ → Turn → List ℕ
rounds_text left answer = codes "left " ++ (decimal left ++ (codes ": " ++ turn_text answer))
