use Rattle.std.specs.Prelude.{ℕ, ◌+◌, ◌-◌, List, [], ◌∷◌, ◌++◌, codes, length, slice_get, Option, Some, None}
use Rattle.std.specs.Prelude.{if◌then◌else◌, nat_eq}
use Rattle.std.specs.Fmt.{decimal}
use Rattle.model.specs.declared.turns.Fault.{Fault}
use Rattle.model.specs.declared.turns.Status.{Status}
use Rattle.model.specs.declared.turns.Status.TheVariants.{Running, Finished, Stuck, Faulted}
use Rattle.model.specs.Faults.{fault_number}
use Rattle.exploration.specs.declared.ends.End.{End}
use Rattle.exploration.specs.declared.ends.End.TheVariants.{Lives, Ended}
use Rattle.exploring.specs.declared.explored.Cut.{Cut}
use Rattle.exploring.specs.declared.explored.Cut.TheVariants.{States, Memory, Depth}
use Rattle.exploring.specs.Explorations.{Finding, Report}

-- The text of a report. Each line ends in a newline, and one space stands between two words.

-- the texts of items, numbered from one on
abbrev pub numbered_texts : {A : Type 0} → (ℕ → A → List ℕ) → ℕ → List A → List ℕ
numbered_texts text n [] = []
numbered_texts text n (x ∷ xs) = text n x ++ numbered_texts text (n + 1) xs

-- ---- how an outcome stands

abbrev pub status_words : Status → List ℕ
status_words Running = codes "output limit"
status_words Finished = codes "finished"
status_words Stuck = codes "stuck"
status_words Faulted = codes "fault"

-- numbers as they print
abbrev pub fault_line : List ℕ → List ℕ → List ℕ → List ℕ
fault_line number fault thread =
    codes "outcome " ++ (number ++ (codes ": fault F" ++ (fault ++ (codes " in thread " ++ (thread ++ 10 ∷ [])))))

abbrev pub status_line : List ℕ → List ℕ → List ℕ
status_line number words = codes "outcome " ++ (number ++ (codes ": " ++ (words ++ 10 ∷ [])))

abbrev pub head_line : ℕ → Status → Option (Fault × ℕ) → List ℕ
head_line n status None = status_line (decimal n) (status_words status)
head_line n status (Some f) = fault_line (decimal n) (decimal (fault_number f.0)) (decimal f.1)

-- ---- threads that an exception ended

abbrev pub ended_line : ℕ → List ℕ → List ℕ
ended_line thread class = codes "thread " ++ (decimal thread ++ (codes " ended by " ++ (class ++ 10 ∷ [])))

abbrev pub end_line : ℕ → End → List ℕ
end_line thread Lives = []
end_line thread (Ended None) = []
end_line thread (Ended (Some class)) = ended_line thread class

-- ---- how many turns lead to it, how many bytes were printed, and these

abbrev pub closing_after : Option ℕ → List ℕ
closing_after None = []
closing_after (Some byte) = if nat_eq byte 10 then [] else 10 ∷ []

-- a newline where the output doesn't end in one
abbrev pub closing : List ℕ → List ℕ
closing output = closing_after (slice_get output (length output - 1))

-- numbers as they print
abbrev pub tail_of : List ℕ → List ℕ → List ℕ → List ℕ → List ℕ
tail_of turns size output closing =
    codes "turns " ++ (turns ++ (codes "\noutput " ++ (size ++ (codes "\n" ++ (output ++ closing)))))

abbrev pub tail_text : ℕ → List ℕ → List ℕ
tail_text turns output = tail_of (decimal turns) (decimal (length output)) output (closing output)

abbrev pub parts_text : ℕ → Status → Option (Fault × ℕ) → List End → ℕ → List ℕ → List ℕ
parts_text n status fault ends turns output =
    head_line n status fault ++ (numbered_texts end_line 0 ends ++ tail_text turns output)

abbrev pub found_text : ℕ → Finding → List ℕ
found_text n f = parts_text n f.outcome.status f.outcome.fault f.outcome.ends (length f.moves) f.outcome.output

-- ---- the last line

abbrev pub cut_words : Option Cut → List ℕ
cut_words None = codes "complete"
cut_words (Some States) = codes "cut off: states"
cut_words (Some Memory) = codes "cut off: memory"
cut_words (Some Depth) = codes "cut off: depth"

-- numbers as they print
abbrev pub last_of : List ℕ → List ℕ → List ℕ → List ℕ
last_of states turns how =
    codes "explored " ++ (states ++ (codes " states, " ++ (turns ++ (codes " turns: " ++ (how ++ 10 ∷ [])))))

abbrev pub last_line : ℕ → ℕ → Option Cut → List ℕ
last_line states turns cut = last_of (decimal states) (decimal turns) (cut_words cut)

-- ---- the whole: outcomes in the order in which they were found, and how far the exploration went

abbrev pub whole_text : List Finding → ℕ → ℕ → Option Cut → List ℕ
whole_text found states turns cut = numbered_texts found_text 1 found ++ last_line states turns cut

abbrev pub report_text : Report → List ℕ
report_text r = whole_text r.found r.states r.turns r.cut
