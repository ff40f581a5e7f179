use Rattle.std.specs.Prelude.{ℕ, zero, suc, ◌+◌, List, [], ◌∷◌, ◌++◌, codes, length, map, Option, Some, None}
use Rattle.std.specs.Fmt.{decimal}
use Rattle.std.specs.List.{flat_map}
use Rattle.debug_texts.specs.Answers.{birth_text, line, numbered, stack_text, values_text}
use Rattle.explore_texts.specs.Reports.{report_text}
use Rattle.explore_texts.specs.Witnesses.{move_line}
use Rattle.exploring.specs.Explorations.{Finding, Report}
use Rattle.model.specs.Accounts.{Account}
use Rattle.model.specs.ClassListings.{ClassListing}
use Rattle.model.specs.Machines.{Recorded, machine_of}
use Rattle.model.specs.Observers.{fault_of, ideal, next_birth_of, phase_of, pick_of, status_of, thread_of}
use Rattle.model.specs.Shows.{Held, ObjectKind}
use Rattle.model.specs.Shows.ObjectKind.{OfClass, OfElements}
use Rattle.model.specs.Texts.Disassembling.{text_of}
use Rattle.page_texts.specs.Shown.{fault_line, lists_text, state_line, thread_line, whole_text}
use Rattle.scheduler.specs.Showing.{shown_in}

-- What a world answers to each look at it.

abbrev pub state_text : Recorded → List ℕ
state_text v =
    state_line (status_of v) (ideal v).rows (next_birth_of v) (pick_of v) (phase_of v) ++ fault_line (fault_of v)

-- ---- threads

abbrev pub thread_text : Recorded → ℕ → List ℕ
thread_text v n = thread_line n (thread_of v n) ++ stack_text v.program (thread_of v n)

-- so many threads from one on
abbrev pub threads_from : Recorded → ℕ → ℕ → List ℕ
threads_from v n zero = []
threads_from v n (suc k) = thread_text v n ++ threads_from v (n + 1) k

abbrev pub threads_text : Recorded → List ℕ
threads_text v = threads_from v 0 (length (ideal v).threads)

-- ---- what cells hold

abbrev pub kind_word : ObjectKind → List ℕ
kind_word (OfClass class) = class
kind_word (OfElements element) = 91 ∷ element

-- a number, or a hyphen
abbrev pub maybe_word : Option ℕ → List ℕ
maybe_word None = codes "-"
maybe_word (Some n) = decimal n

-- who owns a monitor, and how often it was entered
abbrev pub monitor_words : Option ℕ → ℕ → List ℕ
monitor_words owner count = codes " owner " ++ maybe_word owner ++ 32 ∷ decimal count

-- the birth, the kind, the monitor
abbrev pub owned_words : Held → List ℕ
owned_words h = birth_text h.birth ++ 32 ∷ kind_word h.kind ++ monitor_words h.monitor.owner h.monitor.count

-- the thread, and the words
abbrev pub words_words : Held → List ℕ
words_words h = codes " thread " ++ maybe_word h.thread ++ codes " words" ++ values_text h.words

abbrev pub object_line : ℕ → Held → List ℕ
object_line number h = line (numbered (codes "held") number ++ 32 ∷ owned_words h ++ words_words h)

abbrev pub held_line : ℕ → Option Held → List ℕ
held_line number None = []
held_line number (Some h) = object_line number h

-- of cells from one on
abbrev pub helds_from : ℕ → List (Option Held) → List ℕ
helds_from number [] = []
helds_from number (h ∷ hs) = held_line number h ++ helds_from (number + 1) hs

abbrev pub helds_text : Recorded → List ℕ
helds_text v = helds_from 0 (map (shown_in (machine_of v)) (machine_of v).account.cells)

-- ---- the lists of the heap's cells

abbrev pub account_lists_text : Account → List ℕ
account_lists_text a = lists_text a.grey a.small a.medium a.large

abbrev pub world_lists_text : Recorded → List ℕ
world_lists_text v = account_lists_text (machine_of v).account

-- ---- listings

abbrev pub listing_text : Option ClassListing → List ℕ
listing_text None = line (codes "error no such class")
listing_text (Some l) = whole_text (codes "listing") (text_of l)

-- ---- every schedule

-- the turns that lead to an outcome
abbrev pub witness_text : Finding → List ℕ
witness_text f = whole_text (codes "witness") (flat_map move_line f.moves)

-- the report, and then the turns that lead to each outcome
abbrev pub exploration_text : Report → List ℕ
exploration_text r = report_text r ++ flat_map witness_text r.found
