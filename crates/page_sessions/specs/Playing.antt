use Rattle.std.specs.Prelude.{◌≡◌, ℕ, List, [], ◌∷◌, ◌++◌, codes, slice_get, take, Bool, Option, Some, None, Result}
use Rattle.debug_texts.specs.Answers.{fields_text}
use Rattle.debug_texts.specs.Commands.{Said, command_of}
use Rattle.debugger.specs.declared.errors.DebugError.{DebugError}
use Rattle.debugger.specs.Sessions.{Answers, Debugged, Does, Doing, SessionBy, Turns}
use Rattle.exploring.specs.Explorations.{AreSound, IsComplete, Report, outcomes_in}
use Rattle.model.specs.JournalTexts.{journal_text}
use Rattle.model.specs.Machines.{Recorded}
use Rattle.model.specs.Observers.{ideal, output_of}
use Rattle.page_texts.specs.declared.requests.Request.{Request}
use Rattle.page_texts.specs.declared.requests.Request.TheVariants.{Rounds, State, Threads, Held, Statics, Methods, Rows}
use Rattle.page_texts.specs.declared.requests.Request.TheVariants.{Lists, Listing, Explore, Output, Journal}
use Rattle.page_texts.specs.Requests.{request_of}
use Rattle.page_texts.specs.Shown.{classes_lines, rounds_text, rows_text, whole_text}
use Rattle.page_sessions.specs.Texts.{exploration_text, helds_text, listing_text, state_text, threads_text, world_lists_text}
use Rattle.scheduler.specs.Rounds.{after_rounds, rounds_answer, rounds_left}

-- A session of requests, and of commands of the debugger.

-- what is true of the report of an exploration
pub record IsExploration (v : Recorded) (no_room : Bool) (r : Report) : Type 0 where
  pub complete : r.cut ≡ None → IsComplete v.program v.journal.limits no_room r.states (outcomes_in r)
  pub sound : AreSound v.program v.journal.limits r.found

-- it is told, and nothing changes
abbrev pub Explores : Debugged → Bool → Debugged → List ℕ → Type 0
Explores s no_room t answer =
    (r : Report) × IsExploration s.world no_room r × Answers s t answer (exploration_text r)

-- a request leads from one state to another, with an answer; all but rounds only look
abbrev pub Asks : Debugged → Request → Debugged → List ℕ → Type 0
Asks s (Rounds n gc) t answer = Turns s (after_rounds s.world 0 gc n) t answer
    (rounds_text (rounds_left s.world 0 gc n) (rounds_answer s.world 0 gc n))
Asks s State t answer = Answers s t answer (state_text s.world)
Asks s Threads t answer = Answers s t answer (threads_text s.world)
Asks s Held t answer = Answers s t answer (helds_text s.world)
Asks s Lists t answer = Answers s t answer (world_lists_text s.world)
Asks s Statics t answer = Answers s t answer (fields_text (ideal s.world).statics.fields)
Asks s Methods t answer = Answers s t answer (classes_lines s.world.program)
Asks s (Rows first count) t answer = Answers s t answer (rows_text s.world.journal.rows first count)
Asks s (Listing class) t answer = Answers s t answer (listing_text (slice_get s.world.program class))
Asks s (Explore states no_room) t answer = Explores s no_room t answer
Asks s Output t answer = Answers s t answer (whole_text (codes "output") (output_of s.world))
Asks s Journal t answer = Answers s t answer (whole_text (codes "journal") (journal_text s.world.journal))

abbrev pub AsksOr : Debugged → Option Request → Option Said → Debugged → List ℕ → Type 0
AsksOr s (Some request) command t answer = Asks s request t answer
AsksOr s None command t answer = Does s command t answer

-- what is kept of a line says a request, or else what it says to the debugger
abbrev pub Plays : Debugged → List ℕ → Debugged → List ℕ → Type 0
Plays s kept t answer = AsksOr s (request_of kept) (command_of kept) t answer

-- the same of a line
abbrev pub PlaysLine : Doing
PlaysLine s line t answer = Plays s (take 201 line) t answer

-- a session of such lines
abbrev pub Session : {A : Type 0} → Result A DebugError → Debugged → Recorded → (before after out now : Option (List ℕ))
    → Type 0
Session result s w before after out now = SessionBy PlaysLine result s w before after out now
