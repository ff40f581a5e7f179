use Rattle.std.specs.Prelude.{◌≡◌, ℕ, List, [], ◌∷◌, ◌++◌, Bool, true, false, Option, Some, None, refl}
use Rattle.model.specs.declared.journals.HeapShape.{HeapShape}
use Rattle.model.specs.declared.journals.Limits.{Limits}
use Rattle.model.specs.declared.journals.Row.{Row}
use Rattle.model.specs.declared.journals.Outcome.{Outcome}
use Rattle.model.specs.declared.journals.Outcome.TheVariants.{Done, Object, NoRoom, Fault}
use Rattle.model.specs.declared.turns.Actor.{Actor}
use Rattle.model.specs.declared.turns.Actor.TheVariants.{Thread, Collector}
use Rattle.model.specs.declared.turns.Fault.{Fault as FaultKind}
use Rattle.model.specs.declared.turns.Turn.{Turn}
use Rattle.model.specs.declared.turns.Turn.TheVariants.{Done as TurnDone, Fault as TurnFault}
use Rattle.model.specs.ClassListings.{ClassListing}
use Rattle.model.specs.Journals.{JournalValue, blank, with_row as journal_with_row}
use Rattle.model.specs.Worlds.{World, opening_world, next_birth}
use Rattle.model.specs.Effects.Choice.{NewObject, NoRoom as NoneHasRoom}
use Rattle.model.specs.Effects.{Choice}
use Rattle.model.specs.Table.Next.{next, asked}
use Rattle.model.specs.Turns.{refusal, is_fault, choice_of, choice_by, ideal_step}
use Rattle.model.specs.Accounts.{Account, opening_account, has_room, after_turn}
use Rattle.model.specs.Collector.Table.{collected}

-- a world as contracts see it: a program and a journal, from which all else follows
pub record Recorded : Type 0 where
  pub program : List ClassListing
  pub journal : JournalValue

-- what a program and a journal stand for: the ideal world, and the account of the heap
pub record Machine : Type 0 where
  pub world : World
  pub account : Account

-- ---- from the journal to the machine

abbrev pub account_step : List ClassListing → HeapShape → Machine → Actor → Outcome → Account
account_step program shape m (Thread t) outcome =
    after_turn m.account outcome (next_birth m.world) (asked program m.world t)
    (next program m.world t (choice_of program m.world t outcome)).writes
account_step program shape m Collector outcome = collected shape m.world m.account

abbrev pub account_unless_refused : List ClassListing → HeapShape → Machine → Actor → Outcome → Option Turn → Account
account_unless_refused program shape m actor outcome (Some refused) = m.account
account_unless_refused program shape m actor outcome None = account_step program shape m actor outcome

-- the ideal run's step and the account's, side by side
abbrev pub advance : List ClassListing → HeapShape → Limits → Machine → Row → Machine
advance program shape limits m row = record {
  world = ideal_step program limits m.world row.actor (choice_by program m.world row.actor row.outcome);
  account = account_unless_refused program shape m row.actor row.outcome (refusal program limits m.world row.actor);
}

abbrev pub opening_machine : List ClassListing → HeapShape → Machine
opening_machine program shape = record { world = opening_world program; account = opening_account shape }

abbrev pub advance_all : List ClassListing → HeapShape → Limits → Machine → List Row → Machine
advance_all program shape limits m [] = m
advance_all program shape limits m (row ∷ rows) = advance_all program shape limits (advance program shape limits m row)
    rows

unfoldable pub machine_of : Recorded → Machine
machine_of v = advance_all v.program v.journal.shape v.journal.limits (opening_machine v.program v.journal.shape)
    v.journal.rows

-- ---- from the machine to the next row

abbrev pub outcome_by : Bool → Outcome → Outcome
outcome_by true outcome = Fault
outcome_by false outcome = outcome

-- what comes of a turn by a choice: this outcome, unless it faults
abbrev pub outcome_with : List ClassListing → World → ℕ → Choice → Outcome → Outcome
outcome_with program w t choice outcome = outcome_by (is_fault (next program w t choice).after) outcome

abbrev pub outcome_asked : List ClassListing → World → ℕ → Bool → Outcome
outcome_asked program w t true = outcome_with program w t NewObject Object
outcome_asked program w t false = outcome_with program w t NoneHasRoom NoRoom

abbrev pub outcome_if : List ClassListing → Machine → ℕ → Option ℕ → Outcome
outcome_if program m t None = outcome_with program m.world t NewObject Done
outcome_if program m t (Some words) = outcome_asked program m.world t (has_room m.account words)

-- what comes of a turn that nothing refuses: Fault where it faults, whatever it asked for; NoRoom where it asks for a
-- cell and none has room; Object where one has; else Done
abbrev pub outcome_of : List ClassListing → Machine → Actor → Outcome
outcome_of program m (Thread t) = outcome_if program m t (asked program m.world t)
outcome_of program m Collector = Done

abbrev pub row_unless_refused : List ClassListing → Machine → Actor → ℕ → Option Turn → Option Row
row_unless_refused program m actor worker (Some refused) = None
row_unless_refused program m actor worker None = Some (record {
  actor = actor;
  outcome = outcome_of program m actor;
  worker = worker;
})

-- the row that an actor's turn makes, if it makes one
abbrev pub row_by : List ClassListing → Limits → Machine → Actor → ℕ → Option Row
row_by program limits m actor worker = row_unless_refused program m actor worker (refusal program limits m.world actor)

abbrev pub row_for : Recorded → Actor → ℕ → Option Row
row_for v actor worker = row_by v.program v.journal.limits (machine_of v) actor worker

abbrev pub noted : Recorded → Row → Recorded
noted v row = record v { journal = journal_with_row v.journal row }

abbrev pub with_row : Recorded → Option Row → Recorded
with_row v None = v
with_row v (Some row) = noted v row

-- ---- a turn

-- the world after an actor's turn
unfoldable pub after_turn_by : Recorded → Actor → ℕ → Recorded
after_turn_by v actor worker = with_row v (row_for v actor worker)

abbrev pub reported_of : Option (FaultKind × ℕ) → Turn
reported_of None = TurnDone
reported_of (Some fault) = TurnFault fault.0

abbrev pub answer_unless_refused : Recorded → Option Turn → Turn
answer_unless_refused after (Some refused) = refused
answer_unless_refused after None = reported_of (machine_of after).world.fault

-- what an actor's turn answers
unfoldable pub answer_to : Recorded → Actor → ℕ → Turn
answer_to v actor worker = answer_unless_refused (after_turn_by v actor worker)
    (refusal v.program v.journal.limits (machine_of v).world actor)

-- one turn for each actor in order, whatever each answers
abbrev pub after_turns : Recorded → List Actor → Recorded
after_turns v [] = v
after_turns v (actor ∷ actors) = after_turns (after_turn_by v actor 0) actors

-- ---- the opening

-- a world that has made no turn, for one worker
abbrev pub opened : List ClassListing → HeapShape → Limits → Recorded
opened program shape limits = record { program = program; journal = blank shape limits 1 }

-- ---- laws

pub advance_all-push : (program : List ClassListing) (shape : HeapShape) (limits : Limits) (m : Machine)
    (rows : List Row) (row : Row) → advance_all program shape limits m (rows ++ row ∷ [])
    ≡ advance program shape limits (advance_all program shape limits m rows) row
advance_all-push program shape limits m [] row = refl
advance_all-push program shape limits m (r ∷ rows) row = advance_all-push program shape limits
    (advance program shape limits m r) rows row

-- one row more is one step more
pub machine_of-noted : (v : Recorded) (row : Row) → machine_of (noted v row)
    ≡ advance v.program v.journal.shape v.journal.limits (machine_of v) row
unfolding machine_of
machine_of-noted v row = advance_all-push v.program v.journal.shape v.journal.limits
    (opening_machine v.program v.journal.shape) v.journal.rows row
