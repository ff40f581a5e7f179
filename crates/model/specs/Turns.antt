use Rattle.std.specs.Prelude.{ℕ, ◌+◌, List, length, nat_lt, nat_le, Bool, true, false, Option, Some, None, is_some}
use Rattle.std.specs.Prelude.{if◌then◌else◌}
use Rattle.model.specs.declared.journals.Limits.{Limits}
use Rattle.model.specs.declared.journals.Outcome.{Outcome}
use Rattle.model.specs.declared.journals.Outcome.TheVariants.{Done as WasDone, Object as GotObject}
use Rattle.model.specs.declared.journals.Outcome.TheVariants.{NoRoom as FoundNoRoom, Fault as WasFault}
use Rattle.model.specs.declared.turns.Actor.{Actor}
use Rattle.model.specs.declared.turns.Actor.TheVariants.{Thread, Collector}
use Rattle.model.specs.declared.turns.Fault.{Fault}
use Rattle.model.specs.declared.turns.Turn.{Turn}
use Rattle.model.specs.declared.turns.Turn.TheVariants.{NotReady, Stopped, OutputFull, StepLimit}
use Rattle.model.specs.ClassListings.{ClassListing}
use Rattle.model.specs.Worlds.{World, counted}
use Rattle.model.specs.Effects.{Choice}
use Rattle.model.specs.Effects.Choice.{NewObject, NoRoom}
use Rattle.model.specs.Completions.{prints}
use Rattle.model.specs.Table.Next.{completion, next}
use Rattle.model.specs.Ready.{is_ready}

-- ---- what a thread's turn would print

abbrev pub print_of : List ClassListing → World → ℕ → Option (List ℕ)
print_of program w t = prints (completion program w t)

abbrev pub passes : ℕ → List ℕ → Option (List ℕ) → Bool
passes limit output None = false
passes limit output (Some bytes) = nat_lt limit (length output + length bytes)

-- whether a thread's next instruction prints, its operand being right, more than the output has room for
abbrev pub overflows : List ClassListing → Limits → World → ℕ → Bool
overflows program limits w t = passes limits.output w.output (print_of program w t)

-- ---- the rules of a turn: the first that holds refuses it

abbrev pub thread_refusal : List ClassListing → Limits → World → ℕ → Option Turn
thread_refusal program limits w t =
    if is_ready program w t
    then (if overflows program limits w t then Some OutputFull else None)
    else Some NotReady

-- the collector is always ready
abbrev pub actor_refusal : List ClassListing → Limits → World → Actor → Option Turn
actor_refusal program limits w (Thread t) = thread_refusal program limits w t
actor_refusal program limits w Collector = None

abbrev pub refusal_after : List ClassListing → Limits → World → Actor → Option (Fault × ℕ) → Option Turn
refusal_after program limits w actor (Some fault) = Some Stopped
refusal_after program limits w actor None =
    if nat_le limits.steps w.rows then Some StepLimit else actor_refusal program limits w actor

-- what refuses an actor's turn, if anything does
unfoldable pub refusal : List ClassListing → Limits → World → Actor → Option Turn
refusal program limits w actor = refusal_after program limits w actor w.fault

-- ---- the ideal run

abbrev pub is_fault : World → Bool
is_fault w = is_some w.fault

-- a fault changes nothing else, so where both choices lead to it the world after it is one
abbrev pub faulting : Bool → Choice
faulting true = NewObject
faulting false = NoRoom

-- the choice by which a thread's turn came to its outcome: that of a fault is one by which the turn faults
abbrev pub choice_of : List ClassListing → World → ℕ → Outcome → Choice
choice_of program w t WasDone = NewObject
choice_of program w t GotObject = NewObject
choice_of program w t FoundNoRoom = NoRoom
choice_of program w t WasFault = faulting (is_fault (next program w t NewObject).after)

-- the collector asks for no cell
abbrev pub choice_by : List ClassListing → World → Actor → Outcome → Choice
choice_by program w (Thread t) outcome = choice_of program w t outcome
choice_by program w Collector outcome = NewObject

abbrev pub acted : List ClassListing → World → Actor → Choice → World
acted program w (Thread t) choice = (next program w t choice).after
acted program w Collector choice = w

abbrev pub unless_refused : List ClassListing → World → Actor → Choice → Option Turn → World
unless_refused program w actor choice (Some refused) = w
unless_refused program w actor choice None = counted (acted program w actor choice)

-- one pair of the ideal run: an actor and its choice. A collector's turn changes nothing but the count of rows.
abbrev pub ideal_step : List ClassListing → Limits → World → Actor → Choice → World
ideal_step program limits w actor choice = unless_refused program w actor choice (refusal program limits w actor)
