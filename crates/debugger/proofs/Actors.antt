-- Whatever a session does, some list of actors leads to the world after it.
use Rattle.std.proofs.Common.{◌≡◌, inl, inr, ◌∙◌, ℕ, zero, suc, List, [], ◌∷◌, ◌++◌, Bool, true, false, Option, Some, None}
use Rattle.std.proofs.Common.{Result, Ok, Err, refl, ap}
use Rattle.std.specs.Prelude.{if◌then◌else◌}
use Rattle.debug_texts.specs.Commands.{Said, command_of}
use Rattle.debug_texts.specs.Commands.Said.{Break, Delete, Step, Collect, Run, Stack, Object, Heap, Class, Quit}
use Rattle.debug_texts.specs.declared.answers.Reason.TheVariants.{Turn as ByTurn}
use Rattle.model.specs.declared.places.CodePlace.{CodePlace}
use Rattle.model.specs.declared.turns.Actor.{Actor}
use Rattle.model.specs.declared.turns.Actor.TheVariants.{Thread, Collector}
use Rattle.model.specs.Machines.{Recorded, after_turn_by, after_turns, answer_to}
use Rattle.model.specs.Observers.{is_running, pick_of, status_of}
use Rattle.scheduler.specs.Rounds.{is_done, picked, picked_answer, turned_by}
use Rattle.debugger.specs.declared.errors.DebugError.{DebugError}
use Rattle.debugger.specs.declared.errors.DebugError.TheVariants.{Read, Write, Memory}
use Rattle.debugger.specs.Breakpoints.{Breakpoints, at_number, place_named}
use Rattle.debugger.specs.Runs.{Ran, after_done, collected, ended, held_unless, one_more, reason_of, run_on, unless_held}
use Rattle.debugger.specs.Sessions.{AllDone, Breaks, Debugged, Deletes, Does, DoesLine, Ends, LedByActors}
use Rattle.debugger.specs.Sessions.{Session, Stops}

led_none : (v : Recorded) → LedByActors v v
led_none v = ([], refl)

led_one : (v : Recorded) (actor : Actor) → LedByActors v (after_turn_by v actor 0)
led_one v actor = (actor ∷ [], refl)

after_both : (v : Recorded) (first rest : List Actor) → after_turns (after_turns v first) rest
    ≡ after_turns v (first ++ rest)
after_both v [] rest = refl
after_both v (actor ∷ first) rest = after_both (after_turn_by v actor 0) first rest

led_then : (u v w : Recorded) → LedByActors u v → LedByActors v w → LedByActors u w
led_then u v w (first, e) (rest, f) =
    (first ++ rest, f ∙ ap (λ (x : Recorded). after_turns x rest) e ∙ after_both u first rest)

-- ---- a run

led_picked : (v : Recorded) (pick : Option ℕ) → LedByActors v (turned_by v 0 pick)
led_picked v None = led_none v
led_picked v (Some t) = led_one v (Thread t)

led_if : (v : Recorded) (b : Bool) (x y : Ran) → LedByActors v x.world → LedByActors v y.world
    → LedByActors v (if b then x else y).world
led_if v true x y p q = p
led_if v false x y p q = q

-- a round, where all that follows is led so
module _ (bs : Breakpoints) (n : ℕ) (v : Recorded) (led : (x : Recorded) → LedByActors x (run_on bs false n x).world)
  where
    abbrev w : Recorded
    w = picked v 0

    abbrev x : Recorded
    x = after_turn_by w Collector 0

    led_swept : LedByActors w (collected (run_on bs false n) w).world
    led_swept = led_if w (is_done (answer_to w Collector 0)) (one_more (run_on bs false n x))
        (ended x 1 (ByTurn (answer_to w Collector 0)))
        (led_then w x (run_on bs false n x).world (led_one w Collector) (led x)) (led_one w Collector)

    led_done : LedByActors w (after_done (run_on bs false n) w).world
    led_done = led_if w (is_running (status_of w)) (collected (run_on bs false n) w) (ended w 1 (reason_of w)) led_swept
        (led_none w)

    led_unless : (held : Option (ℕ × ℕ)) → LedByActors v (unless_held (run_on bs false n) v held).world
    led_unless (Some held) = led_none v
    led_unless None = led_if v (is_done (picked_answer v 0)) (after_done (run_on bs false n) w)
        (ended w 0 (ByTurn (picked_answer v 0)))
        (led_then v w (after_done (run_on bs false n) w).world (led_picked v (pick_of v)) led_done)
        (led_picked v (pick_of v))

led_run : (bs : Breakpoints) (n : ℕ) (first : Bool) (v : Recorded) → LedByActors v (run_on bs first n v).world
led_run bs zero first v = led_none v
led_run bs (suc n) first v = led_if v (is_running (status_of v))
    (unless_held (run_on bs false n) v (held_unless first bs v)) (ended v 0 (reason_of v))
    (led_unless bs n v (led_run bs n false) (held_unless first bs v)) (led_none v)

-- ---- a command

led_same : (s t : Debugged) → t ≡ s → LedByActors s.world t.world
led_same s t e = ([], ap (λ (x : Debugged). x.world) e)

led_broken : (s t : Debugged) (answer : List ℕ) (place : Option CodePlace) → Breaks s place t answer
    → LedByActors s.world t.world
led_broken s t answer None h = led_same s t h.0
led_broken s t answer (Some place) h = ([], h.world)

led_deleted : (s t : Debugged) (answer : List ℕ) (number : ℕ) (place : Option CodePlace) → Deletes s number place t answer
    → LedByActors s.world t.world
led_deleted s t answer number None h = led_same s t h.0
led_deleted s t answer number (Some place) h = ([], h.world)

led_turned : (s t : Debugged) (after : Recorded) → LedByActors s.world after → t.world ≡ after → LedByActors s.world t.world
led_turned s t after (actors, e) is = (actors, is ∙ e)

led_command : (s t : Debugged) (answer : List ℕ) (command : Option Said) → Does s command t answer
    → LedByActors s.world t.world
led_command s t answer None h = led_same s t h.0
led_command s t answer (Some (Break class name descriptor pc)) h =
    led_broken s t answer (place_named s.world.program class name descriptor pc) h
led_command s t answer (Some (Delete number)) h = led_deleted s t answer number (at_number s.breakpoints number) h
led_command s t answer (Some (Step thread)) h = led_turned s t (after_turn_by s.world (Thread thread) 0)
    (led_one s.world (Thread thread)) (ap (λ (x : Debugged). x.world) h.0)
led_command s t answer (Some Collect) h = led_turned s t (after_turn_by s.world Collector 0)
    (led_one s.world Collector) (ap (λ (x : Debugged). x.world) h.0)
led_command s t answer (Some (Run n)) h = led_turned s t (run_on s.breakpoints true n s.world).world
    (led_run s.breakpoints n true s.world) (ap (λ (x : Debugged). x.world) h.0)
led_command s t answer (Some (Stack thread)) h = led_same s t h.0
led_command s t answer (Some (Object birth)) h = led_same s t h.0
led_command s t answer (Some Heap) h = led_same s t h.0
led_command s t answer (Some (Class name)) h = led_same s t h.0
led_command s t answer (Some Quit) h = led_same s t h.0

led_lines : (s t : Debugged) (answers : List ℕ) (lines : List (List ℕ)) → AllDone DoesLine s lines t answers
    → LedByActors s.world t.world
led_lines s t answers [] h = led_same s t h.0
led_lines s t answers (line ∷ lines) (m, first, rest, does, all, is) =
    led_then s.world m.world t.world (led_command s m first (command_of line) does) (led_lines m t rest lines all)

-- ---- a session

led_stop : (e : DebugError) (s : Debugged) (w : Recorded) (mid after out now : Option (List ℕ)) (answers : List ℕ)
    → Stops DoesLine e s w mid after out now answers → LedByActors s.world w
led_stop Read s w mid after out now answers k = ([], k.world)
led_stop Memory s w mid after out now answers k = ([], k.world)
led_stop Write s w mid after out now answers (inl k) =
    let (actors, e) = led_command s k.end k.answer (command_of k.line) k.done in (actors, k.world ∙ e)
led_stop Write s w mid after out now answers (inr k) = ([], k.world)

led_end : {A : Type 0} (result : Result A DebugError) (s : Debugged) (w : Recorded)
    (mid after out now : Option (List ℕ)) (answers : List ℕ) → Ends DoesLine result s w mid after out now answers
    → LedByActors s.world w
led_end (Ok a) s w mid after out now answers k = ([], k.world)
led_end (Err e) s w mid after out now answers k = led_stop e s w mid after out now answers k

pub led_session : {A : Type 0} (result : Result A DebugError) (s : Debugged) (w : Recorded)
    (before after out now : Option (List ℕ)) → Session result s w before after out now → LedByActors s.world w
led_session result s w before after out now k =
    led_then s.world k.end.world w (led_lines s k.end k.answers k.lines k.done)
    (led_end result k.end w k.read_to after out now k.answers k.ends)
