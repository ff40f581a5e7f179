use Rattle.std.proofs.Common.{◌≡◌, ℕ, Bool, true, false, [], ◌∷◌, Option, Some, None, Result, Ok, Err, refl}
use Rattle.model.specs.declared.values.Kind.{Kind}
use Rattle.model.specs.declared.values.Value.{Value}
use Rattle.model.specs.declared.listings.Placed.{Placed}
use Rattle.model.specs.declared.turns.Fault.{Fault}
use Rattle.model.specs.declared.turns.Abrupt.{Abrupt}
use Rattle.model.specs.declared.turns.ClassState.TheVariants.{Done as Initialised}
use Rattle.model.specs.Frames.{Frame, Moved, running, with_running, callers}
use Rattle.model.specs.Locals.{value_on}
use Rattle.model.specs.Programs.{method_at, instruction_of}
use Rattle.model.specs.Initialisation.{runs_initializer, with_states}
use Rattle.model.specs.Monitors.{released}
use Rattle.model.specs.Worlds.{World, next_birth}
use Rattle.model.specs.Worlds.Thread.{Live, Ended}
use Rattle.model.specs.Completions.{Site, frames_in}
use Rattle.model.specs.Table.Returns.{gives, past_invoke, initialised_if, left_world, resumed, resumes, leaves_to}
use Rattle.model.specs.Table.Returns.{leaves_if, return_if, returned}
use Rattle.model.specs.Collector.Places.{ref_of, Reach}
use Rattle.model.specs.Collector.Moves.{CompletionMoves, ResultMoves}
use Rattle.model.proofs.CollectorLemmas.Moving.{frame_same, frames_set, frames_taken, frames_trans}
use Rattle.model.proofs.CollectorLemmas.Stepping.{replaced_lawful, if_room_lawful, abrupt_moves}
use Rattle.model.proofs.CollectorLemmas.Locals.{value_on_known}
use Rattle.model.proofs.CollectorLemmas.Unwinding.{Kept, released_keeps, states_keep}
use Rattle.model.proofs.CollectorLemmas.Table.Monitors.{kept_same, site_kept}

-- a result was reachable, and no result is nothing
abbrev ResultKnown : World → Option Value → Type 0
ResultKnown w None = Unit {0}
ResultKnown w (Some v) = (b : ℕ) → ref_of v ≡ Some b → Reach w b

past_lawful : (w : World) (caller : Frame) (result : Option Value) (invoke : Option Placed) → ResultKnown w result
    → ResultMoves w caller (past_invoke caller result invoke)
past_lawful w caller None None h = tt
past_lawful w caller (Some v) None h = tt
past_lawful w caller None (Some invoke) h = replaced_lawful w invoke.next caller 0 [] tt
past_lawful w caller (Some v) (Some invoke) h = if_room_lawful w invoke.next caller 0 (v ∷ []) (h, tt)

initialised_keeps : (P : ℕ → Type 0) (w v : World) (n class : ℕ) (is : Bool) → Kept P w n v
    → Kept P w n (initialised_if v class is)
initialised_keeps P w v n class true k = states_keep P w v n (with_states Initialised (class ∷ []) v.statics.states) k
initialised_keeps P w v n class false k = k

left_keeps : (P : ℕ → Type 0) (s : Site) → Kept P s.world (next_birth s.world) (left_world s)
left_keeps P s =
    initialised_keeps P s.world (released s.world s.thread s.frame.monitor) (next_birth s.world) s.frame.method.class
    (runs_initializer s.program s.frame)
    (released_keeps P s.world s.world (next_birth s.world) s.thread s.frame.monitor (kept_same P s.world))

resumed_lawful : (s : Site) (caller : Frame) (result : Option Value) (is : Bool) → ResultKnown s.world result
    → ResultMoves s.world caller (resumed s caller result is)
resumed_lawful s caller result true h = (frame_same _ caller, λ b k. absurd k)
resumed_lawful s caller result false h = past_lawful s.world caller result (instruction_of s.program caller) h

resumes_moves : (s : Site) (caller : Frame) (r : Result Moved Abrupt) → running (callers (frames_in s)) ≡ Some caller
    → ResultMoves s.world caller r → CompletionMoves s.world (resumes s r)
resumes_moves s caller (Err abrupt) e h = abrupt_moves s.world abrupt
resumes_moves s caller (Ok m) e h =
    let fs = frames_in s in
    site_kept s (left_world s) (Live (with_running (callers fs) m.frame)) m.writes (left_keeps _ s)
    (frames_trans _ fs (callers fs) (with_running (callers fs) m.frame) (frames_taken _ fs _)
    (frames_set _ (callers fs) _ caller m.frame e h.0)) h.1

leaves_to_moves : (s : Site) (result : Option Value) (o : Option Frame) → running (callers (frames_in s)) ≡ o
    → ResultKnown s.world result → CompletionMoves s.world (leaves_to s result o)
leaves_to_moves s result None e h = site_kept s (left_world s) (Ended None) [] (left_keeps _ s) tt (λ b k. absurd k)
leaves_to_moves s result (Some caller) e h =
    resumes_moves s caller (resumed s caller result (runs_initializer s.program s.frame)) e
    (resumed_lawful s caller result (runs_initializer s.program s.frame) h)

leaves_if_moves : (s : Site) (r : Result Value Fault) → ((v : Value) → r ≡ Ok v → ResultKnown s.world (Some v))
    → CompletionMoves s.world (leaves_if s r)
leaves_if_moves s (Err fault) h = tt
leaves_if_moves s (Ok v) h = leaves_to_moves s (Some v) (running (callers (frames_in s))) refl (h v refl)

return_if_moves : (s : Site) → running (frames_in s) ≡ Some s.frame → (kind : Option Kind) (right : Bool)
    → CompletionMoves s.world (return_if s kind right)
return_if_moves s e kind false = tt
return_if_moves s e None true = leaves_to_moves s None (running (callers (frames_in s))) refl tt
return_if_moves s e (Some kind) true = leaves_if_moves s (value_on kind s.frame.stack)
    (λ v h. value_on_known s.world s.thread s.frame kind v e h)

pub returned_moves : (s : Site) → running (frames_in s) ≡ Some s.frame → (kind : Option Kind)
    → CompletionMoves s.world (returned s kind)
returned_moves s e kind = return_if_moves s e kind (gives kind (method_at s.program s.frame.method))
