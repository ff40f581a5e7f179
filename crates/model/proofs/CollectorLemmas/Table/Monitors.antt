use Rattle.std.proofs.Common.{codes, ◌≡◌, ◌⊎◌, inr, ℕ, Bool, true, false, List, [], ◌∷◌, map, Option, Some, None}
use Rattle.std.proofs.Common.{Result, Ok, Err, if◌then◌else◌, refl}
use Rattle.model.specs.declared.values.Value.{Value}
use Rattle.model.specs.declared.values.Value.TheVariants.{Int, Long, Ref}
use Rattle.model.specs.declared.turns.Fault.{Fault}
use Rattle.model.specs.declared.instructions.MonitorOperation.{MonitorOperation}
use Rattle.model.specs.declared.instructions.MonitorOperation.TheVariants.{Enter, Exit}
use Rattle.model.specs.Frames.{running, with_running, ref_on, replaced}
use Rattle.model.specs.Worlds.{World, Thread, Monitor, frames_of, next_birth, with_thread}
use Rattle.model.specs.Worlds.Thread.{Live}
use Rattle.model.specs.Monitors.{is_owner, may_enter, is_full, entered, exited, monitor_of, with_monitor_of}
use Rattle.model.specs.Completions.{Completion, Site, frames_in}
use Rattle.model.specs.Table.Monitors.{moved_with, enter_if, operates, operates_on, monitor_operated}
use Rattle.model.specs.Table.Objects.{is_instance}
use Rattle.model.specs.Collector.Places.{ref_of, slots_of, Reach}
use Rattle.model.specs.Collector.Invariant.{In}
use Rattle.model.specs.Collector.Moves.{FramesMove, WorldMoves, CompletionMoves}
use Rattle.model.proofs.CollectorLemmas.Moving.{AllMay, refs_same, frames_set, threads_set, objects_same}
use Rattle.model.proofs.CollectorLemmas.Stepping.{replaced_moves}
use Rattle.model.proofs.CollectorLemmas.Unwinding.{Kept, with_monitor_keeps}

-- ---- a turn in which monitors change beside one thread

pub kept_same : (P : ℕ → Type 0) (w : World) → Kept P w (next_birth w) w
kept_same P w = record {
  fault = refl;
  rows = refl;
  threads = refl;
  fields = refl;
  made = refl;
  objects = objects_same P w.objects;
}

pub site_kept : (s : Site) (v : World) (u : Thread) (writes : List ℕ)
    → Kept (λ b. ⊥ ⊎ In b writes) s.world (next_birth s.world) v
    → FramesMove (λ b. ⊥ ⊎ In b writes) (frames_in s) (frames_of (Some u)) → ((b : ℕ) → In b writes → Reach s.world b)
    → WorldMoves s.world (with_thread v s.thread u) writes
site_kept s v u writes k h known = record {
  fault = k.fault;
  rows = k.rows;
  moves = record {
    counted = k.made;
    statics = rw k.fields (refs_same _ (slots_of s.world));
    threads = rw k.threads (threads_set _ s.world.threads s.thread u h);
    objects = k.objects;
    writes = λ b m. inr (known b m);
  };
}

-- a monitor is no place
pub monitor_keeps : (P : ℕ → Type 0) (w : World) (birth : ℕ) (m : Monitor)
    → Kept P w (next_birth w) (with_monitor_of w birth m)
monitor_keeps P w birth m = with_monitor_keeps P w w (next_birth w) birth m (kept_same P w)

-- ---- what is found, and tests

-- a reference at the top
pub reference_may : (Q : ℕ → Type 0) (stack : List Value) (b : ℕ) → AllMay Q (map ref_of stack) → ref_on stack
    ≡ Ok (Some b) → Q b
reference_may Q [] b h e = absurd (cc)
reference_may Q (Int z ∷ vs) b h e = absurd (cc)
reference_may Q (Long z ∷ vs) b h e = absurd (cc)
reference_may Q (Ref r ∷ vs) b h e = h.0 b (let s : r ≡ Some b = cc in s)

pub if_moves : (w : World) (x : Bool) (c d : Completion) → CompletionMoves w c → CompletionMoves w d
    → CompletionMoves w (if x then c else d)
if_moves w true c d h k = h
if_moves w false c d h k = k

-- ---- monitorenter and monitorexit

with_moves : (s : Site) → running (frames_in s) ≡ Some s.frame → (v : World)
    → ((P : ℕ → Type 0) → Kept P s.world (next_birth s.world) v) → CompletionMoves s.world (moved_with s v)
with_moves s e v k =
    site_kept s v (Live (with_running (frames_in s) (replaced s.next s.frame 1 []).frame)) [] (k _)
    (frames_set _ (frames_in s) _ s.frame _ e (replaced_moves _ s.next s.frame 1 [] tt)) (λ b h. absurd h)

enter_if_moves : (w : World) (entry : Completion) (mine full : Bool) → CompletionMoves w entry
    → CompletionMoves w (enter_if entry mine full)
enter_if_moves w entry false full h = tt
enter_if_moves w entry true true h = tt
enter_if_moves w entry true false h = h

operates_moves : (s : Site) → running (frames_in s) ≡ Some s.frame → (operation : MonitorOperation) (birth : ℕ)
    → CompletionMoves s.world (operates s operation birth)
operates_moves s e Enter birth =
    let m = monitor_of s.world birth in
    enter_if_moves s.world _ (may_enter s.thread m.owner) (is_full m)
    (with_moves s e (with_monitor_of s.world birth (entered s.thread m))
    (λ P. monitor_keeps P s.world birth (entered s.thread m)))
operates_moves s e Exit birth =
    let m = monitor_of s.world birth in
    if_moves s.world (is_owner s.thread m.owner) _ _ (with_moves s e (with_monitor_of s.world birth (exited m))
    (λ P. monitor_keeps P s.world birth (exited m))) tt

operates_on_moves : (s : Site) → running (frames_in s) ≡ Some s.frame
    → (operation : MonitorOperation) (r : Result (Option ℕ) Fault) → CompletionMoves s.world (operates_on s operation r)
operates_on_moves s e operation (Err fault) = tt
operates_on_moves s e operation (Ok None) = tt
operates_on_moves s e operation (Ok (Some birth)) =
    if_moves s.world (is_instance s (codes "java/lang/Object") birth) _ _ (operates_moves s e operation birth) tt

pub monitor_moves : (s : Site) → running (frames_in s) ≡ Some s.frame → (operation : MonitorOperation)
    → CompletionMoves s.world (monitor_operated s operation)
monitor_moves s e operation = operates_on_moves s e operation (ref_on s.frame.stack)
