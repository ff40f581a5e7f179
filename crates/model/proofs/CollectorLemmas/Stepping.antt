use Rattle.std.proofs.Common.{◌≡◌, ◌⊎◌, inl, inr, ℕ, Bool, true, false, List, [], ◌∷◌, ◌++◌, length, take, drop, map}
use Rattle.std.proofs.Common.{reverse, set, Option, Some, None, Result, Ok, Err, nat_le, refl, sym, ◌∙◌, ap}
use Rattle.std.proofs.Common.{append_assoc}
use Rattle.std.proofs.lemmas.List.{reverse-append, map-append, take-append-drop, append-nil}
use Rattle.model.specs.declared.values.Value.{Value}
use Rattle.model.specs.declared.values.Value.TheVariants.{Int, Long, Ref}
use Rattle.model.specs.declared.turns.Abrupt.{Abrupt}
use Rattle.model.specs.declared.turns.Abrupt.TheVariants.{Fault as Faulted, Throw}
use Rattle.model.specs.declared.turns.Exception.{Exception}
use Rattle.model.specs.declared.turns.Exception.TheVariants.{Arithmetic, NullPointer, ClassCast, NegativeArraySize}
use Rattle.model.specs.declared.turns.Exception.TheVariants.{ArrayStore, IllegalMonitorState, ArrayIndexOutOfBounds}
use Rattle.model.specs.declared.turns.Exception.TheVariants.{IllegalThreadState, StackOverflow, ExceptionInInitializer}
use Rattle.model.specs.declared.turns.Exception.TheVariants.{NoClassDefFound}
use Rattle.model.specs.Values.{births_of, units_of_all}
use Rattle.model.specs.Frames.{Frame, Moved, running, with_running, push_all, replaced, replaced_if_room}
use Rattle.model.specs.Worlds.{World, Thread, frames_of, frames_at}
use Rattle.model.specs.Worlds.Thread.{Live}
use Rattle.model.specs.Completions.{Site, frames_in, moves_in, raises, completes_abruptly, completes}
use Rattle.model.specs.Collector.Places.{ref_of, entry_ref, slots_of, Reach}
use Rattle.model.specs.Collector.Invariant.{In}
use Rattle.model.specs.Collector.Moves.{RefsMove, FrameMoves, FramesMove, Moves, CompletionMoves, ResultMoves}
use Rattle.model.proofs.CollectorLemmas.Moving.{AllMay, refs_same, refs_after, refs_pushed, frames_set, threads_set}
use Rattle.model.proofs.CollectorLemmas.Moving.{objects_same}
use Rattle.model.proofs.CollectorLemmas.Known.{stack_error_known}

-- an instruction that changes the running frame alone, and what it may write

-- ---- births of values

pub in_births : (vs : List Value) (Q : ℕ → Type 0) → AllMay Q (map ref_of vs) → (b : ℕ) → In b (births_of vs) → Q b
in_births [] Q h b k = absurd k
in_births (Int z ∷ vs) Q h b k = in_births vs Q h.1 b k
in_births (Long z ∷ vs) Q h b k = in_births vs Q h.1 b k
in_births (Ref None ∷ vs) Q h b k = in_births vs Q h.1 b k
in_births (Ref (Some x) ∷ vs) Q h b (inl e) = rw e (h.0 x refl)
in_births (Ref (Some x) ∷ vs) Q h b (inr k) = in_births vs Q h.1 b k

pub may_births : (vs : List Value) (P : ℕ → Type 0) → ((b : ℕ) → In b (births_of vs) → P b) → AllMay P (map ref_of vs)
may_births [] P h = tt
may_births (Int z ∷ vs) P h = (λ b e. absurd (cc), may_births vs P h)
may_births (Long z ∷ vs) P h = (λ b e. absurd (cc), may_births vs P h)
may_births (Ref None ∷ vs) P h = (λ b e. absurd (cc), may_births vs P h)
may_births (Ref (Some x) ∷ vs) P h = (λ b e. h b (let k : b ≡ x = cc in inl k), may_births vs P (λ b k. h b (inr k)))

-- ---- operands go and results are pushed

-- a stack's references, bottom first
abbrev stack_refs : List Value → List (Option ℕ)
stack_refs stack = reverse (map ref_of stack)

stack-pushed : (vs stack : List Value) → stack_refs (push_all vs stack) ≡ stack_refs stack ++ map ref_of vs
stack-pushed [] stack = sym (append-nil (stack_refs stack))
stack-pushed (v ∷ vs) stack =
    stack-pushed vs (v ∷ stack) ∙ ap (λ r. r ++ map ref_of vs) (reverse-append (ref_of v ∷ []) (map ref_of stack))
    ∙ append_assoc (stack_refs stack) (ref_of v ∷ []) (map ref_of vs)

stack-split : (n : ℕ) (stack : List Value) → stack_refs stack ≡ stack_refs (drop n stack) ++ stack_refs (take n stack)
stack-split n stack =
    ap stack_refs (sym (take-append-drop n stack)) ∙ ap reverse (map-append ref_of (take n stack) (drop n stack))
    ∙ reverse-append (map ref_of (take n stack)) (map ref_of (drop n stack))

pub stack_pushed : (P : ℕ → Type 0) (n : ℕ) (stack vs : List Value) → AllMay P (map ref_of vs)
    → RefsMove P (reverse (map ref_of stack)) (reverse (map ref_of (push_all vs (drop n stack))))
stack_pushed P n stack vs h =
    rw (stack-split n stack, stack-pushed vs (drop n stack)) (refs_pushed P (stack_refs (drop n stack))
    (stack_refs (take n stack)) (map ref_of vs) h)

pub replaced_moves : (P : ℕ → Type 0) (next : ℕ) (f : Frame) (n : ℕ) (vs : List Value) → AllMay P (map ref_of vs)
    → FrameMoves P f (replaced next f n vs).frame
replaced_moves P next f n vs h = (
  refs_after P (map entry_ref f.locals) _ _ (stack_pushed P n f.stack vs h),
  λ b e.
      inl e,
)

-- what is pushed was reachable
pub replaced_lawful : (w : World) (next : ℕ) (f : Frame) (n : ℕ) (vs : List Value) → AllMay (Reach w) (map ref_of vs)
    → ResultMoves w f (Ok (replaced next f n vs))
replaced_lawful w next f n vs h = (
  replaced_moves (λ b. ⊥ ⊎ In b (births_of vs)) next f n vs (may_births vs (λ b. ⊥ ⊎ In b (births_of vs)) (λ b k.
      inr k)),
  in_births vs (Reach w) h,
)

pub if_room_lawful : (w : World) (next : ℕ) (f : Frame) (n : ℕ) (vs : List Value) → AllMay (Reach w) (map ref_of vs)
    → ResultMoves w f (replaced_if_room next f n vs)
if_room_lawful w next f n vs h = go (nat_le (units_of_all (push_all vs (drop n f.stack))) f.room) refl
  where
    go : (fits : Bool) → nat_le (units_of_all (push_all vs (drop n f.stack))) f.room ≡ fits
        → ResultMoves w f (replaced_if_room next f n vs)
    go true e = rw e (replaced_lawful w next f n vs h)
    go false e = rw e tt

-- ---- the turn

-- a turn that changes one thread alone, and perhaps the output
pub thread_moves : (w after : World) (t : ℕ) (u : Thread) (writes : List ℕ) → slots_of after ≡ slots_of w
    → after.objects ≡ w.objects → after.threads ≡ set w.threads t u
    → FramesMove (λ b. ⊥ ⊎ In b writes) (frames_at w t) (frames_of (Some u)) → ((b : ℕ) → In b writes → Reach w b)
    → Moves w (record { after = after; object = None; writes = writes })
thread_moves w after t u writes s o e h known = record {
  counted = ap length o;
  statics = rw s (refs_same _ (slots_of w));
  threads = rw e (threads_set _ w.threads t u h);
  objects = rw o (objects_same _ w.objects);
  writes = λ b k. inr (known b k);
}

-- an exception that the machine makes asks for a cell, but for StackOverflowError, which is there
pub raises_moves : (w : World) (exception : Exception) → CompletionMoves w (raises exception)
raises_moves w Arithmetic = tt
raises_moves w NullPointer = tt
raises_moves w ClassCast = tt
raises_moves w NegativeArraySize = tt
raises_moves w ArrayStore = tt
raises_moves w IllegalMonitorState = tt
raises_moves w ArrayIndexOutOfBounds = tt
raises_moves w IllegalThreadState = tt
raises_moves w StackOverflow = stack_error_known w
raises_moves w ExceptionInInitializer = tt
raises_moves w NoClassDefFound = tt

-- an instruction that completes abruptly
pub abrupt_moves : (w : World) (abrupt : Abrupt) → CompletionMoves w (completes_abruptly abrupt)
abrupt_moves w (Faulted fault) = tt
abrupt_moves w (Throw exception) = raises_moves w exception

-- the running frame alone changes
pub site_moves : (s : Site) → running (frames_in s) ≡ Some s.frame → (m : Moved) → ResultMoves s.world s.frame (Ok m)
    → CompletionMoves s.world (moves_in s.world s m)
site_moves s e m h = record {
  fault = refl;
  rows = refl;
  moves = thread_moves s.world _ s.thread (Live (with_running (frames_in s) m.frame)) m.writes refl refl refl
      (frames_set _ (frames_in s) _ s.frame m.frame e h.0) h.1;
}

pub completes_moves : (s : Site) → running (frames_in s) ≡ Some s.frame → (r : Result Moved Abrupt)
    → ResultMoves s.world s.frame r → CompletionMoves s.world (completes s r)
completes_moves s e (Ok m) h = site_moves s e m h
completes_moves s e (Err abrupt) h = abrupt_moves s.world abrupt
