use Rattle.std.proofs.Common.{◌≡◌, ◌⊎◌, inl, inr, ℕ, ◌≤◌, Bool, true, false, List, [], ◌∷◌, ◌++◌, length, map, set}
use Rattle.std.proofs.Common.{nat_le, codes, Option, Some, None, is_some, Result, Ok, Err, refl, arith, length-set}
use Rattle.model.specs.declared.values.Value.TheVariants.{Ref}
use Rattle.model.specs.declared.turns.Fault.{Fault}
use Rattle.model.specs.Classes.Selection.{selected}
use Rattle.model.specs.Callees.{Callee, callee_of}
use Rattle.model.specs.Callees.Callee.{Own, Coded, NoCode}
use Rattle.model.specs.Frames.{running, with_running, replaced}
use Rattle.model.specs.Locals.{called_frame}
use Rattle.model.specs.Worlds.{World, Thread, Object, frames_of}
use Rattle.model.specs.Worlds.Thread.{Live, Ended}
use Rattle.model.specs.Objects.{object_at, class_of}
use Rattle.model.specs.Completions.{Completion, Site, frames_in}
use Rattle.model.specs.Table.Threads.{thread_added, begins, start_if, starts, started, has_live_thread, thread_if}
use Rattle.model.specs.Table.Threads.{joined}
use Rattle.model.specs.Collector.Places.{ref_of, frame_refs, slots_of, Reach}
use Rattle.model.specs.Collector.Invariant.{In}
use Rattle.model.specs.Collector.Moves.{FramesMove, ThreadsMove, CompletionMoves}
use Rattle.model.proofs.CollectorLemmas.Moving.{AllMay, refs_same, refs_new, frames_set, threads_set, objects_same}
use Rattle.model.proofs.CollectorLemmas.Stepping.{replaced_moves, replaced_lawful, site_moves}
use Rattle.model.proofs.CollectorLemmas.Calls.{callee_may}
use Rattle.model.proofs.CollectorLemmas.Unwinding.{objects_touched}
use Rattle.model.proofs.CollectorLemmas.Table.Monitors.{if_moves}

-- ---- start

-- a thread is started, the last
threads_push : (P : ℕ → Type 0) (ts us : List Thread) (u : Thread) → length ts ≤ length us
    → FramesMove P [] (frames_of (Some u)) → ThreadsMove P ts us → ThreadsMove P ts (us ++ u ∷ [])
threads_push P [] [] u l r m = (r, tt)
threads_push P [] (x ∷ us) u l r m = (m.0, threads_push P [] us u (omega arith) r m.1)
threads_push P (t ∷ ts) [] u l r m = absurd (omega arith)
threads_push P (t ∷ ts) (x ∷ us) u l r m = (m.0, threads_push P ts us u (omega arith) r m.1)

added_moves : (s : Site) → running (frames_in s) ≡ Some s.frame
    → (birth : ℕ) (o : Object) (u : Thread) (writes : List ℕ) → object_at s.world birth ≡ Some o
    → FramesMove (λ b. ⊥ ⊎ In b writes) [] (frames_of (Some u)) → ((b : ℕ) → In b writes → Reach s.world b)
    → CompletionMoves s.world (thread_added s birth o u writes)
added_moves s e birth o u writes at h known =
    let ts = s.world.threads in
    let f = (replaced s.next s.frame 1 []).frame in
    let us = set ts s.thread (Live (with_running (frames_in s) f)) in
    let same = length-set ts s.thread (Live (with_running (frames_in s) f)) in
    record {
      fault = refl;
      rows = refl;
      moves = record {
        counted = length-set s.world.objects birth (record o { thread = Some (length ts) });
        statics = refs_same _ (slots_of s.world);
        threads = threads_push _ ts us u (omega arith) h
            (threads_set _ ts s.thread (Live (with_running (frames_in s) f)) (frames_set _ (frames_in s) _ s.frame _ e
            (replaced_moves _ s.next s.frame 1 [] tt)));
        objects = objects_touched _ s.world.objects s.world.objects birth o (record o { thread = Some (length ts) }) at
            refl (objects_same _ s.world.objects);
        writes = λ b m. inr (known b m);
      };
    }

-- the new frame holds the object, and nothing else
begins_moves : (s : Site) → running (frames_in s) ≡ Some s.frame → (birth : ℕ) (o : Object) (callee : Callee)
    → object_at s.world birth ≡ Some o → Reach s.world birth → CompletionMoves s.world (begins s birth o callee)
begins_moves s e birth o NoCode at known = tt
begins_moves s e birth o (Own builtin) at known = added_moves s e birth o (Ended None) [] at tt (λ b h. absurd h)
begins_moves s e birth o (Coded m) at known =
    let P : ℕ → Type 0 = λ b. ⊥ ⊎ In b (birth ∷ []) in
    let vs = Ref (Some birth) ∷ [] in
    let f = called_frame m.place m.code.max_locals m.code.max_stack vs in
    let may : AllMay P (map ref_of vs) = (λ b k. inr (inl (let r : b ≡ birth = cc in r)), tt) in
    added_moves s e birth o (Live (f ∷ [])) (birth ∷ []) at (
      refs_new P [] (frame_refs f) (callee_may P m.place m.code.max_locals m.code.max_stack vs may),
      (λ b k. absurd (cc)),
      tt,
    )
    (λ b h. elim h [ inl r ↦ rw r known | inr n ↦ absurd n ])

start_if_moves : (w : World) (start : Completion) (was full : Bool) → CompletionMoves w start
    → CompletionMoves w (start_if start was full)
start_if_moves w start true full h = tt
start_if_moves w start false true h = tt
start_if_moves w start false false h = h

starts_moves : (s : Site) → running (frames_in s) ≡ Some s.frame → (birth : ℕ) (o : Option Object)
    → object_at s.world birth ≡ o → Reach s.world birth → CompletionMoves s.world (starts s birth o)
starts_moves s e birth None at known = tt
starts_moves s e birth (Some o) at known =
    start_if_moves s.world _ (is_some o.thread) (nat_le 64 (length s.world.threads))
    (begins_moves s e birth o
    (callee_of s.program (selected s.program (class_of o.contents) (codes "run") (codes "()V"))) at known)

pub started_moves : (s : Site) → running (frames_in s) ≡ Some s.frame → (r : Result (Option ℕ) Fault)
    → ((b : ℕ) → r ≡ Ok (Some b) → Reach s.world b) → CompletionMoves s.world (started s r)
started_moves s e (Err fault) h = tt
started_moves s e (Ok None) h = tt
started_moves s e (Ok (Some birth)) h = starts_moves s e birth (object_at s.world birth) refl (h birth refl)

-- ---- join

pub joined_moves : (s : Site) → running (frames_in s) ≡ Some s.frame → (r : Result (Option ℕ) Fault)
    → CompletionMoves s.world (joined s r)
joined_moves s e (Err fault) = tt
joined_moves s e (Ok None) = tt
joined_moves s e (Ok (Some birth)) =
    if_moves s.world (has_live_thread s.world (thread_if (object_at s.world birth))) _ _ tt
    (site_moves s e (replaced s.next s.frame 1 []) (replaced_lawful s.world s.next s.frame 1 [] tt))
