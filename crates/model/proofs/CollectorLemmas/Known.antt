use Rattle.std.proofs.Common.{◌≡◌, ℕ, zero, suc, List, [], ◌∷◌, ◌++◌, map, reverse, slice_get, Option, Some, refl, ap}
use Rattle.std.proofs.lemmas.List.{reverse-append}
use Rattle.model.specs.declared.values.Value.{Value}
use Rattle.model.specs.declared.values.Value.TheVariants.{Ref}
use Rattle.model.specs.declared.values.Entry.{Entry}
use Rattle.model.specs.declared.values.Entry.TheVariants.{Holds}
use Rattle.model.specs.Frames.{Frame, running}
use Rattle.model.specs.Worlds.{World, FieldValue, Object, frames_at}
use Rattle.model.specs.Collector.Places.{ref_of, entry_ref, field_ref, ref_at, frame_refs, contents_refs, root_at}
use Rattle.model.specs.Collector.Places.{word_at, Reach}
use Rattle.model.specs.Collector.Places.Place.{MemoryError, StackError, Slot, FrameEntry, MethodMonitor}
use Rattle.model.specs.Collector.Places.Reach.{at_root, by_word}
use Rattle.model.proofs.CollectorLemmas.Moving.{AllMay}

-- what an instruction finds is reachable: operands, locals, method monitors, static slots, fields and elements, and the
-- two errors that were made before the run

-- ---- what a frame holds

pub ref_may : (Q : ℕ → Type 0) (rs : List (Option ℕ)) → ((i b : ℕ) → ref_at rs i ≡ Some b → Q b) → AllMay Q rs
ref_may Q [] h = tt
ref_may Q (r ∷ rs) h = (h 0, ref_may Q rs (λ i. h (suc i)))

pub may_left : (Q : ℕ → Type 0) (rs ss : List (Option ℕ)) → AllMay Q (rs ++ ss) → AllMay Q rs
may_left Q [] ss h = tt
may_left Q (r ∷ rs) ss h = (h.0, may_left Q rs ss h.1)

pub may_right : (Q : ℕ → Type 0) (rs ss : List (Option ℕ)) → AllMay Q (rs ++ ss) → AllMay Q ss
may_right Q [] ss h = h
may_right Q (r ∷ rs) ss h = may_right Q rs ss h.1

pub may_both : (Q : ℕ → Type 0) (rs ss : List (Option ℕ)) → AllMay Q rs → AllMay Q ss → AllMay Q (rs ++ ss)
may_both Q [] ss h k = k
may_both Q (r ∷ rs) ss h k = (h.0, may_both Q rs ss h.1 k)

may_back : (Q : ℕ → Type 0) (rs : List (Option ℕ)) → AllMay Q (reverse rs) → AllMay Q rs
may_back Q [] h = tt
may_back Q (r ∷ rs) h =
    let k : AllMay Q (reverse rs ++ r ∷ []) = rw (reverse-append (r ∷ []) rs) at h in
    ((may_right Q (reverse rs) (r ∷ []) k).0, may_back Q rs (may_left Q (reverse rs) (r ∷ []) k))

-- d: the frame's place from the outermost
pub frame_known : (w : World) (t d : ℕ) (f : Frame) → slice_get (frames_at w t) d ≡ Some f
    → AllMay (Reach w) (frame_refs f)
unfolding root_at
frame_known w t d f e = ref_may (Reach w) (frame_refs f) (λ i b h. at_root (FrameEntry t d i) (rw e h))

pub locals_known : (w : World) (t d : ℕ) (f : Frame) → slice_get (frames_at w t) d ≡ Some f
    → AllMay (Reach w) (map entry_ref f.locals)
locals_known w t d f e = may_left (Reach w) (map entry_ref f.locals) _ (frame_known w t d f e)

pub stack_known : (w : World) (t d : ℕ) (f : Frame) → slice_get (frames_at w t) d ≡ Some f
    → AllMay (Reach w) (map ref_of f.stack)
stack_known w t d f e = may_back (Reach w) (map ref_of f.stack) (may_right (Reach w) (map entry_ref f.locals) _
    (frame_known w t d f e))

-- an operand, counted from the top, and a local
value_known : (Q : ℕ → Type 0) (vs : List Value) (k b : ℕ) → AllMay Q (map ref_of vs) → slice_get vs k
    ≡ Some (Ref (Some b)) → Q b
value_known Q [] k b h e = absurd (cc)
value_known Q (v ∷ vs) zero b h e = h.0 b (let s : v ≡ Ref (Some b) = cc in ap ref_of s)
value_known Q (v ∷ vs) (suc k) b h e = value_known Q vs k b h.1 e

entry_known : (Q : ℕ → Type 0) (es : List Entry) (k b : ℕ) → AllMay Q (map entry_ref es) → slice_get es k
    ≡ Some (Holds (Ref (Some b))) → Q b
entry_known Q [] k b h e = absurd (cc)
entry_known Q (x ∷ es) zero b h e = h.0 b (let s : x ≡ Holds (Ref (Some b)) = cc in ap entry_ref s)
entry_known Q (x ∷ es) (suc k) b h e = entry_known Q es k b h.1 e

pub operand_known : (w : World) (t : ℕ) (f : Frame) (k b : ℕ) → running (frames_at w t) ≡ Some f → slice_get f.stack k
    ≡ Some (Ref (Some b)) → Reach w b
operand_known w t f k b e h = value_known (Reach w) f.stack k b (stack_known w t _ f e) h

pub local_known : (w : World) (t : ℕ) (f : Frame) (k b : ℕ) → running (frames_at w t) ≡ Some f → slice_get f.locals k
    ≡ Some (Holds (Ref (Some b))) → Reach w b
local_known w t f k b e h = entry_known (Reach w) f.locals k b (locals_known w t _ f e) h

pub monitor_known : (w : World) (t d b : ℕ) (f : Frame) → slice_get (frames_at w t) d ≡ Some f → f.monitor ≡ Some b
    → Reach w b
unfolding root_at
monitor_known w t d b f e h = at_root (MethodMonitor t d) (rw e h)

-- ---- statics, fields and elements, errors

ref_at-map : (fields : List FieldValue) (k : ℕ) (f : FieldValue) → slice_get fields k ≡ Some f
    → ref_at (map field_ref fields) k ≡ field_ref f
ref_at-map [] k f e = absurd (cc)
ref_at-map (x ∷ fields) zero f e = (let s : x ≡ f = cc in ap field_ref s)
ref_at-map (x ∷ fields) (suc k) f e = ref_at-map fields k f e

pub slot_known : (w : World) (s b : ℕ) (f : FieldValue) → slice_get w.statics.fields s ≡ Some f → field_ref f ≡ Some b
    → Reach w b
unfolding root_at
slot_known w s b f e h = at_root (Slot s) (rw (ref_at-map w.statics.fields s f e) h)

-- a word of a reachable object
pub word_known : (w : World) (a k b : ℕ) (o : Object) → Reach w a → slice_get w.objects a ≡ Some o
    → ref_at (contents_refs o.contents) k ≡ Some b → Reach w b
unfolding word_at
word_known w a k b o r e h = by_word a k r (rw e h)

pub memory_error_known : (w : World) → Reach w 1
unfolding root_at
memory_error_known w = at_root MemoryError refl

pub stack_error_known : (w : World) → Reach w 2
unfolding root_at
stack_error_known w = at_root StackError refl
