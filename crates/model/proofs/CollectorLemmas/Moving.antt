use Rattle.std.proofs.Common.{◌≡◌, ◌⊎◌, inl, inr, ℕ, zero, suc, List, [], ◌∷◌, ◌++◌, length, take, set, slice_get}
use Rattle.std.proofs.Common.{Option, Some, None, arith}
use Rattle.model.specs.Frames.{Frame}
use Rattle.model.specs.Worlds.{World, Thread, Object, frames_of}
use Rattle.model.specs.Collector.Places.{Place, ref_at, frame_refs, contents_refs, entries_at, monitor_at, words_of}
use Rattle.model.specs.Collector.Places.{slots_of, root_at, word_at}
use Rattle.model.specs.Collector.Places.Place.{MemoryError, StackError, Slot, FrameEntry, MethodMonitor}
use Rattle.model.specs.Collector.Changes.{Change, Fresh, Allowed}
use Rattle.model.specs.Collector.Moves.{RefMoves, RefsMove, FrameMoves, FramesMove, ThreadsMove, ObjectsMove, Moves}

-- from moves of lists to places, and the lemmas for each shape of change

-- ---- from recursion to places

pub refs-at : (P : ℕ → Type 0) (rs ss : List (Option ℕ)) (k b : ℕ) → RefsMove P rs ss → ref_at ss k ≡ Some b
    → (ref_at rs k ≡ Some b) ⊎ P b
refs-at P rs [] k b h e = absurd (cc)
refs-at P [] (s ∷ ss) zero b h e = h.0 b e
refs-at P [] (s ∷ ss) (suc k) b h e = refs-at P [] ss k b h.1 e
refs-at P (r ∷ rs) (s ∷ ss) zero b h e = h.0 b e
refs-at P (r ∷ rs) (s ∷ ss) (suc k) b h e = refs-at P rs ss k b h.1 e

pub entries-at : (P : ℕ → Type 0) (fs gs : List Frame) (d : ℕ) → FramesMove P fs gs
    → RefsMove P (entries_at fs d) (entries_at gs d)
entries-at P fs [] d h = tt
entries-at P [] (g ∷ gs) zero h = h.0
entries-at P [] (g ∷ gs) (suc d) h = entries-at P [] gs d h.2
entries-at P (f ∷ fs) (g ∷ gs) zero h = h.0
entries-at P (f ∷ fs) (g ∷ gs) (suc d) h = entries-at P fs gs d h.2

pub monitor-at : (P : ℕ → Type 0) (fs gs : List Frame) (d : ℕ) → FramesMove P fs gs
    → RefMoves P (monitor_at fs d) (monitor_at gs d)
monitor-at P fs [] d h = λ b e. absurd (cc)
monitor-at P [] (g ∷ gs) zero h = h.1
monitor-at P [] (g ∷ gs) (suc d) h = monitor-at P [] gs d h.2
monitor-at P (f ∷ fs) (g ∷ gs) zero h = h.1
monitor-at P (f ∷ fs) (g ∷ gs) (suc d) h = monitor-at P fs gs d h.2

frames-at : (P : ℕ → Type 0) (ts us : List Thread) (t : ℕ) → ThreadsMove P ts us
    → FramesMove P (frames_of (slice_get ts t)) (frames_of (slice_get us t))
frames-at P ts [] t h = tt
frames-at P [] (u ∷ us) zero h = h.0
frames-at P [] (u ∷ us) (suc t) h = frames-at P [] us t h.1
frames-at P (x ∷ ts) (u ∷ us) zero h = h.0
frames-at P (x ∷ ts) (u ∷ us) (suc t) h = frames-at P ts us t h.1

words-at : (P : ℕ → Type 0) (os us : List Object) (b : ℕ) → ObjectsMove P os us
    → RefsMove P (words_of os b) (words_of us b)
words-at P os [] b h = tt
words-at P [] (u ∷ us) zero h = h.0
words-at P [] (u ∷ us) (suc b) h = words-at P [] us b h.1
words-at P (o ∷ os) (u ∷ us) zero h = h.0
words-at P (o ∷ os) (u ∷ us) (suc b) h = words-at P os us b h.1

roots-at : (w : World) (c : Change) → Moves w c → (p : Place) (b : ℕ) → root_at c.after p ≡ Some b
    → (root_at w p ≡ Some b) ⊎ Fresh w c b
unfolding root_at
roots-at w c m MemoryError b e = inl e
roots-at w c m StackError b e = inl e
roots-at w c m (Slot s) b e = refs-at (Fresh w c) (slots_of w) (slots_of c.after) s b m.statics e
roots-at w c m (FrameEntry t d j) b e = refs-at (Fresh w c) _ _ j b
    (entries-at (Fresh w c) _ _ d (frames-at (Fresh w c) w.threads c.after.threads t m.threads)) e
roots-at w c m (MethodMonitor t d) b e = monitor-at (Fresh w c) _ _ d (frames-at (Fresh w c) w.threads c.after.threads t
    m.threads) b e

pub allowed_from_moves : (w : World) (c : Change) → Moves w c → Allowed w c
unfolding word_at
allowed_from_moves w c m = record {
  counted = m.counted;
  roots = roots-at w c m;
  words = λ x k b e. refs-at (Fresh w c) _ _ k b (words-at (Fresh w c) w.objects c.after.objects x m.objects) e;
  writes = m.writes;
}

-- ---- lists of references

-- nothing changes
pub refs_same : (P : ℕ → Type 0) (rs : List (Option ℕ)) → RefsMove P rs rs
refs_same P [] = tt
refs_same P (r ∷ rs) = (λ b e. inl e, refs_same P rs)

-- each reference of a list may be led to
abbrev pub AllMay : (ℕ → Type 0) → List (Option ℕ) → Type 0
AllMay P [] = Unit {0}
AllMay P (r ∷ rs) = ((b : ℕ) → r ≡ Some b → P b) × AllMay P rs

-- all is new, whatever stood there
pub refs_new : (P : ℕ → Type 0) (rs ss : List (Option ℕ)) → AllMay P ss → RefsMove P rs ss
refs_new P rs [] h = tt
refs_new P [] (s ∷ ss) h = (λ b e. inr (h.0 b e), refs_new P [] ss h.1)
refs_new P (r ∷ rs) (s ∷ ss) h = (λ b e. inr (h.0 b e), refs_new P rs ss h.1)

-- what stands first stays
pub refs_after : (P : ℕ → Type 0) (kept rs ss : List (Option ℕ)) → RefsMove P rs ss
    → RefsMove P (kept ++ rs) (kept ++ ss)
refs_after P [] rs ss h = h
refs_after P (k ∷ kept) rs ss h = (λ b e. inl e, refs_after P kept rs ss h)

-- two parts of a list change, the first keeping its length
pub refs_both : (P : ℕ → Type 0) (rs ss rs' ss' : List (Option ℕ)) → length rs ≡ length ss → RefsMove P rs ss
    → RefsMove P rs' ss' → RefsMove P (rs ++ rs') (ss ++ ss')
refs_both P [] [] rs' ss' e h k = k
refs_both P [] (s ∷ ss) rs' ss' e h k = absurd (omega arith)
refs_both P (r ∷ rs) [] rs' ss' e h k = absurd (omega arith)
refs_both P (r ∷ rs) (s ∷ ss) rs' ss' e h k = (h.0, refs_both P rs ss rs' ss' (omega arith) h.1 k)

-- what stands first stays, the operands after it go, and the results come
pub refs_pushed : (P : ℕ → Type 0) (kept gone pushed : List (Option ℕ)) → AllMay P pushed
    → RefsMove P (kept ++ gone) (kept ++ pushed)
refs_pushed P kept gone pushed h = refs_after P kept gone pushed (refs_new P gone pushed h)

-- a local, a static slot, a field or an element is written
pub refs_set : (P : ℕ → Type 0) (rs : List (Option ℕ)) (k : ℕ) (r : Option ℕ) → ((b : ℕ) → r ≡ Some b → P b)
    → RefsMove P rs (set rs k r)
refs_set P [] k r h = tt
refs_set P (x ∷ xs) zero r h = (λ b e. inr (h b e), refs_same P xs)
refs_set P (x ∷ xs) (suc k) r h = (λ b e. inl e, refs_set P xs k r h)

ref_trans : (P : ℕ → Type 0) (r s u : Option ℕ) → RefMoves P r s → RefMoves P s u → RefMoves P r u
ref_trans P r s u h k = λ b e. elim (k b e) [ inl l ↦ h b l | inr p ↦ inr p ]

-- where nothing stood, anything may have
ref_from : (P : ℕ → Type 0) (r u : Option ℕ) → RefMoves P None u → RefMoves P r u
ref_from P r u h = λ b e. elim (h b e) [ inl l ↦ absurd (cc) | inr p ↦ inr p ]

refs_from : (P : ℕ → Type 0) (rs us : List (Option ℕ)) → RefsMove P [] us → RefsMove P rs us
refs_from P rs [] h = tt
refs_from P [] (u ∷ us) h = h
refs_from P (r ∷ rs) (u ∷ us) h = (ref_from P r u h.0, refs_from P rs us h.1)

pub refs_trans : (P : ℕ → Type 0) (rs ss us : List (Option ℕ)) → RefsMove P rs ss → RefsMove P ss us → RefsMove P rs us
refs_trans P rs ss [] h k = tt
refs_trans P rs [] (u ∷ us) h k = refs_from P rs (u ∷ us) k
refs_trans P [] (s ∷ ss) (u ∷ us) h k = (ref_trans P None s u h.0 k.0, refs_trans P [] ss us h.1 k.1)
refs_trans P (r ∷ rs) (s ∷ ss) (u ∷ us) h k = (ref_trans P r s u h.0 k.0, refs_trans P rs ss us h.1 k.1)

-- ---- frames

pub frame_same : (P : ℕ → Type 0) (f : Frame) → FrameMoves P f f
frame_same P f = (refs_same P (frame_refs f), λ b e. inl e)

pub frames_same : (P : ℕ → Type 0) (fs : List Frame) → FramesMove P fs fs
frames_same P [] = tt
frames_same P (f ∷ fs) = (refs_same P (frame_refs f), λ b e. inl e, frames_same P fs)

-- the frames below stay; what stands above them changes, by a call, a return or an unwinding too
pub frames_above : (P : ℕ → Type 0) (below fs gs : List Frame) → FramesMove P fs gs
    → FramesMove P (below ++ fs) (below ++ gs)
frames_above P [] fs gs h = h
frames_above P (f ∷ below) fs gs h = (refs_same P (frame_refs f), λ b e. inl e, frames_above P below fs gs h)

-- one frame changes
pub frames_set : (P : ℕ → Type 0) (fs : List Frame) (k : ℕ) (f g : Frame) → slice_get fs k ≡ Some f → FrameMoves P f g
    → FramesMove P fs (set fs k g)
frames_set P [] k f g e h = tt
frames_set P (x ∷ fs) zero f g e h = (let s : x ≡ f = cc in rw s ((h.0, h.1, frames_same P fs)))
frames_set P (x ∷ fs) (suc k) f g e h = (refs_same P (frame_refs x), λ b e. inl e, frames_set P fs k f g e h)

-- frames are left
pub frames_taken : (P : ℕ → Type 0) (fs : List Frame) (k : ℕ) → FramesMove P fs (take k fs)
frames_taken P fs zero = tt
frames_taken P [] (suc k) = tt
frames_taken P (f ∷ fs) (suc k) = (refs_same P (frame_refs f), λ b e. inl e, frames_taken P fs k)

pub frames_from : (P : ℕ → Type 0) (fs hs : List Frame) → FramesMove P [] hs → FramesMove P fs hs
frames_from P fs [] k = tt
frames_from P [] (h ∷ hs) k = k
frames_from P (f ∷ fs) (h ∷ hs) k = (
  refs_from P (frame_refs f) (frame_refs h) k.0,
  ref_from P f.monitor h.monitor k.1,
  frames_from P fs hs k.2,
)

-- one change after another
pub frames_trans : (P : ℕ → Type 0) (fs gs hs : List Frame) → FramesMove P fs gs → FramesMove P gs hs
    → FramesMove P fs hs
frames_trans P fs gs [] a b = tt
frames_trans P fs [] (h ∷ hs) a b = frames_from P fs (h ∷ hs) b
frames_trans P [] (g ∷ gs) (h ∷ hs) a b = (
  refs_trans P [] (frame_refs g) (frame_refs h) a.0 b.0,
  ref_trans P None g.monitor h.monitor a.1 b.1,
  frames_trans P [] gs hs a.2 b.2,
)
frames_trans P (f ∷ fs) (g ∷ gs) (h ∷ hs) a b = (
  refs_trans P (frame_refs f) (frame_refs g) (frame_refs h) a.0 b.0,
  ref_trans P f.monitor g.monitor h.monitor a.1 b.1,
  frames_trans P fs gs hs a.2 b.2,
)

-- ---- threads

pub threads_same : (P : ℕ → Type 0) (ts : List Thread) → ThreadsMove P ts ts
threads_same P [] = tt
threads_same P (t ∷ ts) = (frames_same P (frames_of (Some t)), threads_same P ts)

pub threads_set : (P : ℕ → Type 0) (ts : List Thread) (t : ℕ) (u : Thread)
    → FramesMove P (frames_of (slice_get ts t)) (frames_of (Some u)) → ThreadsMove P ts (set ts t u)
threads_set P [] t u h = tt
threads_set P (x ∷ xs) zero u h = (h, threads_same P xs)
threads_set P (x ∷ xs) (suc t) u h = (frames_same P (frames_of (Some x)), threads_set P xs t u h)

-- a thread is started
pub threads_more : (P : ℕ → Type 0) (ts : List Thread) (u : Thread) → FramesMove P [] (frames_of (Some u))
    → ThreadsMove P ts (ts ++ u ∷ [])
threads_more P [] u h = (h, tt)
threads_more P (t ∷ ts) u h = (frames_same P (frames_of (Some t)), threads_more P ts u h)

-- ---- objects

pub objects_same : (P : ℕ → Type 0) (os : List Object) → ObjectsMove P os os
objects_same P [] = tt
objects_same P (o ∷ os) = (refs_same P (contents_refs o.contents), objects_same P os)

-- a field or an element of one object is written, or its monitor
pub objects_set : (P : ℕ → Type 0) (os : List Object) (b : ℕ) (o u : Object) → slice_get os b ≡ Some o
    → RefsMove P (contents_refs o.contents) (contents_refs u.contents) → ObjectsMove P os (set os b u)
objects_set P [] b o u e h = tt
objects_set P (x ∷ os) zero o u e h = (let s : x ≡ o = cc in rw s ((h, objects_same P os)))
objects_set P (x ∷ os) (suc b) o u e h = (refs_same P (contents_refs x.contents), objects_set P os b o u e h)

-- an object is made
pub objects_more : (P : ℕ → Type 0) (os : List Object) (o : Object) → AllMay P (contents_refs o.contents)
    → ObjectsMove P os (os ++ o ∷ [])
objects_more P [] o h = (refs_new P [] (contents_refs o.contents) h, tt)
objects_more P (x ∷ os) o h = (refs_same P (contents_refs x.contents), objects_more P os o h)
