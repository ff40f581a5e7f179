use Rattle.std.proofs.Common.{◌≡◌, ◌⊎◌, inl, inr, ℕ, zero, suc, Bool, true, false, List, [], ◌∷◌, ◌++◌, map, reverse}
use Rattle.std.proofs.Common.{set, slice_get, Option, Some, None, nat_le, if◌then◌else◌, refl, ◌∙◌, ap, length-set}
use Rattle.std.proofs.lemmas.List.{reverse-append}
use Rattle.model.specs.declared.turns.ClassState.{ClassState}
use Rattle.model.specs.declared.turns.ClassState.TheVariants.{Failed}
use Rattle.model.specs.declared.turns.Fault.TheVariants.{StackFull}
use Rattle.model.specs.ClassListings.{ClassListing}
use Rattle.model.specs.Frames.{Frame}
use Rattle.model.specs.Worlds.{World, Object, Monitor, frames_of, frames_at, next_birth, with_class_states}
use Rattle.model.specs.Worlds.Thread.{Live, Ended}
use Rattle.model.specs.Objects.{object_at, class_at}
use Rattle.model.specs.Monitors.{is_owner, exited, monitor_of, with_monitor_if, with_monitor_of, released, released_all}
use Rattle.model.specs.Initialisation.{with_states}
use Rattle.model.specs.Unwinding.{Response, response_of, Landing, Way, way_from, way_of, handling, failing, landed}
use Rattle.model.specs.Unwinding.{initialised_by, without, thrown}
use Rattle.model.specs.Unwinding.Response.{Handles, Fails, Leaves}
use Rattle.model.specs.Unwinding.Landing.{Handled, Stopped, Unhandled}
use Rattle.model.specs.Collector.Places.{ref_of, entry_ref, slots_of, Reach}
use Rattle.model.specs.Collector.Invariant.{In}
use Rattle.model.specs.Collector.Changes.{IsNew, births_after}
use Rattle.model.specs.Collector.Moves.{FrameMoves, FramesMove, ObjectsMove, Lawful}
use Rattle.model.specs.Collector.Moves.Lawful.{faults, moves}
use Rattle.model.proofs.CollectorLemmas.Moving.{AllMay, refs_same, refs_new, refs_after, frames_above, frames_from}
use Rattle.model.proofs.CollectorLemmas.Moving.{threads_set}

-- a throwable moves only itself: frames are left, monitors are released, and the handler finds it on its stack

-- ---- monitors are no places

-- one object changes, but not its contents
pub objects_touched : (P : ℕ → Type 0) (os us : List Object) (b : ℕ) (u v : Object) → slice_get us b ≡ Some u
    → v.contents ≡ u.contents → ObjectsMove P os us → ObjectsMove P os (set us b v)
objects_touched P os [] b u v e c h = tt
objects_touched P [] (x ∷ us) zero u v e c h = (let s : x ≡ u = cc in rw (c, ← s) h)
objects_touched P [] (x ∷ us) (suc b) u v e c h = (h.0, objects_touched P [] us b u v e c h.1)
objects_touched P (o ∷ os) (x ∷ us) zero u v e c h = (let s : x ≡ u = cc in rw (c, ← s) h)
objects_touched P (o ∷ os) (x ∷ us) (suc b) u v e c h = (h.0, objects_touched P os us b u v e c h.1)

-- what holds of a world after a thread's turn began in another, whose frames and statics it still has
pub record Kept (P : ℕ → Type 0) (w : World) (n : ℕ) (v : World) : Type 0 where
  pub fault : v.fault ≡ w.fault
  pub rows : v.rows ≡ w.rows
  pub threads : v.threads ≡ w.threads
  pub fields : v.statics.fields ≡ w.statics.fields
  pub made : next_birth v ≡ n
  pub objects : ObjectsMove P w.objects v.objects

-- an object with another monitor has the same places
with_monitor_if_keeps : (P : ℕ → Type 0) (w v : World) (n birth : ℕ) (m : Monitor) (o : Option Object)
    → object_at v birth ≡ o → Kept P w n v → Kept P w n (with_monitor_if v birth m o)
with_monitor_if_keeps P w v n birth m None e k = k
with_monitor_if_keeps P w v n birth m (Some o) e k = record {
  fault = k.fault;
  rows = k.rows;
  threads = k.threads;
  fields = k.fields;
  made = length-set v.objects birth (record o { monitor = m }) ∙ k.made;
  objects = objects_touched P w.objects v.objects birth o (record o { monitor = m }) e refl k.objects;
}

pub with_monitor_keeps : (P : ℕ → Type 0) (w v : World) (n birth : ℕ) (m : Monitor) → Kept P w n v
    → Kept P w n (with_monitor_of v birth m)
with_monitor_keeps P w v n birth m k = with_monitor_if_keeps P w v n birth m (object_at v birth) refl k

kept_if : (P : ℕ → Type 0) (w u v : World) (n : ℕ) (b : Bool) → Kept P w n u → Kept P w n v
    → Kept P w n (if b then u else v)
kept_if P w u v n true k l = k
kept_if P w u v n false k l = l

pub released_keeps : (P : ℕ → Type 0) (w v : World) (n t : ℕ) (monitor : Option ℕ) → Kept P w n v
    → Kept P w n (released v t monitor)
released_keeps P w v n t None k = k
released_keeps P w v n t (Some birth) k =
    kept_if P w _ v n (is_owner t (monitor_of v birth).owner)
    (with_monitor_keeps P w v n birth (exited (monitor_of v birth)) k) k

all_keep : (P : ℕ → Type 0) (w v : World) (n t : ℕ) (monitors : List (Option ℕ)) → Kept P w n v
    → Kept P w n (released_all v t monitors)
all_keep P w v n t [] k = k
all_keep P w v n t (monitor ∷ monitors) k = all_keep P w (released v t monitor) n t monitors
    (released_keeps P w v n t monitor k)

-- class states are no places
pub states_keep : (P : ℕ → Type 0) (w v : World) (n : ℕ) (states : List ClassState) → Kept P w n v
    → Kept P w n (with_class_states v states)
states_keep P w v n states k = record {
  fault = k.fault;
  rows = k.rows;
  threads = k.threads;
  fields = k.fields;
  made = k.made;
  objects = k.objects;
}

-- ---- frames are left

handling_moves : (P : ℕ → Type 0) (birth handler : ℕ) (f : Frame) → P birth → FrameMoves P f (handling birth handler f)
handling_moves P birth handler f h =
    let may : AllMay P (Some birth ∷ []) = (λ b e. (let s : b ≡ birth = cc in rw s h), tt) in (
      refs_after P (map entry_ref f.locals) (reverse (map ref_of f.stack)) (Some birth ∷ [])
          (refs_new P _ (Some birth ∷ []) may),
      λ b e. inl e,
    )

failing_moves : (P : ℕ → Type 0) (f : Frame) → FrameMoves P f (failing f)
failing_moves P f = (refs_after P (map entry_ref f.locals) (reverse (map ref_of f.stack)) [] tt, λ b e. inl e)

-- frames above are left
frames_left : (P : ℕ → Type 0) (fs above gs : List Frame) → FramesMove P fs gs → FramesMove P (fs ++ above) gs
frames_left P fs above [] h = tt
frames_left P [] above (g ∷ gs) h = frames_from P above (g ∷ gs) h
frames_left P (f ∷ fs) above (g ∷ gs) h = (h.0, h.1, frames_left P fs above gs h.2)

-- where a throwable lands in these frames: a handler finds it on its stack, an initializer that fails finds nothing
abbrev LandsIn : (ℕ → Type 0) → (ℕ → Type 0) → ℕ → List Frame → Landing → Type 0
LandsIn P Q birth frames Unhandled = Unit {0}
LandsIn P Q birth frames (Stopped f callers) = FramesMove Q frames (reverse callers ++ failing f ∷ [])
LandsIn P Q birth frames (Handled handler f callers) = FramesMove P frames (reverse callers ++ handling birth handler f
    ∷ [])

lands_below : (P Q : ℕ → Type 0) (birth : ℕ) (frames above : List Frame) (l : Landing) → LandsIn P Q birth frames l
    → LandsIn P Q birth (frames ++ above) l
lands_below P Q birth frames above Unhandled h = tt
lands_below P Q birth frames above (Stopped f callers) h = frames_left Q frames above _ h
lands_below P Q birth frames above (Handled handler f callers) h = frames_left P frames above _ h

lands_here : (P Q : ℕ → Type 0) (birth : ℕ) (f : Frame) (fs : List Frame) (r : Response) (way : Way) → P birth
    → LandsIn P Q birth (reverse fs) way.landing
    → LandsIn P Q birth (reverse fs ++ f ∷ []) (way_from f fs r way).landing
lands_here P Q birth f fs Leaves way p h = lands_below P Q birth (reverse fs) (f ∷ []) way.landing h
lands_here P Q birth f fs Fails way p h =
    let m = failing_moves Q f in frames_above Q (reverse fs) (f ∷ []) (failing f ∷ []) (m.0, m.1, tt)
lands_here P Q birth f fs (Handles handler) way p h =
    let m = handling_moves P birth handler f p in frames_above P (reverse fs) (f ∷ []) (handling birth handler f ∷ [])
    (m.0, m.1, tt)

-- frames stand innermost first
lands : (P Q : ℕ → Type 0) (program : List ClassListing) (class : List ℕ) (birth : ℕ) (fs : List Frame) → P birth
    → LandsIn P Q birth (reverse fs) (way_of program class fs).landing
lands P Q program class birth [] p = tt
lands P Q program class birth (f ∷ fs) p =
    rw (reverse-append (f ∷ []) fs) (lands_here P Q birth f fs (response_of program class f) (way_of program class fs) p
    (lands P Q program class birth fs p))

reverse-twice : (fs : List Frame) → reverse (reverse fs) ≡ fs
reverse-twice [] = refl
reverse-twice (f ∷ fs) = ap reverse (reverse-append (f ∷ []) fs) ∙ reverse-append (reverse fs) (f ∷ [])
    ∙ ap (λ gs. f ∷ gs) (reverse-twice fs)

-- ---- the turn

ends : (w v : World) (object : Option ℕ) (t : ℕ) (class : Option (List ℕ))
    → Kept (λ b. IsNew object (next_birth w) b ⊎ ⊥) w (births_after object (next_birth w)) v
    → Lawful w object (record { after = record v { threads = set v.threads t (Ended class) }; writes = [] })
ends w v object t class k = moves k.fault k.rows (record {
  counted = k.made;
  statics = rw k.fields (refs_same _ (slots_of w));
  threads = rw k.threads (threads_set _ w.threads t (Ended class) tt);
  objects = k.objects;
  writes = λ b h. absurd h;
})

handled : (w v : World) (object : Option ℕ) (t birth : ℕ) (frames : List Frame)
    → IsNew object (next_birth w) birth ⊎ Reach w birth
    → FramesMove (λ b. IsNew object (next_birth w) b ⊎ In b (birth ∷ [])) (frames_at w t) frames
    → Kept (λ b. IsNew object (next_birth w) b ⊎ In b (birth ∷ [])) w (births_after object (next_birth w)) v
    → Lawful w object (record { after = record v { threads = set v.threads t (Live frames) }; writes = birth ∷ [] })
handled w v object t birth frames known m k = moves k.fault k.rows (record {
  counted = k.made;
  statics = rw k.fields (refs_same _ (slots_of w));
  threads = rw k.threads (threads_set _ w.threads t (Live frames) m);
  objects = k.objects;
  writes = λ b h. elim h [ inl e ↦ rw e known | inr n ↦ absurd n ];
})

-- the births to which a place may lead that it didn't lead to: the new one, and in a handler the throwable
abbrev NewOr : World → Option ℕ → (ℕ → Type 0) → ℕ → Type 0
NewOr w object written b = IsNew object (next_birth w) b ⊎ written b

stopped : (w v : World) (object : Option ℕ) (t : ℕ) (frames : List Frame)
    → FramesMove (NewOr w object (λ b. ⊥)) (frames_at w t) frames
    → Kept (NewOr w object (λ b. ⊥)) w (births_after object (next_birth w)) v
    → Lawful w object (record { after = record v { threads = set v.threads t (Live frames) }; writes = [] })
stopped w v object t frames m k = moves k.fault k.rows (record {
  counted = k.made;
  statics = rw k.fields (refs_same _ (slots_of w));
  threads = rw k.threads (threads_set _ w.threads t (Live frames) m);
  objects = k.objects;
  writes = λ b h. absurd h;
})

landed_lawful : (w v : World) (object : Option ℕ) (t birth : ℕ) (class : List ℕ) (l : Landing)
    → IsNew object (next_birth w) birth ⊎ Reach w birth
    → LandsIn (NewOr w object (λ b. In b (birth ∷ []))) (NewOr w object (λ b. ⊥)) birth (frames_at w t) l
    → ((P : ℕ → Type 0) → Kept P w (births_after object (next_birth w)) v)
    → Lawful w object (landed w v t birth class l)
landed_lawful w v object t birth class Unhandled known h k = ends w v object t (Some class) (k _)
landed_lawful w v object t birth class (Stopped f callers) known h k = stopped w v object t (reverse callers
    ++ failing f ∷ []) h (k _)
landed_lawful w v object t birth class (Handled handler f callers) known h k = go (nat_le 1 f.room) refl
  where
    go : (room : Bool) → nat_le 1 f.room ≡ room → Lawful w object (landed w v t birth class (Handled handler f callers))
    go true e = rw e (handled w v object t birth (reverse callers ++ handling birth handler f ∷ []) known h (k _))
    go false e = rw e (faults t StackFull refl)

without_keeps : (P : ℕ → Type 0) (program : List ClassListing) (w v : World) (n t : ℕ) (left : List Frame)
    → Kept P w n v → Kept P w n (without program v t left)
without_keeps P program w v n t left k =
    let monitors = map (λ (f : Frame). f.monitor) left in
    states_keep P w (released_all v t monitors) n (with_states Failed (initialised_by program left) v.statics.states)
    (all_keep P w v n t monitors k)

-- the throwable was reachable, or it is the new object; the threads are those of the world before
pub thrown_lawful : (program : List ClassListing) (w v : World) (object : Option ℕ) (t birth : ℕ) → v.threads
    ≡ w.threads → IsNew object (next_birth w) birth ⊎ Reach w birth
    → ((P : ℕ → Type 0) → Kept P w (births_after object (next_birth w)) v)
    → Lawful w object (thrown program w v t birth)
thrown_lawful program w v object t birth e known k =
    let P : ℕ → Type 0 = NewOr w object (λ b. In b (birth ∷ [])) in
    let Q : ℕ → Type 0 = NewOr w object (λ b. ⊥) in
    let fs = reverse (frames_at v t) in
    let class = class_at v birth in
    let way = way_of program class fs in
    let same : reverse fs ≡ frames_at w t = reverse-twice (frames_at v t) ∙ ap (λ ts. frames_of (slice_get ts t)) e in
    let l : LandsIn P Q birth (frames_at w t) way.landing = rw (← same)
    (lands P Q program class birth fs (inr (inl refl))) in
    landed_lawful w (without program v t way.left) object t birth class way.landing known l
    (λ R. without_keeps R program w v (births_after object (next_birth w)) t way.left (k R))
