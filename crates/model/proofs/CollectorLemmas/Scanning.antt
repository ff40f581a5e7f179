use Rattle.std.proofs.Common.{◌≡◌, ◌⊎◌, inl, inr, ℕ, ◌+◌, ◌<◌, ◌≤◌, Bool, true, false, List, [], ◌∷◌, length, Some}
use Rattle.std.proofs.Common.{nat_lt, refl, ap, arith, ltb-false}
use Rattle.model.specs.declared.colours.Phase.TheVariants.{Frames, Mark}
use Rattle.model.specs.declared.journals.HeapShape.{HeapShape}
use Rattle.model.specs.Accounts.{Account}
use Rattle.model.specs.Worlds.{World, frames_at}
use Rattle.model.specs.Collector.Places.{Place, root_at, entries_at}
use Rattle.model.specs.Collector.Places.Place.{MemoryError, StackError, Slot, FrameEntry, MethodMonitor}
use Rattle.model.specs.Collector.Table.{at_phase, frames_step, step_in}
use Rattle.model.specs.Collector.Invariant.{Scanned, Fronted, Begun, Invariant}
use Rattle.model.proofs.CollectorLemmas.Bounds.{within_refs, entry_within, monitor_within, thread_within}
use Rattle.model.proofs.CollectorLemmas.Spares.{tidy-phase}
use Rattle.model.proofs.CollectorLemmas.Looking.{IsLooking, looking_kept, looking_unblack, look_keeps, shade_root}

-- the steps over frames keep the invariant

entry_next : (t d j : ℕ) (q : Place) → Scanned (Frames t d (j + 1)) q
    → Scanned (Frames t d j) q ⊎ (q ≡ FrameEntry t d j)
entry_next t d j MemoryError h = inl tt
entry_next t d j StackError h = inl tt
entry_next t d j (Slot i) h = inl tt
entry_next t d j (FrameEntry u e i) (inl h) = inl (inl h)
entry_next t d j (FrameEntry u e i) (inr (inl h)) = inl (inr (inl h))
entry_next t d j (FrameEntry u e i) (inr (inr h)) = let k : (i < j) ⊎ (i ≡ j) = grind arith
    in elim k [
      | inl l ↦ inl (inr (inr (h.0, h.1, l)))
      | inr s ↦
          inr cc
    ]
entry_next t d j (MethodMonitor u e) h = inl h

monitor_next : (w : World) (t d j : ℕ) → length (entries_at (frames_at w t) d) ≤ j → (q : Place) (b : ℕ)
    → Scanned (Frames t (d + 1) 0) q → root_at w q ≡ Some b → Scanned (Frames t d j) q ⊎ (q ≡ MethodMonitor t d)
unfolding root_at
monitor_next w t d j l MemoryError b h e = inl tt
monitor_next w t d j l StackError b h e = inl tt
monitor_next w t d j l (Slot i) b h e = inl tt
monitor_next w t d j l (FrameEntry u f i) b (inl h) e = inl (inl h)
monitor_next w t d j l (FrameEntry u f i) b (inr (inl h)) e =
    let k : (f < d) ⊎ (f ≡ d) = grind arith in
    let lt = within_refs (entries_at (frames_at w u) f) i b e in
    elim k [
      | inl s ↦ inl (inr (inl (h.0, s)))
      | inr s ↦ (let same : entries_at (frames_at w u) f
          ≡ entries_at (frames_at w t)
          d = (let r = h.0 in cc) in inl (inr (inr (h.0, s, omega (arith, ap length same)))))
    ]
monitor_next w t d j l (FrameEntry u f i) b (inr (inr h)) e = absurd (omega arith)
monitor_next w t d j l (MethodMonitor u f) b (inl h) e = inl (inl h)
monitor_next w t d j l (MethodMonitor u f) b (inr h)
    e = let k : (f < d) ⊎ (f ≡ d) = grind arith in elim k [ inl s ↦ inl (inr (h.0, s)) | inr s ↦ inr cc ]

frames_last : (w : World) (t d u f : ℕ) → length (frames_at w t) ≤ d → u < t + 1 → f < length (frames_at w u)
    → (u < t) ⊎ ((u ≡ t) × (f < d))
frames_last w t d u f l lt k =
    let c : (u < t) ⊎ (u ≡ t) = grind arith in
    elim c [ inl s ↦ inl s | inr s ↦ (let same = ap (frames_at w) s in inr (s, omega (arith, ap length same))) ]

frames_end : (w : World) (t d j : ℕ) → length (frames_at w t) ≤ d → (q : Place) (b : ℕ) → Scanned (Frames (t + 1) 0 0) q
    → root_at w q ≡ Some b → Scanned (Frames t d j) q
unfolding root_at
frames_end w t d j l MemoryError b h e = tt
frames_end w t d j l StackError b h e = tt
frames_end w t d j l (Slot i) b h e = tt
frames_end w t d j l (FrameEntry u f i) b h e = elim
    (frames_last w t d u f l
    (elim h [ inl k ↦ k | inr k ↦ elim k [ inl r ↦ absurd (omega arith) | inr r ↦ absurd (omega arith) ] ])
    (entry_within (frames_at w u) f i b e)) [ inl k ↦ inl k | inr k ↦ inr (inl k) ]
frames_end w t d j l (MethodMonitor u f) b h e = elim
    (frames_last w t d u f l (elim h [ inl k ↦ k | inr k ↦ absurd (omega arith) ])
    (monitor_within (frames_at w u) f b e)) [ inl k ↦ inl k | inr k ↦ inr k ]

threads_end : (w : World) (t d j : ℕ) → length w.threads ≤ t → (q : Place) (b : ℕ) → root_at w q ≡ Some b
    → Scanned (Frames t d j) q
unfolding root_at
threads_end w t d j l MemoryError b e = tt
threads_end w t d j l StackError b e = tt
threads_end w t d j l (Slot i) b e = tt
threads_end w t d j l (FrameEntry u f i) b e = let k = thread_within w u f (entry_within (frames_at w u) f i b e) in
    inl (omega arith)
threads_end w t d j l (MethodMonitor u f) b e = let k = thread_within w u f (monitor_within (frames_at w u) f b e) in
    inl (omega arith)

-- every root was looked at: marking begins
pub none_fronted : (grey : List ℕ) (b k : ℕ) → Fronted (Mark 0) grey b k → ⊥
none_fronted [] b k h = h
none_fronted (x ∷ xs) b k h = omega arith

pub mark_begins : (grey : List ℕ) → Begun (Mark 0) grey
mark_begins [] = refl
mark_begins (x ∷ xs) = tt

mark_start : (shape : HeapShape) (w : World) (n : ℕ) (a : Account) → IsLooking a.phase
    → ((p : Place) (b : ℕ) → root_at w p ≡ Some b → Scanned a.phase p) → Invariant shape w n a
    → Invariant shape w n (at_phase a (Mark 0))
mark_start shape w n a l s i = record {
  tidy = tidy-phase shape n a (Mark 0) i.tidy;
  roots = λ p b e. (let k = i.roots p b e in record { cell = k.cell; colour = k.colour; held = k.held; kept = tt });
  words = λ c b x k b' h q e. (let k = i.words c b x k b' h (looking_kept a.phase l c x) e
      in record { cell = k.cell; colour = k.colour; held = k.held; kept = tt });
  scanned = λ p b h e. i.scanned p b (s p b e) e;
  unblack = λ c b h u. u;
  marked = λ c b k b' m h e. absurd (i.unblack c b h (looking_unblack a.phase l c));
  front = λ b k b' f e. absurd (none_fronted a.grey b k f);
  begun = mark_begins a.grey;
}

frames_by : (shape : HeapShape) (w : World) (n : ℕ) (a : Account) (t d j : ℕ) (x y z : Bool)
    → nat_lt t (length w.threads) ≡ x → nat_lt d (length (frames_at w t)) ≡ y
    → nat_lt j (length (entries_at (frames_at w t) d)) ≡ z → a.phase ≡ Frames t d j → Invariant shape w n a
    → Invariant shape w n (frames_step w a t d j x y z)
frames_by shape w n a t d j true true true ex ey ez f i =
    shade_root shape w n a (Frames t d (j + 1)) (FrameEntry t d j) (root_at w (FrameEntry t d j)) refl (rw f tt) tt
    (λ q b h r. rw f (entry_next t d j q h)) i
frames_by shape w n a t d j true true false ex ey ez f i =
    shade_root shape w n a (Frames t (d + 1) 0) (MethodMonitor t d) (root_at w (MethodMonitor t d)) refl (rw f tt) tt
    (λ q b h r. rw f (monitor_next w t d j (ltb-false j _ ez) q b h r)) i
frames_by shape w n a t d j true false z ex ey ez f i =
    look_keeps shape w n a (Frames (t + 1) 0 0) (rw f tt) tt
    (λ p b h r. i.scanned p b (rw f (frames_end w t d j (ltb-false d _ ey) p b h r)) r) i
frames_by shape w n a t d j false y z ex ey ez f i =
    mark_start shape w n a (rw f tt) (λ p b r. rw f (threads_end w t d j (ltb-false t _ ex) p b r)) i

pub frames_keeps : (shape : HeapShape) (w : World) (n : ℕ) (a : Account) (t d j : ℕ) → a.phase ≡ Frames t d j
    → Invariant shape w n a → Invariant shape w n (step_in shape w a (Frames t d j))
frames_keeps shape w n a t d j f i = frames_by shape w n a t d j _ _ _ refl refl refl f i
