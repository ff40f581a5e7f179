use Rattle.std.proofs.Common.{◌≡◌, ◌⊎◌, inl, inr, ℕ, ◌+◌, ◌<◌, ◌≤◌, Bool, true, false, List, length, Option, Some, None}
use Rattle.std.proofs.Common.{nat_lt, refl, ap, arith, ltb-false}
use Rattle.model.specs.declared.colours.Colour.{Colour}
use Rattle.model.specs.declared.colours.Phase.{Phase}
use Rattle.model.specs.declared.colours.Phase.TheVariants.{Idle, Statics, Frames, Mark, Append}
use Rattle.model.specs.declared.journals.HeapShape.{HeapShape}
use Rattle.model.specs.Accounts.{Account, shade}
use Rattle.model.specs.Worlds.{World}
use Rattle.model.specs.Collector.Places.{Place, root_at, slots_of}
use Rattle.model.specs.Collector.Places.Place.{MemoryError, StackError, Slot, FrameEntry, MethodMonitor}
use Rattle.model.specs.Collector.Table.{shade_ref, at_phase, statics_step, step_in}
use Rattle.model.specs.Collector.Invariant.{Kept, Scanned, Fronted, Begun, IsMark, Unblack, NotWhite, Invariant}
use Rattle.model.proofs.CollectorLemmas.Cells.{darker_not_white}
use Rattle.model.proofs.CollectorLemmas.Spares.{tidy-phase}
use Rattle.model.proofs.CollectorLemmas.Shading.{shade_keeps, shade_not_white, shade_darker, shade_phase}
use Rattle.model.proofs.CollectorLemmas.Bounds.{slot_within}

-- the steps before marking keep the invariant

abbrev pub IsLooking : Phase → Type 0
IsLooking Idle = Unit {0}
IsLooking (Statics s) = Unit {0}
IsLooking (Frames t d j) = Unit {0}
IsLooking (Mark q) = ⊥
IsLooking (Append p) = ⊥

pub looking_kept : (phase : Phase) → IsLooking phase → (c : ℕ) (x : Colour) → Kept phase c x
looking_kept Idle l c x = tt
looking_kept (Statics s) l c x = tt
looking_kept (Frames t d j) l c x = tt
looking_kept (Mark q) l c x = absurd l
looking_kept (Append p) l c x = absurd l

pub looking_unblack : (phase : Phase) → IsLooking phase → (c : ℕ) → Unblack phase c
looking_unblack Idle l c = tt
looking_unblack (Statics s) l c = tt
looking_unblack (Frames t d j) l c = tt
looking_unblack (Mark q) l c = absurd l
looking_unblack (Append p) l c = absurd l

looking_mark : (phase : Phase) → IsLooking phase → IsMark phase → ⊥
looking_mark Idle l h = h
looking_mark (Statics s) l h = h
looking_mark (Frames t d j) l h = h
looking_mark (Mark q) l h = l
looking_mark (Append p) l h = l

looking_front : (phase : Phase) → IsLooking phase → (grey : List ℕ) (b k : ℕ) → Fronted phase grey b k → ⊥
looking_front Idle l grey b k h = h
looking_front (Statics s) l grey b k h = h
looking_front (Frames t d j) l grey b k h = h
looking_front (Mark q) l grey b k h = l
looking_front (Append p) l grey b k h = l

looking_begun : (phase : Phase) → IsLooking phase → (grey : List ℕ) → Begun phase grey
looking_begun Idle l grey = tt
looking_begun (Statics s) l grey = tt
looking_begun (Frames t d j) l grey = tt
looking_begun (Mark q) l grey = absurd l
looking_begun (Append p) l grey = absurd l

-- to another phase before marking, where each root that counts as scanned there isn't white
pub look_keeps : (shape : HeapShape) (w : World) (n : ℕ) (a : Account) (phase : Phase) → IsLooking a.phase
    → IsLooking phase → ((p : Place) (b : ℕ) → Scanned phase p → root_at w p ≡ Some b → NotWhite a.cells b)
    → Invariant shape w n a → Invariant shape w n (at_phase a phase)
look_keeps shape w n a phase old new s i = record {
  tidy = tidy-phase shape n a phase i.tidy;
  roots = λ p b e. (let k = i.roots p b e in record {
    cell = k.cell;
    colour = k.colour;
    held = k.held;
    kept = looking_kept phase new k.cell k.colour;
  });
  words = λ c b x k b' h q e. (let k = i.words c b x k b' h (looking_kept a.phase old c x) e
      in record {
        cell = k.cell;
        colour = k.colour;
        held = k.held;
        kept = looking_kept phase new k.cell k.colour;
      });
  scanned = s;
  unblack = λ c b h u. i.unblack c b h (looking_unblack a.phase old c);
  marked = λ c b k b' m h e. absurd (looking_mark phase new m);
  front = λ b k b' f e. absurd (looking_front phase new a.grey b k f);
  begun = looking_begun phase new a.grey;
}

-- the root at p is shaded
pub shade_root : (shape : HeapShape) (w : World) (n : ℕ) (a : Account) (phase : Phase) (p : Place) (r : Option ℕ)
    → root_at w p ≡ r → IsLooking a.phase → IsLooking phase → ((q : Place) (b : ℕ) → Scanned phase q → root_at w q
    ≡ Some b → Scanned a.phase q ⊎ (q ≡ p)) → Invariant shape w n a
    → Invariant shape w n (at_phase (shade_ref a r) phase)
shade_root shape w n a phase p None e old new s i =
    look_keeps shape w n a phase old new (λ q b h f. elim (s q b h f) [
      | inl o ↦ i.scanned q b o f
      | inr k ↦ (let r = ap (root_at w) k in absurd (cc))
    ]) i
shade_root shape w n a phase p (Some c) e old new s i =
    look_keeps shape w n (shade a c) phase (rw (shade_phase a c) old) new
    (λ q b h f. elim (s q b h f) [
      | inl o ↦ darker_not_white (shade_darker a c) b (i.scanned q b o f)
      | inr k ↦ (let r = ap (root_at w) k in let same : b ≡ c = cc in rw same (shade_not_white a c))
    ])
    (shade_keeps shape w n a c (i.roots p c e) i)

-- ---- Statics

slot_next : (s : ℕ) (q : Place) → Scanned (Statics (s + 1)) q → Scanned (Statics s) q ⊎ (q ≡ Slot s)
slot_next s MemoryError h = inl tt
slot_next s StackError h = inl tt
slot_next s (Slot i) h = let k : (i < s) ⊎ (i ≡ s) = grind arith in elim k [ inl l ↦ inl l | inr e ↦ inr cc ]
slot_next s (FrameEntry t d j) h = inl h
slot_next s (MethodMonitor t d) h = inl h

slots_end : (w : World) (s : ℕ) → length (slots_of w) ≤ s → (q : Place) (b : ℕ) → Scanned (Frames 0 0 0) q → root_at w q
    ≡ Some b → Scanned (Statics s) q
slots_end w s l MemoryError b h e = tt
slots_end w s l StackError b h e = tt
slots_end w s l (Slot i) b h e = let k = slot_within w i b e in omega arith
slots_end w s l (FrameEntry t d j) b h e = absurd (elim h [
  | inl k ↦ omega arith
  | inr k ↦ elim k [ inl r ↦ omega arith | inr r ↦ omega arith ]
])
slots_end w s l (MethodMonitor t d) b h e = absurd (elim h [ inl k ↦ omega arith | inr k ↦ omega arith ])

statics_by : (shape : HeapShape) (w : World) (n : ℕ) (a : Account) (s : ℕ) (more : Bool)
    → nat_lt s (length (slots_of w)) ≡ more → a.phase ≡ Statics s → Invariant shape w n a
    → Invariant shape w n (statics_step w a s more)
statics_by shape w n a s true e f i =
    shade_root shape w n a (Statics (s + 1)) (Slot s) (root_at w (Slot s)) refl (rw f tt) tt
    (λ q b h r. rw f (slot_next s q h)) i
statics_by shape w n a s false e f i =
    look_keeps shape w n a (Frames 0 0 0) (rw f tt) tt
    (λ p b h r. i.scanned p b (rw f (slots_end w s (ltb-false s (length (slots_of w)) e) p b h r)) r) i

pub statics_keeps : (shape : HeapShape) (w : World) (n : ℕ) (a : Account) (s : ℕ) → a.phase ≡ Statics s
    → Invariant shape w n a → Invariant shape w n (step_in shape w a (Statics s))
statics_keeps shape w n a s f i = statics_by shape w n a s (nat_lt s (length (slots_of w))) refl f i

-- ---- Idle

idle_next : (q : Place) → Scanned (Statics 0) q → (q ≡ MemoryError) ⊎ (q ≡ StackError)
idle_next MemoryError h = inl refl
idle_next StackError h = inr refl
idle_next (Slot i) h = absurd (omega arith)
idle_next (FrameEntry t d j) h = absurd h
idle_next (MethodMonitor t d) h = absurd h

pub idle_keeps : (shape : HeapShape) (w : World) (n : ℕ) (a : Account) → a.phase ≡ Idle → Invariant shape w n a
    → Invariant shape w n (step_in shape w a Idle)
unfolding root_at
idle_keeps shape w n a f i =
    let one = shade_keeps shape w n a 1 (i.roots MemoryError 1 refl) i in
    let two = shade_keeps shape w n (shade a 1) 2 (one.roots StackError 2 refl) one in
    look_keeps shape w n (shade (shade a 1) 2) (Statics 0) (rw (shade_phase (shade a 1) 2, shade_phase a 1, f) tt) tt
    (λ q b h r. elim (idle_next q h) [
      | inl e ↦ (let k = ap (root_at w) e in let s : b ≡ 1 = cc
          in rw s (darker_not_white (shade_darker (shade a 1) 2) 1
          (shade_not_white a 1)))
      | inr e ↦ (let k = ap (root_at w) e in let s : b ≡ 2 = cc in rw s (shade_not_white (shade a 1) 2))
    ])
    two
