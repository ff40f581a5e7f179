use Rattle.std.proofs.Common.{◌≡◌, inl, inr, ℕ, Bool, true, false, List, [], ◌∷◌, length, Option, Some, None, nat_lt}
use Rattle.std.proofs.Common.{refl, ap}
use Rattle.model.specs.declared.colours.Colour.{Colour}
use Rattle.model.specs.declared.colours.Colour.TheVariants.{White, Grey, Black}
use Rattle.model.specs.declared.colours.Phase.{Phase}
use Rattle.model.specs.declared.colours.Phase.TheVariants.{Idle, Statics, Frames, Mark, Append}
use Rattle.model.specs.declared.journals.HeapShape.{HeapShape}
use Rattle.model.specs.Accounts.{Account, shade}
use Rattle.model.specs.declared.colours.Cell.{Cell}
use Rattle.model.specs.declared.colours.Cell.TheVariants.{Free, Taken}
use Rattle.model.specs.Worlds.{World}
use Rattle.model.specs.Collector.Places.{root_at, word_at, words_of, slots_of}
use Rattle.model.specs.Collector.Places.Place.{Slot, FrameEntry, MethodMonitor}
use Rattle.model.specs.Collector.Table.{cell_at, shade_ref, listed_in, with_cell, collected, step_in, statics_step}
use Rattle.model.specs.Collector.Table.{frames_step, word_step, mark_step, swept, append_step}
use Rattle.model.specs.Collector.Invariant.{Invariant}
use Rattle.model.specs.Collector.Paths.{KeepsReachable}
use Rattle.model.proofs.CollectorLemmas.Cells.{held_before, taken_within}
use Rattle.model.proofs.CollectorLemmas.Shading.{reach_kept, shade_darker}
use Rattle.model.proofs.CollectorLemmas.Marking.{blackened_before}
use Rattle.model.proofs.CollectorLemmas.Sweeping.{freed_before, white_held}
use Rattle.model.proofs.CollectorLemmas.Collecting.{collected_keeps}

-- a collector's step brings no birth into a cell, and gives back none that a path reaches

unfoldable pub Held : List Cell → ℕ → ℕ → Type 0
Held cells c b = (x : Colour) × (cell_at cells c ≡ Taken b x)

ref_held : (a : Account) (r : Option ℕ) (c b : ℕ) (y : Colour) → cell_at (shade_ref a r).cells c ≡ Taken b y
    → Held a.cells c b
unfolding Held
ref_held a None c b y e = (y, e)
ref_held a (Some x) c b y e = held_before (shade_darker a x) c b y e

statics_held : (w : World) (a : Account) (s : ℕ) (more : Bool) (c b : ℕ) (y : Colour)
    → cell_at (statics_step w a s more).cells c ≡ Taken b y → Held a.cells c b
unfolding Held
statics_held w a s true c b y e = ref_held a (root_at w (Slot s)) c b y e
statics_held w a s false c b y e = (y, e)

frames_held : (w : World) (a : Account) (t d j : ℕ) (u v z : Bool) (c b : ℕ) (y : Colour)
    → cell_at (frames_step w a t d j u v z).cells c ≡ Taken b y → Held a.cells c b
unfolding Held
frames_held w a t d j true true true c b y e = ref_held a (root_at w (FrameEntry t d j)) c b y e
frames_held w a t d j true true false c b y e = ref_held a (root_at w (MethodMonitor t d)) c b y e
frames_held w a t d j true false z c b y e = (y, e)
frames_held w a t d j false v z c b y e = (y, e)

word_held : (w : World) (a : Account) (q x : ℕ) (rest : List ℕ) (more : Bool) (c b : ℕ) (y : Colour)
    → cell_at (word_step w a q x rest more).cells c ≡ Taken b y → Held a.cells c b
unfolding Held
word_held w a q x rest true c b y e = ref_held a (word_at w x q) c b y e
word_held w a q x rest false c b y e = elim (blackened_before x a.cells c b y e) [ inl s ↦ (y, s.0) | inr s ↦ s.2 ]

mark_held : (w : World) (a : Account) (q : ℕ) (grey : List ℕ) (c b : ℕ) (y : Colour)
    → cell_at (mark_step w a q grey).cells c ≡ Taken b y → Held a.cells c b
unfolding Held
mark_held w a q [] c b y e = (y, e)
mark_held w a q (x ∷ rest) c b y e = word_held w a q x rest (nat_lt q (length (words_of w.objects x))) c b y e

pub listed_cells : (a : Account) (p : ℕ) (x y : Bool) → (listed_in a p x y).cells ≡ a.cells
listed_cells a p true y = refl
listed_cells a p false true = refl
listed_cells a p false false = refl

swept_held : (shape : HeapShape) (a : Account) (p : ℕ) (x : Cell) → cell_at a.cells p ≡ x → (c b : ℕ) (y : Colour)
    → cell_at (swept shape a p x).cells c ≡ Taken b y → Held a.cells c b
unfolding Held
swept_held shape a p Free h c b y e = (y, e)
swept_held shape a p (Taken x White) h c b y e = (
  y,
  (freed_before a.cells p (taken_within a.cells p x White h) c b y (rw (listed_cells (with_cell a p Free) p _ _) at
      e)).1,
)
swept_held shape a p (Taken x Grey) h c b y e = (y, e)
swept_held shape a p (Taken x Black) h c b y e = white_held a.cells p x h c b y e

append_held : (shape : HeapShape) (a : Account) (p : ℕ) (more : Bool) (c b : ℕ) (y : Colour)
    → cell_at (append_step shape a p more).cells c ≡ Taken b y → Held a.cells c b
unfolding Held
append_held shape a p true c b y e = swept_held shape a p (cell_at a.cells p) refl c b y e
append_held shape a p false c b y e = (y, e)

pub step_held : (shape : HeapShape) (w : World) (a : Account) (phase : Phase) (c b : ℕ) (y : Colour)
    → cell_at (step_in shape w a phase).cells c ≡ Taken b y → Held a.cells c b
unfolding Held
step_held shape w a Idle c b y e = let k = held_before (shade_darker (shade a 1) 2) c b y e
    in held_before (shade_darker a 1) c b k.0 k.1
step_held shape w a (Statics s) c b y e = statics_held w a s (nat_lt s (length (slots_of w))) c b y e
step_held shape w a (Frames t d j) c b y e = frames_held w a t d j _ _ _ c b y e
step_held shape w a (Mark q) c b y e = mark_held w a q a.grey c b y e
step_held shape w a (Append p) c b y e = append_held shape a p (nat_lt p (length a.cells)) c b y e

pub collected_held : (shape : HeapShape) (w : World) (a : Account) (c b : ℕ) (y : Colour)
    → cell_at (collected shape w a).cells c ≡ Taken b y → (x : Colour) × (cell_at a.cells c ≡ Taken b x)
unfolding collected Held
collected_held shape w a c b y e = step_held shape w a a.phase c b y e

pub keeps_reachable : (shape : HeapShape) (w : World) (n : ℕ) (a : Account) → Invariant shape w n a
    → KeepsReachable shape w a
keeps_reachable shape w n a i = record {
  has_cell = λ b r. (let k = reach_kept shape w n a b i r in (k.cell, k.colour, k.held));
  one_cell = i.tidy.one;
  given_back = λ c b x e f r. (
      let k = reach_kept shape w n (collected shape w a) b (collected_keeps shape w n a i) r in
      let h = collected_held shape w a k.cell b k.colour k.held in
      let same = i.tidy.one k.cell c b h.0 x h.1 e in
      let z = ap (cell_at (collected shape w a).cells) same in
      let held = k.held in
      cc);
}
