use Rattle.std.proofs.Common.{◌≡◌, ◌⊎◌, inl, inr, ℕ, ◌<◌, List, [], ◌∷◌, arith}
use Rattle.model.specs.declared.colours.Colour.{Colour}
use Rattle.model.specs.declared.colours.Colour.TheVariants.{White, Grey, Black}
use Rattle.model.specs.declared.colours.Phase.{Phase}
use Rattle.model.specs.declared.colours.Phase.TheVariants.{Idle, Statics, Frames, Mark, Append}
use Rattle.model.specs.declared.journals.HeapShape.{HeapShape}
use Rattle.model.specs.Accounts.{Account}
use Rattle.model.specs.declared.colours.Cell.TheVariants.{Taken}
use Rattle.model.specs.Worlds.{World}
use Rattle.model.specs.Collector.Places.{Reach}
use Rattle.model.specs.Collector.Table.{cell_at, at_phase}
use Rattle.model.specs.Collector.Invariant.{Kept, IsMark, HasKept, NotWhite, Invariant}
use Rattle.model.specs.Collector.Paths.{NotEmpty, Starts, Traced, ThreeColour}
use Rattle.model.specs.Collector.Paths.Traced.{from_root, from_cell, over}
use Rattle.model.proofs.CollectorLemmas.Shading.{reach_kept, one_colour}
use Rattle.model.proofs.CollectorLemmas.Marking.{mark_end}

-- what the invariant says of paths

starts_kept : (phase : Phase) (c : ℕ) (x : Colour) → Starts phase x → Kept phase c x
starts_kept Idle c x h = tt
starts_kept (Statics s) c x h = tt
starts_kept (Frames t d j) c x h = tt
starts_kept (Mark q) c x h = tt
starts_kept (Append p) c White h = absurd h
starts_kept (Append p) c Grey h = tt
starts_kept (Append p) c Black h = tt

traced_kept : (shape : HeapShape) (w : World) (n : ℕ) (a : Account) (b : ℕ) → Invariant shape w n a → Traced w a b
    → HasKept a.phase a.cells b
traced_kept shape w n a b i (from_root p e) = i.roots p b e
traced_kept shape w n a b i (from_cell c x e s) = record {
  cell = c;
  colour = x;
  held = e;
  kept = starts_kept a.phase c x s;
}
traced_kept shape w n a b i (over y k t e) = let h = traced_kept shape w n a y i t
    in i.words h.cell y h.colour k b h.held h.kept e

-- a white cell of a reachable birth is one that appending has passed
late_white : (shape : HeapShape) (w : World) (n : ℕ) (a : Account) (p c b : ℕ)
    → Invariant shape w n (at_phase a (Append p)) → Reach w b → cell_at a.cells c ≡ Taken b White → c < p
late_white shape w n a p c b i r e =
    let k = reach_kept shape w n (at_phase a (Append p)) b i r in
    let same = i.tidy.one k.cell c b k.colour White k.held e in
    let colour = one_colour shape n (at_phase a (Append p)) i.tidy k.cell c b k.colour White k.held e in
    passed k.colour k.cell same colour k.kept
  where
    passed : (x : Colour) (d : ℕ) → d ≡ c → x ≡ White → Kept (Append p) d x → c < p
    passed White d s f h = omega arith
    passed Grey d s f h = absurd (cc)
    passed Black d s f h = absurd (cc)

either_by : (shape : HeapShape) (w : World) (n : ℕ) (a : Account) (grey : List ℕ) (phase : Phase)
    → Invariant shape w n (record a { grey = grey; phase = phase }) → IsMark phase
    → NotEmpty grey ⊎ ((b : ℕ) → Reach w b → NotWhite a.cells b)
either_by shape w n a (x ∷ xs) phase i m = inl tt
either_by shape w n a [] (Mark q) i m =
    inr (λ b r. record {
      never = λ c e. (let lt = late_white shape w n (record a { grey = [] }) 0 c b
          (mark_end shape w n a q i) r e in omega arith);
    })
either_by shape w n a [] Idle i m = absurd m
either_by shape w n a [] (Statics s) i m = absurd m
either_by shape w n a [] (Frames t d j) i m = absurd m
either_by shape w n a [] (Append p) i m = absurd m

pub three_colours : (shape : HeapShape) (w : World) (n : ℕ) (a : Account) → Invariant shape w n a → ThreeColour w a
three_colours shape w n a i = record {
  scanned = i.scanned;
  unblack = i.unblack;
  marked = i.marked;
  front = i.front;
  either = either_by shape w n a a.grey a.phase i;
  late = λ p c b e r h. (let j : Invariant shape w n (at_phase a (Append p)) = rw (← e) i
      in late_white shape w n a p c b j r h);
  traced = λ b t. traced_kept shape w n a b i t;
}
