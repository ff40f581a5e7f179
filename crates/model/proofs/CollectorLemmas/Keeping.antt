use Rattle.std.proofs.Common.{◌≡◌, inl, inr, ℕ, ◌+◌, ◌<◌, Bool, true, false, length, nat_lt, refl, ap, arith, ltb-false}
use Rattle.model.specs.declared.colours.Colour.{Colour}
use Rattle.model.specs.declared.colours.Colour.TheVariants.{White, Grey, Black}
use Rattle.model.specs.declared.colours.Phase.{Phase}
use Rattle.model.specs.declared.colours.Phase.TheVariants.{Idle, Statics, Frames, Mark, Append}
use Rattle.model.specs.declared.journals.HeapShape.{HeapShape}
use Rattle.model.specs.Accounts.{Account}
use Rattle.model.specs.declared.colours.Cell.{Cell}
use Rattle.model.specs.declared.colours.Cell.TheVariants.{Free, Taken}
use Rattle.model.specs.Worlds.{World}
use Rattle.model.specs.Collector.Table.{cell_at, with_cell, collected, step_in, swept, append_step}
use Rattle.model.specs.Collector.Invariant.{Kept}
use Rattle.model.proofs.CollectorLemmas.Cells.{taken_within}
use Rattle.model.proofs.CollectorLemmas.Sweeping.{kept_back, freed_before, white_before}
use Rattle.model.proofs.CollectorLemmas.Holding.{Held, listed_cells, step_held}

-- a cell that is kept after a collector's step was kept before it: so what is shown of each kept cell stays shown

unfoldable KeptBefore : Phase → Account → ℕ → ℕ → Type 0
KeptBefore phase a c b = (y : Colour) × (cell_at a.cells c ≡ Taken b y) × Kept phase c y

swept_kept : (shape : HeapShape) (a : Account) (p : ℕ) (z : Cell) → cell_at a.cells p ≡ z → (c b : ℕ) (x : Colour)
    → cell_at (swept shape a p z).cells c ≡ Taken b x → Kept (Append (p + 1)) c x → KeptBefore (Append p) a c b
unfolding KeptBefore
swept_kept shape a p Free e c b x h k = (x, h, kept_back p c x (λ s. let r = ap (cell_at a.cells) s in cc) k)
swept_kept shape a p (Taken d White) e c b x h k = let o = freed_before a.cells p (taken_within a.cells p d White e) c b
    x (rw (listed_cells (with_cell a p Free) p _ _) at h)
    in (x, o.1, kept_back p c x o.0 k)
swept_kept shape a p (Taken d Grey) e c b White h k = (
  White,
  h,
  kept_back p c White (λ s. let r = ap (cell_at a.cells) s in cc) k,
)
swept_kept shape a p (Taken d Grey) e c b Grey h k = (Grey, h, tt)
swept_kept shape a p (Taken d Grey) e c b Black h k = (Black, h, tt)
swept_kept shape a p (Taken d Black) e c b x h k = elim (white_before a.cells p d e c b x h) [
  | inl o ↦ (let o0 = o.0 in let o1 = o.1 in let r = ap (cell_at a.cells) o0 in (Black, cc, tt))
  | inr o ↦ (x, o.1, kept_back p c x o.0 k)
]

append_kept : (shape : HeapShape) (a : Account) (p : ℕ) (more : Bool) → nat_lt p (length a.cells) ≡ more
    → (c b : ℕ) (x : Colour) → cell_at (append_step shape a p more).cells c ≡ Taken b x
    → Kept (append_step shape a p more).phase c x → KeptBefore (Append p) a c b
unfolding KeptBefore
append_kept shape a p true e c b x h k = swept_kept shape a p (cell_at a.cells p) refl c b x h k
append_kept shape a p false e c b x h k = (
  x,
  h,
  passed x (let lt = taken_within a.cells c b x h in let le = ltb-false p (length a.cells) e in omega arith),
)
  where
    passed : (y : Colour) → c < p → Kept (Append p) c y
    passed White l = l
    passed Grey l = tt
    passed Black l = tt

step_kept : (shape : HeapShape) (w : World) (a : Account) (phase : Phase) (c b : ℕ) (x : Colour)
    → cell_at (step_in shape w a phase).cells c ≡ Taken b x → Kept (step_in shape w a phase).phase c x
    → KeptBefore phase a c b
unfolding KeptBefore Held
step_kept shape w a Idle c b x h k = let o = step_held shape w a Idle c b x h in (o.0, o.1, tt)
step_kept shape w a (Statics s) c b x h k = let o = step_held shape w a (Statics s) c b x h in (o.0, o.1, tt)
step_kept shape w a (Frames t d j) c b x h k = let o = step_held shape w a (Frames t d j) c b x h in (o.0, o.1, tt)
step_kept shape w a (Mark q) c b x h k = let o = step_held shape w a (Mark q) c b x h in (o.0, o.1, tt)
step_kept shape w a (Append p) c b x h k = append_kept shape a p (nat_lt p (length a.cells)) refl c b x h k

pub collected_kept : (shape : HeapShape) (w : World) (a : Account) (c b : ℕ) (x : Colour)
    → cell_at (collected shape w a).cells c ≡ Taken b x → Kept (collected shape w a).phase c x → (y : Colour)
    × (cell_at a.cells c ≡ Taken b y) × Kept a.phase c y
unfolding collected KeptBefore
collected_kept shape w a c b x h k = step_kept shape w a a.phase c b x h k
