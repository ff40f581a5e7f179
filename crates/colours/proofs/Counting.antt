use Rattle.std.proofs.Common.{◌≡◌, ℕ, zero, suc, ◌+◌, ◌<◌, ◌≤◌, Bool, true, false, List, [], ◌∷◌, ◌++◌, length, set}
use Rattle.std.proofs.Common.{slice_get, Some, nat_eq, refl, ap, arith, eqb-true, eq-eqb}
use Rattle.model.specs.declared.colours.Cell.{Cell}
use Rattle.model.specs.declared.colours.Cell.TheVariants.{Free, Taken}
use Rattle.model.specs.declared.colours.Colour.TheVariants.{White, Grey, Black}
use Rattle.model.specs.Collector.Table.{cell_at}
use Rattle.colours.specs.Sound.{free_in, grey_in, total, free_at, one_if, times}

-- how many cells are free or grey, and how often a number is listed, after one cell is written or one number is pushed

-- ---- numbers in lists

pub one_if-same : (c : ℕ) → one_if c c ≡ 1
one_if-same c = rw (eq-eqb c c refl) refl

pub one_if-other : (c d : ℕ) → (c ≡ d → ⊥) → one_if c d ≡ 0
one_if-other c d n = go (nat_eq c d) refl
  where
    go : (same : Bool) → nat_eq c d ≡ same → one_if c d ≡ 0
    go true e = absurd (n (eqb-true c d e))
    go false e = rw e refl

pub times-push : (c : ℕ) (xs : List ℕ) (d : ℕ) → times c (xs ++ d ∷ []) ≡ times c xs + one_if c d
times-push c [] d = omega arith
times-push c (x ∷ xs) d = let k = times-push c xs d in omega (arith, k)

-- ---- one cell

pub free_in_one : (x : Cell) → free_in x ≤ 1
free_in_one Free = omega arith
free_in_one (Taken b colour) = omega arith

pub grey_in_one : (x : Cell) → grey_in x ≤ 1
grey_in_one Free = omega arith
grey_in_one (Taken b White) = omega arith
grey_in_one (Taken b Grey) = omega arith
grey_in_one (Taken b Black) = omega arith

free_by : (x : Cell) → 1 ≤ free_in x → x ≡ Free
free_by Free l = refl
free_by (Taken b colour) l = absurd (omega arith)

-- ---- all cells

pub total-set : (f : Cell → ℕ) (cells : List Cell) (c : ℕ) (x : Cell) → c < length cells
    → total f (set cells c x) + f (cell_at cells c) ≡ total f cells + f x
total-set f [] c x l = absurd (omega arith)
total-set f (y ∷ cells) zero x l = omega arith
total-set f (y ∷ cells) (suc c) x l = let k = total-set f cells c x (omega arith) in omega (arith, k)

total-most : (f : Cell → ℕ) → ((x : Cell) → f x ≤ 1) → (cells : List Cell) → total f cells ≤ length cells
total-most f one [] = omega arith
total-most f one (x ∷ cells) = let a = one x in let b = total-most f one cells in omega (arith, a, b)

-- where one cell isn't counted, fewer are than there are cells
pub total-fewer : (f : Cell → ℕ) → ((x : Cell) → f x ≤ 1) → (cells : List Cell) (c : ℕ) → c < length cells
    → f (cell_at cells c) ≡ 0 → total f cells < length cells
total-fewer f one [] c l e = absurd (omega arith)
total-fewer f one (x ∷ cells) zero l e = let b = total-most f one cells in omega (arith, b, e)
total-fewer f one (x ∷ cells) (suc c) l e = let a = one x
    in let b = total-fewer f one cells c (omega arith) e
    in omega (arith, a, b)

-- ---- whether a number is that of a free cell

pub free_at_cell : (cells : List Cell) (c : ℕ) → c < length cells → free_at cells c ≡ free_in (cell_at cells c)
free_at_cell [] c l = absurd (omega arith)
free_at_cell (x ∷ cells) zero l = refl
free_at_cell (x ∷ cells) (suc c) l = free_at_cell cells c (omega arith)

pub free_at_within : (cells : List Cell) (c : ℕ) → 1 ≤ free_at cells c → c < length cells
free_at_within [] c l = absurd (omega arith)
free_at_within (x ∷ cells) zero l = omega arith
free_at_within (x ∷ cells) (suc c) l = let k = free_at_within cells c l in omega (arith, k)

pub free_at_free : (cells : List Cell) (c : ℕ) → 1 ≤ free_at cells c → cell_at cells c ≡ Free
free_at_free cells c l = let e = free_at_cell cells c (free_at_within cells c l)
    in free_by (cell_at cells c) (omega (arith, e, l))

pub free_at_found : (cells : List Cell) (c : ℕ) → 1 ≤ free_at cells c → slice_get cells c ≡ Some Free
free_at_found [] c l = absurd (omega arith)
free_at_found (x ∷ cells) zero l = ap Some (free_by x l)
free_at_found (x ∷ cells) (suc c) l = free_at_found cells c l

pub free_at_one : (cells : List Cell) (c : ℕ) → free_at cells c ≤ 1
free_at_one [] c = omega arith
free_at_one (x ∷ cells) zero = free_in_one x
free_at_one (x ∷ cells) (suc c) = free_at_one cells c

pub free_at-set_same : (cells : List Cell) (c : ℕ) (x : Cell) → c < length cells → free_at (set cells c x) c ≡ free_in x
free_at-set_same [] c x l = absurd (omega arith)
free_at-set_same (y ∷ cells) zero x l = refl
free_at-set_same (y ∷ cells) (suc c) x l = free_at-set_same cells c x (omega arith)

pub free_at-set_other : (cells : List Cell) (c d : ℕ) (x : Cell) → (d ≡ c → ⊥) → free_at (set cells c x) d
    ≡ free_at cells d
free_at-set_other [] c d x n = refl
free_at-set_other (y ∷ cells) zero zero x n = absurd (n refl)
free_at-set_other (y ∷ cells) zero (suc d) x n = refl
free_at-set_other (y ∷ cells) (suc c) zero x n = refl
free_at-set_other (y ∷ cells) (suc c) (suc d) x n = free_at-set_other cells c d x (λ e. n (ap suc e))
