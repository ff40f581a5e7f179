-- Journals whose rows their turns made: one row more, and what any of its rows is.
use Rattle.std.proofs.Common.{◌≡◌, ◌≤◌, ◌+◌, ℕ, zero, suc, List, [], ◌∷◌, ◌++◌, length, take, Option, Some, None}
use Rattle.std.proofs.Common.{is_some, true≢false, refl, ap, sym, subst, ◌∙◌, All, arith}
use Rattle.std.proofs.lemmas.List.{get_or_at, length-append, take_at}
use Rattle.std.specs.Prelude.{slice_get}
use Rattle.model.specs.declared.journals.HeapShape.{HeapShape}
use Rattle.model.specs.declared.journals.Limits.{Limits}
use Rattle.model.specs.declared.journals.Row.{Row}
use Rattle.model.specs.ClassListings.{ClassListing}
use Rattle.model.specs.declared.turns.Actor.{Actor}
use Rattle.model.specs.Journals.{JournalValue}
use Rattle.model.specs.Machines.{Machine, Recorded, advance, advance_all, after_turn_by, machine_of, noted, opened}
use Rattle.model.specs.Machines.{opening_machine, row_by, row_for, with_row}
use Rattle.scheduler.specs.Replaying.{AreMade, IsMade, with_all}
use Rattle.scheduler.specs.Workers.{with_workers}

abbrev row_or : Row → Option Row → Row
row_or other (Some row) = row
row_or other None = other

module _ (program : List ClassListing) (shape : HeapShape) (limits : Limits) where
  one_more : (m : Machine) (rows : List Row) (row : Row) → AreMade program shape limits m rows
      → row_by program limits (advance_all program shape limits m rows) row.actor row.worker ≡ Some row
      → AreMade program shape limits m (rows ++ row ∷ [])
  one_more m [] row are is = (is, tt)
  one_more m (r ∷ rows) row are is = (are.0, one_more (advance program shape limits m r) rows row are.1 is)

  -- each row of them is made by its turn
  pub made_at : (m : Machine) (rows : List Row) (n : ℕ) (row : Row) → AreMade program shape limits m rows
      → slice_get rows n ≡ Some row
      → row_by program limits (advance_all program shape limits m (take n rows)) row.actor row.worker ≡ Some row
  made_at m [] n row are there = absurd (true≢false (sym (ap is_some there)))
  made_at m (r ∷ rows) zero row are there =
      subst (λ (x : Row). row_by program limits m x.actor x.worker ≡ Some x) (ap (row_or r) there) are.0
  made_at m (r ∷ rows) (suc n) row are there = made_at (advance program shape limits m r) rows n row are.1 there

-- a journal that a run made, with the row of one more turn
pub made_noted : (v : Recorded) (row : Row) → IsMade v → row_for v row.actor row.worker ≡ Some row
    → IsMade (noted v row)
unfolding machine_of
made_noted v row is e = record {
  opens = is.opens;
  rows = one_more v.program v.journal.shape v.journal.limits (opening_machine v.program v.journal.shape) v.journal.rows
      row is.rows e;
}

-- a row between others
pub at_after : (done left : List Row) (row : Row) → slice_get (done ++ row ∷ left) (length done) ≡ Some row
at_after [] left row = refl
at_after (r ∷ done) left row = at_after done left row

-- what holds of each row holds of one between others
pub of_next : (P : Row → Type 0) (rows done left : List Row) (row : Row) → rows ≡ done ++ row ∷ left → All P rows
    → P row
of_next P rows done left row all holds =
    subst P (get_or_at done row left row (length done) refl)
    (subst (λ (l : List Row). All P l) all holds (length done) row
    (let long = length-append done (row ∷ left) in omega (arith, long)))

-- each row is the one that its turn makes after those before it
pub next_made : (v : Recorded) (done left : List Row) (row : Row) → IsMade v → v.journal.rows ≡ done ++ row ∷ left
    → row_for (with_all v done) row.actor row.worker ≡ Some row
unfolding machine_of
next_made v done left row is all =
    let before : take (length done) v.journal.rows ≡ done = ap (take (length done)) all
    ∙ take_at done (row ∷ left) (length done) refl in
    ap (λ (l : List Row). row_for (with_all v l) row.actor row.worker) (sym before)
    ∙ made_at v.program v.journal.shape v.journal.limits (opening_machine v.program v.journal.shape) v.journal.rows
    (length done) row is.rows
    (ap (λ (l : List Row). slice_get l (length done)) all ∙ at_after done left row)

-- ---- a turn and its row

pub none-following : (rows : List Row) (n : ℕ) → length rows ≤ n → None ≡ slice_get rows n
none-following [] n past = refl
none-following (r ∷ rows) zero past = absurd (omega (arith, past))
none-following (r ∷ rows) (suc n) past = none-following rows n (omega (arith, past))

last_pushed : (rows : List Row) (row : Row) → slice_get (rows ++ row ∷ []) (length rows) ≡ Some row
last_pushed [] row = refl
last_pushed (r ∷ rows) row = last_pushed rows row

noted_at : (v : Recorded) (made : Option Row) → slice_get (with_row v made).journal.rows (length v.journal.rows) ≡ made
noted_at v None = sym (none-following v.journal.rows (length v.journal.rows) (omega arith))
noted_at v (Some row) = last_pushed v.journal.rows row

-- what stands after the rows that there were is the row that the turn made
pub row_after : (v : Recorded) (actor : Actor) (worker : ℕ)
    → slice_get (after_turn_by v actor worker).journal.rows (length v.journal.rows) ≡ row_for v actor worker
unfolding after_turn_by
row_after v actor worker = noted_at v (row_for v actor worker)

-- a turn that makes a row notes it
pub turn_notes : (v : Recorded) (row : Row) → row_for v row.actor row.worker ≡ Some row
    → after_turn_by v row.actor row.worker ≡ noted v row
unfolding after_turn_by
turn_notes v row e = ap (with_row v) e

-- the same, of the rows that stand after a turn
pub row_reported : (v w : Recorded) (actor : Actor) (worker before : ℕ) (rows : List Row)
    → w ≡ after_turn_by v actor worker → rows ≡ w.journal.rows → before ≡ length v.journal.rows
    → slice_get rows before ≡ row_for v actor worker
row_reported v w actor worker before rows after rows_are before_is =
    ap (λ n. slice_get rows n) before_is ∙ ap (λ (l : List Row). slice_get l (length v.journal.rows)) (rows_are
    ∙ ap (λ (u : Recorded). u.journal.rows) after)
    ∙ row_after v actor worker

-- there is one row more at most
with_row_fits : (v : Recorded) (made : Option Row) → length (with_row v made).journal.rows ≤ length v.journal.rows + 1
with_row_fits v None = omega arith
with_row_fits v (Some row) = let long = length-append v.journal.rows (row ∷ []) in omega (arith, long)

pub one_row_at_most : (v w : Recorded) (actor : Actor) (worker before : ℕ) (rows : List Row)
    → w ≡ after_turn_by v actor worker → rows ≡ w.journal.rows → before ≡ length v.journal.rows
    → length rows ≤ before + 1
unfolding after_turn_by
one_row_at_most v w actor worker before rows after rows_are before_is =
    let fits = with_row_fits v (row_for v actor worker) in
    let long = ap length (rows_are ∙ ap (λ (u : Recorded). u.journal.rows) after) in
    omega (arith, fits, long, before_is)

-- ---- from row to row

module _ (v u : Recorded) (done left : List Row) (row : Row) (u_is : u ≡ with_all v done) where
  -- one row more
  pub made_one : (w : Recorded) (made : Option Row) → w ≡ after_turn_by u row.actor row.worker
      → made ≡ row_for u row.actor row.worker
      → made ≡ Some row → w ≡ with_all v (done ++ row ∷ [])
  made_one w made after reported same = after ∙ turn_notes u row (sym reported ∙ same)
      ∙ ap (λ (x : Recorded). noted x row) u_is

-- a world that opened, got its workers and the rows of a journal is that of the journal
pub all_is : (program : List ClassListing) (j : JournalValue) (w u : Recorded) (shape : HeapShape) (limits : Limits)
    (workers : ℕ) (rows : List Row) → w ≡ opened program shape limits
    → u ≡ with_workers w workers → shape ≡ j.shape → limits ≡ j.limits → workers ≡ j.workers → rows ≡ j.rows
    → with_all u rows ≡ record { program = program; journal = j }
all_is program j w u shape limits workers rows opening wide shape_is limits_is workers_is rows_is =
    ap (λ (x : Recorded). with_all x rows) (wide ∙ ap (λ (x : Recorded). with_workers x workers) opening)
    ∙ ap (λ (s : HeapShape). recorded_of s limits workers rows) shape_is
    ∙ ap (λ (l : Limits). recorded_of j.shape l workers rows) limits_is
    ∙ ap (λ (n : ℕ). recorded_of j.shape j.limits n rows) workers_is
    ∙ ap (λ (r : List Row). recorded_of j.shape j.limits j.workers r) rows_is
  where
    recorded_of : HeapShape → Limits → ℕ → List Row → Recorded
    recorded_of s l n r = record {
      program = program;
      journal = record {
        shape = s;
        limits = l;
        workers = n;
        rows = r;
      };
    }
