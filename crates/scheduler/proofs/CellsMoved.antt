-- The machine on cells for which a journal stands, after one row more.
use Rattle.std.proofs.Common.{◌≡◌, List, [], ◌∷◌, ◌++◌, refl}
use Rattle.model.specs.declared.journals.HeapShape.{HeapShape}
use Rattle.model.specs.declared.journals.Limits.{Limits}
use Rattle.model.specs.declared.journals.Row.{Row}
use Rattle.model.specs.ClassListings.{ClassListing}
use Rattle.model.specs.Machines.{Recorded, noted}
use Rattle.join.specs.TurnsOnCells.{CellMachine, moved_on, moved_on_by_all, opening_on}
use Rattle.scheduler.specs.OnCells.{actors_of, cells_of}

module _ (program : List ClassListing) (shape : HeapShape) (limits : Limits) where
  moved_last : (x : CellMachine) (rows : List Row) (row : Row)
      → moved_on_by_all program shape limits x (actors_of (rows ++ row ∷ []))
      ≡ moved_on program shape limits (moved_on_by_all program shape limits x (actors_of rows)) row.actor
  moved_last x [] row = refl
  moved_last x (r ∷ rows) row = moved_last (moved_on program shape limits x r.actor) rows row

-- its actor's turn
pub cells_next : (v : Recorded) (row : Row)
    → cells_of (noted v row) ≡ moved_on v.program v.journal.shape v.journal.limits (cells_of v) row.actor
unfolding cells_of
cells_next v row = moved_last v.program v.journal.shape v.journal.limits (opening_on v.program v.journal.shape)
    v.journal.rows row
