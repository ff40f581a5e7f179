-- A world that is compared with a reference, row by row.
use Rattle.std.proofs.Common.{◌≡◌, ◌+◌, ◌⊎◌, inl, inr, ℕ, List, [], ◌∷◌, Bool, true, false, true≢false, Option, Some}
use Rattle.std.proofs.Common.{None, Decides, refl, ap, sym, subst}
use Rattle.model.specs.declared.journals.Row.{Row}
use Rattle.model.specs.Limits.{ShapeFits}
use Rattle.model.specs.Machines.{Machine, Recorded, machine_of, machine_of-noted, noted, row_for}
use Rattle.model.specs.Observers.{ideal}
use Rattle.model.specs.Shows.{Shows}
use Rattle.model.specs.Worlds.{World}
use Rattle.comparison.specs.Compared.{AgreesAt, AgreesIf, DiffersAt, IsFirstOther}
use Rattle.scheduler.specs.OnCells.{cells_of, heap_on}
use Rattle.scheduler.specs.Replaying.{AreMade, IsMade, with_all}
use Rattle.scheduler.proofs.LosesNothing.{Stands, nothing_lost, stands_next, stands_opened}

module _ {R : Type 0} (shown : R → World) (beside : R → Recorded → Type 0) where
  -- once the reference has followed a row that its turn made
  pub agreed_if : (v : Recorded) (row : Row) (r : R) (same : Bool) → row_for v row.actor row.worker ≡ Some row
      → beside r (noted v row) → Decides same (Shows (heap_on (cells_of (noted v row))) (shown r))
      → AgreesIf shown beside v row same
  agreed_if v row r true made followed decides =
      record { made = made; reference = r; followed = followed; shows = decides.0 refl }
  agreed_if v row r false made followed decides =
      inr (record { reference = r; followed = followed; other = λ s. true≢false (sym (decides.1 s)) })

  -- ---- a reference that shows the ideal world of each world whose rows it has followed

  module _ (only : (r : R) (u : Recorded) → beside r u → shown r ≡ ideal u) where
    same_at : (v : Recorded) (row : Row) → Stands v → row_for v row.actor row.worker ≡ Some row
        → DiffersAt shown beside v row → ⊥
    same_at v row stands made (inl other) = other made
    same_at v row stands made (inr other) =
        other.other (subst (Shows (heap_on (cells_of (noted v row))))
        (sym (only other.reference (noted v row) other.followed))
        (nothing_lost (noted v row) (stands_next v row stands made)).shown)

    none_differs : (rows : List Row) (n : ℕ) (v : Recorded) → Stands v
        → AreMade v.program v.journal.shape v.journal.limits (machine_of v) rows
        → (first : Option ℕ) → IsFirstOther shown beside n v rows first → first ≡ None
    none_differs [] n v stands are first is = is
    none_differs (row ∷ rows) n v stands are first (inl is) = absurd (same_at v row stands are.0 is.1)
    none_differs (row ∷ rows) n v stands are first (inr is) =
        none_differs rows (n + 1) (noted v row) (stands_next v row stands are.0)
        (subst (λ (m : Machine). AreMade v.program v.journal.shape v.journal.limits m rows)
        (sym (machine_of-noted v row)) are.1) first is.1

    opened_made : (v : Recorded) → IsMade v
        → AreMade v.program v.journal.shape v.journal.limits (machine_of (with_all v [])) v.journal.rows
    unfolding machine_of
    opened_made v is = is.rows

    -- the rows of a run, from its opening on
    pub run_differs_nowhere : (v u : Recorded) (rows : List Row) (first : Option ℕ)
        → ShapeFits v.journal.shape.small v.journal.shape.medium v.journal.shape.large → IsMade v
        → u ≡ with_all v [] → rows ≡ v.journal.rows → IsFirstOther shown beside 0 u rows first → first ≡ None
    run_differs_nowhere v u rows first fits made u_is rows_are is =
        none_differs v.journal.rows 0 (with_all v []) (stands_opened v fits) (opened_made v made) first
        (subst (λ (l : List Row). IsFirstOther shown beside 0 (with_all v []) l first) rows_are
        (subst (λ (x : Recorded). IsFirstOther shown beside 0 x rows first) u_is is))
