-- What a state shows doesn't depend on the number of workers.
use Rattle.std.proofs.Common.{◌≡◌, ℕ, List, [], refl, ap, subst, ◌∙◌, length}
use Rattle.model.specs.declared.journals.Row.{Row}
use Rattle.model.specs.Collector.Runs.{Holds}
use Rattle.model.specs.Journals.{JournalValue, blank}
use Rattle.model.specs.Machines.{Machine, machine_of}
use Rattle.model.specs.Observers.{after_last}
use Rattle.join.specs.Joined.{Bounded, Joint}
use Rattle.instructions.specs.Loaded.{Loaded}
use Rattle.scheduler.specs.OnCells.{cells_of}
use Rattle.scheduler.specs.Worlds.{recorded, IsOf}

-- a journal with these rows and so many workers
abbrev of_rows : JournalValue → List Row → ℕ → JournalValue
of_rows j rows workers = record { shape = j.shape; limits = j.limits; workers = workers; rows = rows }

same_machine : (s : Loaded) (j : JournalValue) (workers : ℕ) → machine_of (recorded s j)
    ≡ machine_of (recorded s (of_rows j j.rows workers))
unfolding machine_of
same_machine s j workers = refl

same_cells : (s : Loaded) (j : JournalValue) (workers : ℕ) → cells_of (recorded s j)
    ≡ cells_of (recorded s (of_rows j j.rows workers))
unfolding cells_of
same_cells s j workers = refl

pub workers_set : (s : Loaded) (j : JournalValue) (next workers : ℕ) → IsOf s j next → j.rows ≡ []
    → IsOf s (blank j.shape j.limits workers) next
workers_set s j next workers is empty =
    let same : machine_of (recorded s j) ≡ machine_of (recorded s (blank j.shape j.limits workers)) =
    same_machine s j workers ∙ ap (λ (rows : List Row). machine_of (recorded s (of_rows j rows workers))) empty in
    record {
      limits_are = is.limits_are;
      shape_is = is.shape_is;
      rows_are = is.rows_are ∙ ap length empty;
      cells_are =
          is.cells_are ∙ same_cells s j workers
          ∙ ap (λ (rows : List Row). cells_of (recorded s (of_rows j rows workers))) empty;
      joint = subst (Joint s.machine) same is.joint;
      holds = subst (Holds j.shape) same is.holds;
      bounded = subst (λ (m : Machine). Bounded m.world) same is.bounded;
      next_is = is.next_is ∙ ap (after_last 0) empty;
      made = record { opens = is.made.opens; rows = tt };
    }
