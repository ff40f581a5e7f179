-- What of a world no turn changes: its program, its heap's shape, its limits and its number of workers.
use Rattle.std.specs.Prelude.{ℕ, List}
use Rattle.model.specs.declared.journals.HeapShape.{HeapShape}
use Rattle.model.specs.declared.journals.Limits.{Limits}
use Rattle.model.specs.ClassListings.{ClassListing}
use Rattle.model.specs.Machines.{Recorded}

pub record Head : Type 0 where
  pub program : List ClassListing
  pub shape : HeapShape
  pub limits : Limits
  pub workers : ℕ

abbrev pub head_of : Recorded → Head
head_of v = record {
  program = v.program;
  shape = v.journal.shape;
  limits = v.journal.limits;
  workers = v.journal.workers;
}
