-- The number of workers of a world that has made no turn.
use Rattle.std.specs.Prelude.{ℕ}
use Rattle.model.specs.Journals.{blank}
use Rattle.model.specs.Machines.{Recorded}

-- a world that has made no turn, when it has so many workers
abbrev pub with_workers : Recorded → ℕ → Recorded
with_workers v workers = record v { journal = blank v.journal.shape v.journal.limits workers }
