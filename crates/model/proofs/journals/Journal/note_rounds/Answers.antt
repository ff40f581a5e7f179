use Rattle.std.proofs.Common.{◌≤◌, ap, sym, subst}
use Rattle.std.specs.Prelude.{ℕ, List}
use Rattle.model.specs.declared.journals.Row.{Row}
use Rattle.model.specs.Journals.{AreOfWorkers}
use Rattle.model.specs.KeptRows.{KeptRows}
use Rattle.model.proofs.RunsAndRows.{rounds-workers}
use Rattle.model.proofs.journals.Journal.note_rounds.Goals as goal

pub invariant_of-self : goal.invariant_of-self
invariant_of-self c =
    let a = c.self.inside in
    let first = rw (← c.self.view_is) at c.requires.first in
    let second = rw (← c.self.view_is) at c.requires.second in (
      c.self.invariant.0,
      subst (λ (r : ℕ). a.limits.steps ≤ r) (sym (ap (λ (k : KeptRows). k.room) c.note_rounds.ensures))
          c.self.invariant.1,
      subst (λ (rows : List Row). AreOfWorkers a.workers rows)
          (sym (ap (λ (k : KeptRows). k.rows) c.note_rounds.ensures))
          (rounds-workers a.workers a.runs.rows c.args.first c.args.second c.args.times c.args.rounds
          c.self.invariant.2 first second),
    )
