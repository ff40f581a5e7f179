-- the world has the rows so far, the reference has followed them, and the first of those left that differs is the first
-- of all
use Rattle.std.proofs.Common.{◌≡◌, ◌++◌, ℕ, List, Option, length}
use Rattle.model.specs.declared.journals.Row.{Row}
use Rattle.comparison.specs.Compared.{IsFirstOther}
use Rattle.scheduler.specs.Replaying.{with_all}
use Rattle.comparison.proofs.checking.compare.Given as goal

abbrev pub invariant-loop-row : goal.invariant-loop-row
invariant-loop-row g l = record {
  done : List Row;
  all : l.fn.rows ≡ done ++ l.rows;
  world : l.world ≡ with_all l.fn.world done;
  beside : g.R.Reference.beside l.reference l.world;
  rest : (first : Option ℕ) →
      IsFirstOther g.R.Reference.shown g.R.Reference.beside (length done) l.world l.rows first →
      IsFirstOther g.R.Reference.shown g.R.Reference.beside 0 l.fn.world l.fn.rows first;
}
