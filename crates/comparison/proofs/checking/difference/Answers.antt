use Rattle.std.proofs.Common.{List, [], ◌∙◌, ap, subst, sym}
use Rattle.model.specs.declared.journals.Row.{Row}
use Rattle.model.specs.Journals.{AreOfWorkers, JournalValue}
use Rattle.model.specs.Machines.{Recorded}
use Rattle.comparison.specs.Compared.{IsFirstOther}
use Rattle.comparison.proofs.Followed.{whole_again}
use Rattle.scheduler.specs.Replaying.{with_all}
use Rattle.comparison.proofs.checking.difference.Goals as goal

pub compare-requires-clause-empty : goal.compare-requires-clause-empty
compare-requires-clause-empty g c = ap (λ (v : Recorded). v.journal.rows) c.in_ok-again.ensures

pub compare-requires-clause-workers : goal.compare-requires-clause-workers
compare-requires-clause-workers g c =
    subst (λ (v : Recorded). AreOfWorkers v.journal.workers c.rows.result) (sym c.in_ok-again.ensures)
    (subst (λ (j : JournalValue). AreOfWorkers j.workers c.rows.result) c.journal-journal.ensures
    (subst (λ (rows : List Row). AreOfWorkers c.journal-journal.result.now.workers rows) (sym c.rows.ensures.value) c.rows.ensures.workers))

pub compare-requires-clause-beside : goal.compare-requires-clause-beside
compare-requires-clause-beside g c = subst (g.R.Reference.beside c.args.reference.now) (sym c.in_ok-again.ensures)
    c.requires

pub returns-clause-first : goal.returns-clause-first
returns-clause-first g c =
    subst
    (λ (rows : List Row). IsFirstOther g.R.Reference.shown g.R.Reference.beside 0 (with_all c.args.world.now []) rows
    c.in_ok-first.first)
    (c.rows.ensures.value ∙ ap (λ (j : JournalValue). j.rows) c.journal-journal.ensures)
    (subst
    (λ (v : Recorded). IsFirstOther g.R.Reference.shown g.R.Reference.beside 0 v c.rows.result c.in_ok-first.first)
    c.in_ok-again.ensures c.in_ok-first.ensures.first)

pub returns-clause-followed : goal.returns-clause-followed
returns-clause-followed g c = λ none.
    subst (g.R.Reference.beside _)
    (whole_again c.args.world.now c.in_ok-again.again c.rows.result c.in_ok-again.ensures
    (c.rows.ensures.value ∙ ap (λ (j : JournalValue). j.rows) c.journal-journal.ensures))
    (c.in_ok-first.ensures.followed none)
