use Rattle.std.proofs.Common.{◌∙◌, ap, refl, subst, sym}
use Rattle.model.specs.Journals.{JournalValue}
use Rattle.model.specs.Limits.{ShapeFits}
use Rattle.comparison.specs.Checking.{reference_of}
use Rattle.ideal_run.specs.Runs.{Run}
use Rattle.comparison.proofs.Compared.{run_differs_nowhere}
use Rattle.comparison.proofs.checking.difference_by.Goals as goal

pub difference-requires : goal.difference-requires
difference-requires g c = (c.requires.program, c.requires.run)

pub last_difference-requires : goal.last_difference-requires
last_difference-requires g c = (c.in_ok-row.ensures.followed c.in-None.is).1

pub returns-in-Some : goal.returns-in-Some
returns-in-Some g c =
    sym c.in-Some.is
    ∙ run_differs_nowhere _ _ (λ r u followed. ap (λ (run : Run). run.world) followed.1) c.args.world.now
    _ _ _
    (subst (λ (j : JournalValue). ShapeFits j.shape.small j.shape.medium j.shape.large) c.journal.ensures
    c.is_sound.ensures.head.cells)
    c.is_made.ensures refl refl c.in_ok-row.ensures.first
