use Rattle.std.proofs.Common.{◌++◌, ◌∷◌, [], ◌∙◌, List, ap, append-nil, sym}
use Rattle.std.proofs.lemmas.List.{append_assoc}
use Rattle.model.specs.declared.journals.Row.{Row}
use Rattle.model.specs.ClassListings.{ClassListing}
use Rattle.model.specs.Journals.{JournalValue}
use Rattle.ideal_run.specs.Runs.{opening_run}
use Rattle.comparison.specs.Checking.{reference_of}
use Rattle.scheduler.specs.Replaying.{with_all}
use Rattle.comparison.proofs.Followed.{follows_next, reference_opened}
use Rattle.comparison.proofs.references.made_again.Goals as goal

pub loop-row-init : goal.loop-row-init
loop-row-init c = (
  sym (c.into_iter-row-iterator.ensures.into_iter_gives ∙ c.rows-row-items.ensures.value
      ∙ ap (λ (j : JournalValue). j.rows) c.journal-journal.ensures),
  c.in_ok-run.ensures
      ∙ ap (λ (p : List ClassListing). opening_run p c.limits.result) (sym c.requires.program)
      ∙ ap (opening_run c.args.world.now.program) (c.limits.ensures.value
      ∙ ap (λ (j : JournalValue). j.limits) c.journal-journal.ensures)
      ∙ sym (reference_opened c.args.world.now),
)

pub loop-row-preserved : goal.loop-row-preserved
loop-row-preserved c =
    let at = c.loop-row in
    let row = c.in-Some.row in
    let all = at.invariant.0 ∙ ap (λ (rows : List Row). at.yielded ++ rows) c.in-Some.ensures.steps in (
      all ∙ sym (append_assoc at.yielded (row ∷ []) c.next.new.self),
      follows_next c.args.world.now at.yielded c.next.new.self row all c.requires.clean at.run c.turn.new.self _
          at.invariant.1 c.reported_choice.ensures c.in_ok-turn.ensures,
    )

pub returns : goal.returns
returns c =
    let at = c.loop-row in
    let all = at.invariant.0 ∙ ap (λ (rows : List Row). at.yielded ++ rows) c.in-None.ensures.steps.0
    ∙ append-nil at.yielded in
    at.invariant.1 ∙ ap (λ (rows : List Row). reference_of (with_all c.args.world.now rows)) (sym all)
