use Rattle.std.proofs.Common.{◌∙◌, ap, sym, true≢false}
use Rattle.model.specs.Effects.{Choice}
use Rattle.ideal_run.specs.Effected.{choice_in}
use Rattle.ideal_run.specs.Runs.{Run, run_after}
use Rattle.comparison.specs.Checking.{reference_of}
use Rattle.comparison.proofs.Followed.{reference_reported}
use Rattle.comparison.proofs.references.follow.Goals as goal

pub returns : goal.returns
returns c =
    c.in_ok-turn.ensures
    ∙ ap (λ (r : Run). run_after r c.args.row.actor (choice_in c.reported_choice.result)) c.requires.beside
    ∙ ap (λ (choice : Choice). run_after (reference_of c.args.world.now) c.args.row.actor choice)
    c.reported_choice.ensures
    ∙ reference_reported c.args.world.now c.args.row (λ e. true≢false (sym (c.is_at_fault.ensures.1 e)
    ∙ c.if-is_at_fault.false))
