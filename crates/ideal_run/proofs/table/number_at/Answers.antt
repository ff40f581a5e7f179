use Rattle.std.proofs.Common.{◌∙◌, ℕ, ap}
use Rattle.model.specs.Frames.{Frame}
use Rattle.model.specs.Table.Numbers.{number}
use Rattle.ideal_run.specs.Completed.{completes_with}
use Rattle.ideal_run.specs.Reported.{frame_in}
use Rattle.ideal_run.proofs.PlainLemmas.{plain-completes}
use Rattle.ideal_run.proofs.table.number_at.Goals as goal

pub returns : goal.returns
returns c =
    c.completes.ensures
    ∙ (ap (completes_with c.args.site.now) (c.in_ok-moved.ensures
    ∙ (ap (λ (n : ℕ). frame_in (number n c.args.operation c.frame.result.now)) c.next.ensures
    ∙ ap (λ (f : Frame). frame_in (number c.args.site.now.next c.args.operation f)) c.frame.ensures.frame))
    ∙ plain-completes c.args.site.now (number c.args.site.now.next c.args.operation c.args.site.now.frame))
