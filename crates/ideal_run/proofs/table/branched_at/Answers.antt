use Rattle.std.proofs.Common.{◌∙◌, ℕ, ap}
use Rattle.model.specs.Frames.{Frame}
use Rattle.model.specs.Table.Branches.{branched}
use Rattle.ideal_run.specs.Completed.{completes_with}
use Rattle.ideal_run.specs.Reported.{frame_in}
use Rattle.ideal_run.proofs.PlainLemmas.{plain-completes}
use Rattle.ideal_run.proofs.table.branched_at.Goals as goal

pub returns : goal.returns
returns c =
    c.completes.ensures
    ∙ (ap (completes_with c.args.site.now) (c.in_ok-moved.ensures
    ∙ (ap (λ (n : ℕ). frame_in (branched n c.args.test c.args.target c.frame.result.now)) c.next.ensures
    ∙ ap (λ (f : Frame). frame_in (branched c.args.site.now.next c.args.test c.args.target f)) c.frame.ensures.frame))
    ∙ plain-completes c.args.site.now (branched c.args.site.now.next c.args.test c.args.target c.args.site.now.frame))
