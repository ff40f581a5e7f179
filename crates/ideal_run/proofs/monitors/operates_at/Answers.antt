use Rattle.std.proofs.Common.{◌∙◌, Bool, ap}
use Rattle.model.specs.Table.Monitors.{operates_if}
use Rattle.ideal_run.specs.Completed.{plainly}
use Rattle.ideal_run.proofs.monitors.operates_at.Goals as goal

pub returns-in-Ok : goal.returns-in-Ok
returns-in-Ok c = c.in-Ok.ensures
    ∙ ap (λ (b : Bool). plainly (operates_if c.args.site.now c.args.operation c.args.birth b)) c.requires
