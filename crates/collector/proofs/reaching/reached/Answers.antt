use Rattle.std.proofs.Common.{◌∙◌, slice_get, ap}
use Rattle.collector.specs.Reaching.{Marking}
use Rattle.collector.proofs.MarksTell.{marks_tell}
use Rattle.collector.proofs.reaching.reached.Goals as goal

pub returns : goal.returns
returns g c =
    λ r below.
    ap (λ (m : Marking). slice_get m.marks r) (c.reaching.view_is ∙ c.in_ok-reaching.ensures)
    ∙ marks_tell (g.R.References.world c.args.references.now) c.args.count c.requires r below
