use Rattle.std.proofs.Common.{sym, subst}
use Rattle.model.specs.Worlds.{World}
use Rattle.exploration.specs.Representation.{Represents}
use Rattle.exploring.proofs.CanonicalLemmas.{is_represented}
use Rattle.exploring.proofs.forms.canonical.Goals as goal

pub returns-clause-represents : goal.returns-clause-represents
returns-clause-represents c = λ all. subst (λ (x : World). Represents x c.args.world.now) (sym c.in_ok-made.ensures)
    (is_represented c.args.world.now all)
