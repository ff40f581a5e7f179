use Rattle.std.proofs.Common.{Option, ap, ◌∙◌}
use Rattle.model.specs.ClassListings.{ClassListing}
use Rattle.model.specs.Classes.Named.{builtin, or_else}
use Rattle.resolve.proofs.AcyclicLemmas.{named-listed}
use Rattle.resolve.proofs.SearchLemmas.{first-one}
use Rattle.resolve.proofs.classes.Classes.declared_by.Goals as goal

pub returns-in-Some : goal.returns-in-Some
returns-in-Some g c =
    c.declared_in.ensures
    ∙ first-one c.args.self.now (g.S.Sought.of c.args.sought.now) c.args.name.now c.in-Some.members.now
    (ap (λ (o : Option ClassListing). or_else o (builtin c.args.name.now)) c.in-Some.ensures)
    (named-listed c.args.self.now c.args.name.now c.in-Some.members.now c.in-Some.ensures)
