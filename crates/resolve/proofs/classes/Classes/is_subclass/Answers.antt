use Rattle.std.proofs.Common.{List, ap, ◌∙◌}
use Rattle.model.specs.ClassListings.{ClassListing}
use Rattle.model.specs.Classes.Subclasses.{is_subclass}
use Rattle.resolve.proofs.SubtypeLemmas.{subclass-least}
use Rattle.resolve.proofs.classes.Classes.is_subclass.Goals as goal

pub returns-clause-least : goal.returns-clause-least
returns-clause-least c =
    subclass-least c.args.self.now c.args.name.now c.args.above.now _ (c.is_subclass.ensures
    ∙ ap (λ (p : List ClassListing). is_subclass p c.args.name.now c.args.above.now) c.self.view_is)
