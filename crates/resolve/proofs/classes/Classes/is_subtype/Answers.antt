use Rattle.resolve.proofs.SubtypeLemmas.{subtype-least}
use Rattle.resolve.proofs.classes.Classes.is_subtype.Goals as goal

pub returns-clause-least : goal.returns-clause-least
returns-clause-least c = subtype-least c.args.self.now c.args.name.now c.args.above.now _ c.is_below.ensures
