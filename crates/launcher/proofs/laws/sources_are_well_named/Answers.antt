use Rattle.launcher.proofs.WellNamedSources.{listings_are_well_named}
use Rattle.launcher.proofs.laws.sources_are_well_named.Goals as goal

pub returns : goal.returns
returns c = listings_are_well_named c.texts_are_spelled.ensures
