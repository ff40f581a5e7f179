use Rattle.model.proofs.CollectorLemmas.Reaching.{reached_agrees}
use Rattle.model.proofs.collector.what_is_reached_is_computed.Goals as goal

pub returns : goal.returns
returns c = reached_agrees
