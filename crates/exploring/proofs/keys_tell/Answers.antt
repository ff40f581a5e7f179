use Rattle.exploring.proofs.StateLemmas.{keys_tell}
use Rattle.exploring.proofs.keys_tell.Goals as goal

pub returns : goal.returns
returns c = keys_tell
