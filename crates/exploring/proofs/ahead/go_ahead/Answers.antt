use Rattle.exploring.proofs.AheadLemmas.{went_not}
use Rattle.exploring.proofs.ahead.go_ahead.Goals as goal

pub returns-then-is_some : goal.returns-then-is_some
returns-then-is_some c = went_not c.args.transitions.now.program c.args.thread c.args.room c.args.world
