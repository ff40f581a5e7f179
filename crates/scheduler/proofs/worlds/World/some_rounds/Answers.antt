use Rattle.std.proofs.Common.{refl}
use Rattle.scheduler.proofs.PastStops.{into-past}
use Rattle.scheduler.proofs.worlds.World.some_rounds.Goals as goal

pub returns-then-thread_count-gt1-clause-rounds : goal.returns-then-thread_count-gt1-clause-rounds
returns-then-thread_count-gt1-clause-rounds c =
    let made = c.rounds_in_turn in
    into-past c.no_stops-stops.result c.args.self.now made.new.self c.args.worker c.args.gc made.result
    (made.ensures.past refl)
