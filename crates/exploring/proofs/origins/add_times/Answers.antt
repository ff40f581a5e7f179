use Rattle.std.proofs.Common.{◌+◌, ◌-◌, ◌++◌, ◌∙◌, List, ap, arith, replicate}
use Rattle.exploring.specs.declared.explored.Move.{Move}
use Rattle.exploring.proofs.OriginLemmas.{one_more_time}
use Rattle.exploring.proofs.origins.add_times.Goals as goal

pub loop-time-preserved : goal.loop-time-preserved
loop-time-preserved c =
    let within = c.loop-time-test.true in
    ap (λ (ms : List Move). ms ++ replicate (c.args.times - (c.loop-time._time + 1)) c.args.one) c.in_ok-push.ensures.items
    ∙ one_more_time c.args.times c.loop-time._time c.args.one c.loop-time.moves.items
    (c.args.moves.now.items ++ replicate c.args.times c.args.one) c.loop-time.invariant (omega (arith, within))
