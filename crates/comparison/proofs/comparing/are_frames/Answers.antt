use Rattle.std.proofs.Common.{◌≤◌, arith, length}
use Rattle.comparison.proofs.Deciding.{agreed}
use Rattle.comparison.proofs.comparing.are_frames.Goals as goal

pub returns : goal.returns
returns c =
    let same = c.if-views-frames.false in
    let past = c.loop-n-test.false in
    let to = c.loop-n.auto in
    let end : length c.args.views.now ≤ c.loop-n.n = omega (arith, past) in
    agreed c.args.views.now c.args.frames.now c.loop-n.n (omega (arith, same)) end c.loop-n.invariant
