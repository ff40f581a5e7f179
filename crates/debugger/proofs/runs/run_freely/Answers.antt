use Rattle.std.proofs.Common.{◌≡◌, ◌-◌, arith, suc}
use Rattle.debugger.proofs.FreeRuns.{ends_early, ends_late, left_within}
use Rattle.debugger.proofs.runs.run_freely.Goals as goal

pub overflow_sub-made : goal.overflow_sub-made
overflow_sub-made c =
    let within = left_within (c.args.turns - 1) c.args.world.now in
    let left = c.make_rounds-rounds.ensures.left in
    omega (arith, within, left)

pub returns-then-rounds-gt0 : goal.returns-then-rounds-gt0
returns-then-rounds-gt0 c =
    let rounds = c.make_rounds-rounds in
    let n = c.args.turns - 1 in
    let whole : c.args.turns ≡ suc n = omega (arith, c.if-turns-eq0.false) in
    ends_early c.args.breakpoints.now.slots c.requires c.args.turns n rounds.result.left c.args.world.now rounds.new.self
    whole rounds.ensures.world rounds.ensures.left rounds.result.answer c.reason_after.result rounds.ensures.answer
    c.reason_after.ensures (omega (arith, c.if-rounds-gt0.true))

pub returns : goal.returns
returns c =
    let rounds = c.make_rounds-rounds in
    let last = c.run_to_breakpoint-last in
    let n = c.args.turns - 1 in
    let whole : c.args.turns ≡ suc n = omega (arith, c.if-turns-eq0.false) in
    ends_late c.args.breakpoints.now.slots c.requires c.args.turns n rounds.result.left c.args.world.now rounds.new.self
    whole rounds.ensures.world rounds.ensures.left last.new.world last.result.turns last.result.reason
    (omega (arith, c.if-rounds-gt0.false)) last.ensures
