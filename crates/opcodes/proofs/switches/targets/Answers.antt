use Rattle.std.proofs.Common.{◌≡◌, ◌++◌, ◌∷◌, [], rules}
use Rattle.std.proofs.lemmas.Int.{ints, to_z-of_z}
use Rattle.std.proofs.lemmas.Result.{err_from_is_err_and}
use Rattle.opcodes.specs.Reading.Switches.{targets_at, landing}
use Rattle.opcodes.proofs.Loops.{targets_go_on, targets_end, targets_done}
use Rattle.opcodes.proofs.switches.targets.Goals as goal

pub returns-in_err-offset : goal.returns-in_err-offset
returns-in_err-offset c =
    let p = err_from_is_err_and c.from_residual.result c.from_residual.ensures.1 in
    rw (p.1, p.2) (targets_end c.in_err-offset.field-0.0 c.loop.targets.items c.args.pc c.args.count c.loop.counter
    c.loop.rest.now (targets_at c.args.pc c.args.count c.args.bytes.now) c.loop-test.true c.in_err-offset.ensures.gives
    c.loop.invariant)

pub loop-preserved : goal.loop-preserved
loop-preserved c =
    let e : c.push.new.self.items ≡ c.loop.targets.items ++ landing c.args.pc c.in_ok-offset.offset
    ∷ [] = search (rules, ints, to_z-of_z) in
    rw e (targets_go_on c.loop.targets.items c.args.pc c.args.count c.loop.counter c.loop.rest.now c.in_ok-offset.offset
    c.in_ok-offset.after.now (targets_at c.args.pc c.args.count c.args.bytes.now) c.loop-test.true
    c.in_ok-offset.ensures.gives c.loop.invariant)

pub returns : goal.returns
returns c = targets_done c.loop.targets.items c.args.pc c.args.count c.loop.counter c.loop.rest.now
    (targets_at c.args.pc c.args.count c.args.bytes.now) c.loop-test.false c.loop.invariant
