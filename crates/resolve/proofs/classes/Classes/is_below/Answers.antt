use Rattle.std.proofs.Common.{◌+◌, length, arith}
use Rattle.model.specs.Classes.Types.{is_subtype}
use Rattle.resolve.proofs.TypeLemmas.{below-reported, below-next, below-over}
use Rattle.resolve.proofs.classes.Classes.is_below.Goals as goal

pub returns-in-Reported : goal.returns-in-Reported
returns-in-Reported c =
    below-reported c.args.self.now (length c.args.name.now + 1) c.loop.counter c.loop.lower.now c.loop.upper.now
    (is_subtype c.args.self.now c.args.name.now c.args.above.now)
    c.loop.invariant c.in-Reported.answer (omega arith) (λ elements. c.in-Reported.ensures elements)

pub loop-preserved : goal.loop-preserved
loop-preserved c =
    below-next c.args.self.now (length c.args.name.now + 1) c.loop.counter c.loop.lower.now c.loop.upper.now
    (is_subtype c.args.self.now c.args.name.now c.args.above.now)
    c.loop.invariant c.in-Elements.element.now c.in-Elements.other.now (omega arith)
    (λ elements. c.in-Elements.ensures elements)

pub returns : goal.returns
returns c =
    below-over c.args.self.now (length c.args.name.now + 1) c.loop.counter c.loop.lower.now c.loop.upper.now
    (is_subtype c.args.self.now c.args.name.now c.args.above.now)
    c.loop.invariant (omega arith)
