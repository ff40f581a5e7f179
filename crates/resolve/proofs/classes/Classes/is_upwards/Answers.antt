use Rattle.std.proofs.Common.{◌∙◌, ap, arith, sym}
use Rattle.model.specs.ClassListings.{ClassListing}
use Rattle.model.specs.Classes.Subclasses.{enough_steps}
use Rattle.resolve.proofs.SpecialLemmas.{seek-here, seek-next, seek-ends, seek-over}
use Rattle.resolve.proofs.classes.Classes.is_upwards.Goals as goal

pub returns-then-eq : goal.returns-then-eq
returns-then-eq c =
    seek-here c.args.self.now (enough_steps c.args.self.now) c.loop.counter c.loop.next.now c.args.above.now _
    c.loop.invariant
    c.in-Some.class.now c.in-Some.ensures.class (omega (arith, c.enough_steps-end.ensures)) (sym c.eq.ensures
    ∙ c.if-eq.true)

pub returns-in-None : goal.returns-in-None
returns-in-None c =
    seek-ends c.args.self.now (enough_steps c.args.self.now) c.loop.counter c.loop.next.now c.args.above.now _
    c.loop.invariant c.in-None.ensures.class

pub loop-preserved : goal.loop-preserved
loop-preserved c =
    seek-next c.args.self.now (enough_steps c.args.self.now) c.loop.counter c.loop.next.now c.args.above.now _
    c.loop.invariant
    c.as_bytes-next.result.now c.in-Some.class.now c.in-Some.ensures.class (omega (arith, c.enough_steps-end.ensures))
    (sym c.eq.ensures ∙ c.if-eq.false) (c.as_bytes-next.ensures
    ∙ ap (λ (x : ClassListing). x.superclass) c.class.view_is)

pub returns : goal.returns
returns c =
    seek-over c.args.self.now (enough_steps c.args.self.now) c.loop.counter c.loop.next.now c.args.above.now _
    c.loop.invariant
    (omega (arith, c.enough_steps-end.ensures))
