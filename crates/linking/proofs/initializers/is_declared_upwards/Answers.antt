use Rattle.std.proofs.Common.{◌∙◌, ap, arith}
use Rattle.model.specs.ClassListings.{ClassListing}
use Rattle.model.specs.Classes.Subclasses.{enough_steps}
use Rattle.linking.specs.Initializers.{declares_named}
use Rattle.linking.proofs.InitializerLemmas.{upwards-ends, upwards-found, upwards-next, upwards-over}
use Rattle.linking.proofs.initializers.is_declared_upwards.Goals as goal

pub returns-then-has : goal.returns-then-has
returns-then-has c =
    upwards-found (declares_named c.args.declarers.now) c.args.classes.now (enough_steps c.args.classes.now)
    c.loop.counter c.loop.next.now _ c.loop.invariant
    c.in-Some.class.now c.in-Some.ensures.class (omega (arith, c.enough_steps-end.ensures)) c.if-has.ensures

pub returns-in-None : goal.returns-in-None
returns-in-None c =
    upwards-ends (declares_named c.args.declarers.now) c.args.classes.now (enough_steps c.args.classes.now)
    c.loop.counter c.loop.next.now _ c.loop.invariant
    c.in-None.ensures.class

pub loop-preserved : goal.loop-preserved
loop-preserved c =
    upwards-next (declares_named c.args.declarers.now) c.args.classes.now (enough_steps c.args.classes.now)
    c.loop.counter c.loop.next.now _ c.loop.invariant
    c.in-Some.class.now c.as_bytes-next.result.now c.in-Some.ensures.class (omega (arith, c.enough_steps-end.ensures))
    c.if-has.ensures
    (c.as_bytes-next.ensures ∙ ap (λ (x : ClassListing). x.superclass) c.class.view_is)

pub returns : goal.returns
returns c =
    upwards-over (declares_named c.args.declarers.now) c.args.classes.now (enough_steps c.args.classes.now)
    c.loop.counter c.loop.next.now _ c.loop.invariant
    (omega (arith, c.enough_steps-end.ensures))
