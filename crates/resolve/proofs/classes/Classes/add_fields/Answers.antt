use Rattle.std.proofs.Common.{◌++◌, ◌∙◌, ap, arith, reverse}
use Rattle.model.specs.ClassListings.{ClassListing}
use Rattle.model.specs.Classes.Subclasses.{enough_steps}
use Rattle.resolve.specs.Layouts.{fields_in}
use Rattle.resolve.proofs.LayoutLemmas.{gather-ends, gather-next, gather-over}
use Rattle.resolve.proofs.classes.Classes.add_fields.Goals as goal

pub returns-in-None : goal.returns-in-None
returns-in-None c =
    gather-ends c.args.self.now (enough_steps c.args.self.now) c.loop.counter c.loop.next.now c.loop.fields.items _
    c.loop.invariant c.in-None.ensures.class

pub loop-preserved : goal.loop-preserved
loop-preserved c =
    gather-next c.args.self.now (enough_steps c.args.self.now) c.loop.counter c.loop.next.now c.loop.fields.items _
    c.loop.invariant
    c.as_bytes-next.result.now c.in-Some.class.now c.add_declared.new.fields.items c.in-Some.ensures.class
    c.in-Some.ensures.named (omega (arith, c.enough_steps-end.ensures))
    (c.in_ok-add_declared-in-Some.ensures
    ∙ ap (λ fs. c.loop.fields.items ++ reverse (fields_in c.in-Some.class.now.name fs)) (c.deref.ensures.value
    ∙ ap (λ (x : ClassListing). x.fields) c.class.view_is))
    (c.as_bytes-next.ensures ∙ ap (λ (x : ClassListing). x.superclass) c.class.view_is)

pub returns : goal.returns
returns c =
    gather-over c.args.self.now (enough_steps c.args.self.now) c.loop.counter c.loop.next.now c.loop.fields.items _
    c.loop.invariant (omega (arith, c.enough_steps-end.ensures))
