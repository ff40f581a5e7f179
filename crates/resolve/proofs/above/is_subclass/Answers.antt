use Rattle.std.proofs.Common.{List, arith, sym, ◌∙◌}
use Rattle.model.specs.ClassListings.{ClassListing}
use Rattle.model.specs.Classes.Subclasses.{enough_steps}
use Rattle.resolve.proofs.SubclassLemmas.{walk-first, walk-here, walk-through, walk-next, walk-ends, walk-over}
use Rattle.resolve.proofs.above.is_subclass.Goals as goal
use Rattle.resolve.proofs.above.is_subclass.Goals.{then-eq-via-then-eq, then-eq-via-else-eq+then-is_above_interface}

pub loop-init : goal.loop-init
loop-init c = walk-first c.args.index.now c.args.name.now c.args.above.now

pub returns-then-eq : goal.returns-then-eq
returns-then-eq c =
    let p : List ClassListing = c.args.index.now in
    elim c.then-eq.branch [
      | then-eq-via-then-eq w ↦
          walk-here p c.args.name.now c.args.above.now (enough_steps p) c.loop.counter c.loop.next.now c.loop.invariant
          (sym c.eq.ensures ∙ w.if-eq.true)
      | then-eq-via-else-eq+then-is_above_interface w ↦
          walk-through p c.args.name.now c.args.above.now (enough_steps p) c.loop.counter c.loop.next.now
          c.loop.invariant
          (sym w.is_above_interface.ensures ∙ w.if-is_above_interface.true)
    ]

pub returns-in-None : goal.returns-in-None
returns-in-None c =
    let p : List ClassListing = c.args.index.now in
    walk-ends p c.args.name.now c.args.above.now (enough_steps p) c.loop.counter c.loop.next.now c.loop.invariant
    (omega arith)
    c.in-None.ensures (sym c.eq.ensures ∙ c.if-eq.false)

pub loop-preserved : goal.loop-preserved
loop-preserved c =
    let p : List ClassListing = c.args.index.now in
    walk-next p c.args.name.now c.args.above.now (enough_steps p) c.loop.counter c.loop.next.now c.loop.invariant
    c.in-Some.superclass.now (omega arith)
    c.in-Some.ensures (sym c.eq.ensures ∙ c.if-eq.false) (sym c.is_above_interface.ensures
    ∙ c.if-is_above_interface.false)

pub returns : goal.returns
returns c =
    let p : List ClassListing = c.args.index.now in
    c.eq-2.ensures
    ∙ walk-over p c.args.name.now c.args.above.now (enough_steps p) c.loop.counter c.loop.next.now c.loop.invariant
    (omega arith)
