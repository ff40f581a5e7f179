use Rattle.std.proofs.Common.{◌∷◌, ℕ, List, ap, ◌∙◌, arith}
use Rattle.model.specs.ClassListings.{ClassListing}
use Rattle.model.specs.Classes.Search.{field_order, first_declared, superinterfaces}
use Rattle.model.specs.Classes.Subclasses.{enough_steps}
use Rattle.resolve.proofs.SearchLemmas.{walk-found, walk-next, walk-ends, walk-over}
use Rattle.resolve.proofs.classes.Classes.in_either.Goals as goal

pub returns-in_err-class : goal.returns-in_err-class
returns-in_err-class g c =
    c.from_residual.ensures
    ∙ walk-ends c.args.self.now (g.S.Sought.of c.args.sought.now) (λ (name : List ℕ). name
    ∷ superinterfaces c.args.self.now name) (enough_steps c.args.self.now) c.loop.counter c.loop.next.now
    (first_declared c.args.self.now (g.S.Sought.of c.args.sought.now) (field_order c.args.self.now c.args.name.now))
    c.loop.invariant c.in_err-class.ensures.class

pub returns-in-Some : goal.returns-in-Some
returns-in-Some g c =
    walk-found c.args.self.now (g.S.Sought.of c.args.sought.now) (λ (name : List ℕ). name
    ∷ superinterfaces c.args.self.now name) (enough_steps c.args.self.now) c.loop.counter c.loop.next.now
    c.in_ok-class.class.now c.in-Some.found
    (first_declared c.args.self.now (g.S.Sought.of c.args.sought.now) (field_order c.args.self.now c.args.name.now))
    c.loop.invariant c.in_ok-class.ensures.class (omega (arith, c.enough_steps-end.ensures)) c.in-Some.ensures

pub loop-preserved : goal.loop-preserved
loop-preserved g c =
    walk-next c.args.self.now (g.S.Sought.of c.args.sought.now) (λ (name : List ℕ). name
    ∷ superinterfaces c.args.self.now name) (enough_steps c.args.self.now) c.loop.counter c.loop.next.now
    c.as_bytes-next.result.now c.in_ok-class.class.now
    (first_declared c.args.self.now (g.S.Sought.of c.args.sought.now) (field_order c.args.self.now c.args.name.now))
    c.loop.invariant c.in_ok-class.ensures.class (omega (arith, c.enough_steps-end.ensures)) c.in_default.ensures
    (c.as_bytes-next.ensures ∙ ap (λ (x : ClassListing). x.superclass) c.class.view_is)

pub returns : goal.returns
returns g c =
    walk-over c.args.self.now (g.S.Sought.of c.args.sought.now) (λ (name : List ℕ). name
    ∷ superinterfaces c.args.self.now name) (enough_steps c.args.self.now) c.loop.counter c.loop.next.now
    (first_declared c.args.self.now (g.S.Sought.of c.args.sought.now) (field_order c.args.self.now c.args.name.now))
    c.loop.invariant (omega (arith, c.enough_steps-end.ensures))
