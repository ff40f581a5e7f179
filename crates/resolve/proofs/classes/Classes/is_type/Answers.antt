use Rattle.std.proofs.Common.{◌+◌, ℕ, List, Bor, Some, length, ap, subst, sym, ◌∙◌, arith}
use Rattle.model.specs.Classes.Named.{class_named}
use Rattle.model.specs.Classes.Types.{is_type}
use Rattle.resolve.specs.Elements.{shown}
use Rattle.resolve.proofs.TypeLemmas.{LeftThere, some-copied, there-class, there-number, there-next, there-over}
use Rattle.resolve.proofs.classes.Classes.is_type.Goals as goal

pub returns-in-None : goal.returns-in-None
returns-in-None c =
    c.is_some.ensures
    ∙ some-copied c.class_named.result (class_named c.args.self.now c.loop.next.now) c.class_named.ensures.class
    ∙ there-class c.args.self.now (length c.args.name.now + 1) c.loop.counter c.loop.next.now
    (is_type c.args.self.now c.args.name.now) c.loop.invariant
    (omega arith) c.in-None.ensures

pub returns-in-Some-Number : goal.returns-in-Some-Number
returns-in-Some-Number c =
    there-number c.args.self.now (length c.args.name.now + 1) c.loop.counter c.loop.next.now
    (is_type c.args.self.now c.args.name.now)
    c.in-Some-Number.field-0-0 c.loop.invariant (omega arith)
    (ap (λ e. shown (Some e)) (sym c.in-Some-Number.field-0-is) ∙ c.in-Some-Number.ensures)

pub loop-preserved : goal.loop-preserved
loop-preserved c =
    subst (λ (x : Bor (List ℕ)). LeftThere c.args.self.now (length c.args.name.now + 1) (c.loop.counter + 1) x.now
    (is_type c.args.self.now c.args.name.now))
    (sym c.in-Some-Reference.element-is)
    (there-next c.args.self.now (length c.args.name.now + 1) c.loop.counter c.loop.next.now
    c.in-Some-Reference.element.now
    (is_type c.args.self.now c.args.name.now) c.loop.invariant (omega arith)
    (ap (λ e. shown (Some e)) (sym c.in-Some-Reference.field-0-is) ∙ c.in-Some-Reference.ensures))

pub returns : goal.returns
returns c =
    there-over c.args.self.now (length c.args.name.now + 1) c.loop.counter c.loop.next.now
    (is_type c.args.self.now c.args.name.now)
    c.loop.invariant (omega arith)
