use Rattle.std.proofs.Common.{◌≡◌, ◌<◌, ◌≤◌, ℕ, List, length, arith, get_or, ap, subst, ◌∙◌}
use Rattle.model.specs.ClassListings.{ClassListing}
use Rattle.resolve.specs.Interfaces.{AreFirst}
use Rattle.resolve.proofs.IndexLemmas.{take-all}
use Rattle.resolve.proofs.InterfaceLemmas.{first-next}
use Rattle.resolve.proofs.cycles.are_first.Goals as goal

pub loop-number-preserved : goal.loop-number-preserved
loop-number-preserved c =
    let e : c.program-class-items.result.now ≡ c.args.index.now = c.program-class-items.ensures in
    let n : ℕ = c.loop-number.number in
    first-next c.args.index.now n c.class-item.result c.loop-number.invariant
    (c.class-item.is ∙ ap (λ (cs : List ClassListing). get_or cs n c.class-item.result) e)
    (subst (λ (cs : List ClassListing). n < length cs) e c.loop-number-test.true)
    (c.is_first.ensures c.if-not-is_first.false)

pub returns : goal.returns
returns c = λ _.
    let e : c.program-class-items.result.now ≡ c.args.index.now = c.program-class-items.ensures in
    let done : length c.program-class-items.result.now ≤ c.loop-number.number = omega arith in
    subst (AreFirst c.args.index.now)
    (take-all c.args.index.now c.loop-number.number
    (subst (λ (cs : List ClassListing). length cs ≤ c.loop-number.number) e done))
    c.loop-number.invariant
