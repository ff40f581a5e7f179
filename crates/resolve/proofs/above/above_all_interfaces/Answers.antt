use Rattle.std.proofs.Common.{◌++◌, ◌∷◌, [], ◌≤◌, ℕ, List, take, length, arith, sym, subst, ◌∙◌}
use Rattle.model.specs.ClassListings.{ClassListing}
use Rattle.resolve.specs.Above.{AreAbove}
use Rattle.resolve.proofs.IndexLemmas.{take-all, take-next}
use Rattle.resolve.proofs.SubclassLemmas.{above-more}
use Rattle.resolve.proofs.above.above_all_interfaces.Goals as goal

pub loop-class-init : goal.loop-class-init
loop-class-init c =
    subst (λ (sets : List (List (List ℕ))). AreAbove c.args.index.now [] sets) (sym c.new-above.ensures.items) tt

pub loop-class-preserved : goal.loop-class-preserved
loop-class-preserved c =
    let cs : List ClassListing = c.program-class-items.result.now in
    let n : ℕ = c.loop-class.class-index in
    subst (λ (passed : List ClassListing). AreAbove c.args.index.now passed c.push.new.self.items)
    (sym (take-next cs n c.class-item.result c.class-item.is (omega arith)))
    (subst (λ (sets : List (List (List ℕ))). AreAbove c.args.index.now (take n cs ++ c.class-item.result ∷ []) sets)
    (sym c.in_ok-push.ensures.items)
    (above-more c.args.index.now (take n cs) c.loop-class.above.items c.class-item.result
    c.in_ok-above_interfaces.field-0
    c.loop-class.invariant c.in_ok-above_interfaces.ensures))

pub returns : goal.returns
returns c =
    let cs : List ClassListing = c.program-class-items.result.now in
    let done : length cs ≤ c.loop-class.class-index = omega arith in
    subst (λ (passed : List ClassListing). AreAbove c.args.index.now passed c.loop-class.above.items)
    (take-all cs c.loop-class.class-index done ∙ c.program-class-items.ensures)
    c.loop-class.invariant
