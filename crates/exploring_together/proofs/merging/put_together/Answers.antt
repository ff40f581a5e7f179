use Rattle.std.proofs.Common.{rules, arith, ◌≡◌, ◌∙◌, ◌∷◌, Option, Some, ap, subst}
use Rattle.std.specs.Vec.Iter.{into_iter_items}
use Rattle.exploring.specs.Explorations.{Report}
use Rattle.exploring_together.proofs.TogetherLemmas.{IsGathered, gathering_begins, gathering_ends, gathering_goes_on}
use Rattle.exploring_together.proofs.merging.put_together.Goals as goal

pub loop-each-init : goal.loop-each-init
loop-each-init c =
    λ program limits first no_room parts are of.
    let all : into_iter_items c.into_iter-each-iterator.result ≡ c.args.made.items = search rules in
    rw all (gathering_begins program limits first no_room parts are c.args.made.items of c.nothing-all.result
    (ap (λ (r : Report). r.found) c.nothing-all.ensures))

pub loop-each-preserved : goal.loop-each-preserved
loop-each-preserved c =
    λ program limits first no_room parts are of.
    let rest = into_iter_items c.next.new.self in
    let more = c.in_ok-each.field-0 in
    let step : into_iter_items c.loop-each.each-iterator ≡ c.in-Some.each ∷ rest = c.in-Some.ensures.steps.0 in
    let some : c.in-Some.each ≡ Some more = c.in_ok-each.was in
    let left : into_iter_items c.loop-each.each-iterator ≡ Some more ∷ rest =
    step ∙ ap (λ (r : Option Report). r ∷ rest) some in
    gathering_goes_on program limits first no_room parts c.loop-each.all more c.merged-all.result rest
    (subst (IsGathered program limits first no_room parts c.loop-each.all) left
    (c.loop-each.invariant program limits first no_room parts are of)) c.merged-all.ensures.sound c.merged-all.ensures.cut

pub returns : goal.returns
returns c =
    λ program limits first no_room parts are of.
    let left = c.loop-each.each-iterator.rest in
    gathering_ends program limits first no_room parts are c.loop-each.all left.items
    (omega (arith, left.ok.0, c.in-None.ensures.steps.0)) (c.loop-each.invariant program limits first no_room parts are of)
