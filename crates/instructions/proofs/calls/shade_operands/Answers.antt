use Rattle.std.proofs.Common.{◌≡◌, ◌∙◌, suc, ◌+◌, ap, arith, rules, sym}
use Rattle.model.specs.Collector.Places.{ref_of}
use Rattle.model.specs.Frames.{running_frame}
use Rattle.model.specs.Locals.{arguments_on}
use Rattle.model.specs.Values.{births_of}
use Rattle.instructions.specs.Heaps.{all_shaded, shaded}
use Rattle.instructions.proofs.CallLemmas.{length-arguments, shade-next, value_there}
use Rattle.std.proofs.lemmas.List.{drop_all}
use Rattle.instructions.proofs.calls.shade_operands.Goals as goal

pub unreachable-requires : goal.unreachable-requires
unreachable-requires c =
    value_there (running_frame c.args.frames.now).stack _ c.in-Err.field-0 (omega arith) (sym c.value.ensures.value
    ∙ c.in-Err.is)

pub loop-below-preserved : goal.loop-below-preserved
loop-below-preserved c =
    let stack = (running_frame c.args.frames.now).stack in
    let k = c.loop-below.below in
    let heap : c.shade.new.self ≡ shaded c.loop-below.heap (ref_of c.in-Ok.value) = search rules in
    let more : k + 1 ≡ suc k = omega arith in
    rw (heap, more)
    (shade-next c.loop-below.heap stack c.args.count k c.in-Ok.value c.requires.there c.loop-below-test.true
    (sym c.in-Ok.ensures.value)
    ∙ c.loop-below.invariant)

pub returns : goal.returns
returns c =
    let stack = (running_frame c.args.frames.now).stack in
    let long = length-arguments c.args.count stack c.requires.there in
    ap (λ vs. all_shaded c.loop-below.heap (births_of vs))
    (sym (drop_all c.loop-below.below (arguments_on c.args.count stack) (omega (arith, long))))
    ∙ c.loop-below.invariant
