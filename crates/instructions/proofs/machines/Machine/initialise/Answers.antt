use Rattle.std.proofs.Common.{◌∙◌, ap, sym, refl, arith}
use Rattle.instructions.specs.declared.kinds.Course.TheVariants.{Live}
use Rattle.instructions.specs.Acting.{shown, turned}
use Rattle.instructions.specs.InitialisingByNumbers.{chain_at}
use Rattle.instructions.proofs.InitialisingLemmas.{claims-all, others-wait, waits_reported}
use Rattle.instructions.proofs.machines.Machine.initialise.Goals as goal

pub returns-then-is_others-clause-step : goal.returns-then-is_others-clause-step
returns-then-is_others-clause-step c = λ own scene here.
    let m = c.args.self.now in
    let program = c.args.program.now in
    let chain = ap (λ states. chain_at program states c.args.class) (sym c.as_slice.ensures.value)
    ∙ c.unused_classes-unused.ensures.chain in
    let x = shown program scene m Live in
    rw c.to.ensures
    (waits_reported program scene m
    ∙ ap (turned program x m.thread)
    (sym (others-wait program m c.args.next c.args.class c.unused_classes-unused.result.count
    c.unused_classes-unused.result.above chain x.world refl (own x.world)
    (sym c.is_others.ensures ∙ c.if-is_others.true))))

pub returns-else-unused-eq0-clause-step : goal.returns-else-unused-eq0-clause-step
returns-else-unused-eq0-clause-step c = λ own scene here.
    let m = c.args.self.now in
    let program = c.args.program.now in
    let chain = ap (λ states. chain_at program states c.args.class) (sym c.as_slice.ensures.value)
    ∙ c.unused_classes-unused.ensures.chain in
    let x = shown program scene m Live in
    let some = c.if-unused-eq0.false in
    c.claim.ensures.step scene here
    ∙ ap (turned program x m.thread)
    (sym (claims-all program m c.args.next c.args.class c.unused_classes-unused.result.count
    c.unused_classes-unused.result.above chain x.world refl (sym c.is_others.ensures ∙ c.if-is_others.false)
    c.in_default.not-Failed
    c.unused_classes-unused.ensures.claimed (own x.world) (omega (arith, some))))
