use Rattle.std.proofs.Common.{◌∙◌, ap, arith, length, sym}
use Rattle.model.specs.Ready.{is_ready}
use Rattle.ideal_run.proofs.StatusLemmas.{any-found, any-later}
use Rattle.ideal_run.proofs.successors.Transitions.some_is_ready.Goals as goal

pub returns-then-branch : goal.returns-then-branch
returns-then-branch c =
    let w = c.args.world.now in
    let ready = is_ready c.args.self.now.program w in
    let count = ap length c.threads-place-end.ensures in
    let within = c.loop-place-test.true in
    any-found ready w.threads c.loop-place.place (omega (arith, within, count))
    (sym c.if-branch.true ∙ c.in_ok-is_ready.ensures ∙ ap ready c.in-Ok.ensures.1)
    ∙ sym c.loop-place.invariant

pub loop-place-preserved : goal.loop-place-preserved
loop-place-preserved c =
    let w = c.args.world.now in
    let ready = is_ready c.args.self.now.program w in
    let count = ap length c.threads-place-end.ensures in
    let within = c.loop-place-test.true in
    c.loop-place.invariant
    ∙ any-later ready w.threads c.loop-place.place (omega (arith, within, count))
    (sym c.if-branch.false ∙ c.in_ok-is_ready.ensures ∙ ap ready c.in-Ok.ensures.1)
