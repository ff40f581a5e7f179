use Rattle.std.proofs.Common.{◌∙◌, ap, arith, length, sym}
use Rattle.model.specs.Worlds.{is_live}
use Rattle.ideal_run.proofs.StatusLemmas.{any-found, any-later}
use Rattle.ideal_run.proofs.successors.some_lives.Goals as goal

pub returns-then-is_live-clause-lives : goal.returns-then-is_live-clause-lives
returns-then-is_live-clause-lives c =
    let w = c.args.world.now in
    let count = ap length c.threads-place-end.ensures in
    let within = c.loop-place-test.true in
    any-found (is_live w) w.threads c.loop-place.place (omega (arith, within, count))
    (sym c.if-is_live.true ∙ c.is_live.ensures ∙ ap (is_live w) c.in-Ok.ensures.1)
    ∙ sym c.loop-place.invariant

pub loop-place-preserved : goal.loop-place-preserved
loop-place-preserved c =
    let w = c.args.world.now in
    let count = ap length c.threads-place-end.ensures in
    let within = c.loop-place-test.true in
    c.loop-place.invariant
    ∙ any-later (is_live w) w.threads c.loop-place.place (omega (arith, within, count))
    (sym c.if-is_live.false ∙ c.is_live.ensures ∙ ap (is_live w) c.in-Ok.ensures.1)
