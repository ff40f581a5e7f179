use Rattle.std.proofs.Common.{◌≡◌, ◌∙◌, ap, refl, subst}
use Rattle.model.specs.Frames.{running_frame}
use Rattle.instructions.specs.MethodsByNumber.{facts_in}
use Rattle.instructions.specs.Operated.{standing}
use Rattle.instructions.specs.PlainRuns.{Leaps, with_frames}
use Rattle.instructions.proofs.PlainRunLemmas.{turn-made}
use Rattle.instructions.proofs.machines.Machine.turn_beside.Goals as goal

pub leap-requires-clause-knows : goal.leap-requires-clause-knows
leap-requires-clause-knows c =
    c.code-code.ensures.info ∙ ap (facts_in c.args.program.now) c.method.ensures

pub returns-in-Some-clause-turn : goal.returns-in-Some-clause-turn
returns-in-Some-clause-turn c = λ _.
    let program = c.args.program.now in
    let old = with_frames c.args.self.now c.args.frames.now in
    let new = with_frames c.leap.new.self c.leap.new.frames in
    let step = c.step-step.result.now in
    let stands : step ≡ standing program (running_frame old.frames) =
    c.step-step.ensures ∙ c.code-code.ensures.steps c.pc.result ∙ rw (c.method.ensures, c.pc.ensures) refl in
    let run = c.if-not-is_unmarked.false in
    let leaps = c.in-Some.ensures.acts refl in
    turn-made program old new step stands (c.is_unmarked.ensures.some run) (c.is_unmarked.ensures.unmarked run)
    leaps.acts leaps.keeps

pub returns-in-None-clause-turn : goal.returns-in-None-clause-turn
returns-in-None-clause-turn c = λ made.
    let program = c.args.program.now in
    let old = with_frames c.args.self.now c.args.frames.now in
    let tried = with_frames c.leap.new.self c.leap.new.frames in
    let new = with_frames c.step_apart.new.self c.step_apart.new.frames in
    let step = c.step-step.result.now in
    let stands : step ≡ standing program (running_frame old.frames) =
    c.step-step.ensures ∙ c.code-code.ensures.steps c.pc.result ∙ rw (c.method.ensures, c.pc.ensures) refl in
    let run = c.if-not-is_unmarked.false in
    let same : tried ≡ old = ap (λ m. with_frames m c.leap.new.frames) c.in-None.ensures.machine
    ∙ ap (with_frames c.args.self.now) c.in-None.ensures.frames in
    let leaps = subst (λ m. Leaps program m new step) same (c.step_apart.ensures.acts made) in
    turn-made program old new step stands (c.is_unmarked.ensures.some run) (c.is_unmarked.ensures.unmarked run)
    leaps.acts leaps.keeps
