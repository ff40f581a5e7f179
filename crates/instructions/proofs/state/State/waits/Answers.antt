use Rattle.std.proofs.Common.{ap, sym, ◌∙◌}
use Rattle.model.specs.Frames.{running}
use Rattle.instructions.specs.Operated.{waits_at}
use Rattle.instructions.proofs.Waiting.{waits_now}
use Rattle.instructions.proofs.state.State.waits.Goals as goal

pub returns : goal.returns
returns c =
    let a = c.self.inside in
    let t = c.args.thread in
    c.waits.ensures
    ∙ ap (λ courses. waits_at a.program courses a.machine t (running c.frames-frames.result.now))
    c.courses-courses.ensures.courses
    ∙ ap (λ fs. waits_at a.program a.threads.courses a.machine t (running fs)) (sym c.frames-frames.ensures)
    ∙ rw (← c.self.view_is) (waits_now a c.self.invariant t)
