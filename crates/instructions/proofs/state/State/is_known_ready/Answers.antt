-- A thread that lives and waits for nobody is ready.
use Rattle.std.proofs.Common.{◌≡◌, ◌∙◌, None, ap, false, sym, true}
use Rattle.model.specs.Completions.{waits}
use Rattle.model.specs.Frames.{running}
use Rattle.model.specs.Table.Next.{completion}
use Rattle.model.specs.Worlds.{frames_at, is_live}
use Rattle.instructions.specs.Operated.{waits_at}
use Rattle.instructions.proofs.FirstTurnLemmas.{none-of}
use Rattle.instructions.proofs.IdleLemmas.{ready-by}
use Rattle.instructions.proofs.Waiting.{now, waits_now}
use Rattle.instructions.proofs.state.State.is_known_ready.Goals as goal

pub returns : goal.returns
returns c = λ free.
    let a = c.self.inside in
    let t = c.args.thread in
    let faultless : a.fault ≡ None = none-of a.fault (sym c.is_some.ensures ∙ c.if-is_some.false) in
    let live : is_live (now a) t ≡ true = rw (← c.self.view_is) at (sym c.is_live.ensures ∙ c.if-not-is_live.false) in
    let same : frames_at (now a) t ≡ c.frames.result.now = rw (← c.self.view_is) at c.frames.ensures in
    let never : waits (completion a.program (now a) t) ≡ false =
    sym (waits_now a c.self.invariant t)
    ∙ ap (λ fs. waits_at a.program a.threads.courses a.machine t (running fs)) same
    ∙ c.never_waits.ensures free a.threads.courses a.machine t in
    rw (← c.self.view_is) (ready-by a.program (now a) t true false faultless live (λ _. never))
