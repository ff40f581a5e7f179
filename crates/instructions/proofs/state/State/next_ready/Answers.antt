use Rattle.std.proofs.Common.{◌∙◌, sym}
use Rattle.instructions.proofs.CyclicLemmas.{least-either}
use Rattle.instructions.proofs.Waiting.{first_ready, second_ready}
use Rattle.instructions.proofs.state.State.next_ready.Goals as goal

pub returns-in-Some : goal.returns-in-Some
returns-in-Some c =
    let a = c.self.inside in
    let least = least-either c.args.start c.count-count.result c.min-start.result c.min-start.ensures in
    rw (← c.self.view_is)
    (first_ready a c.args.start c.min-start.result c.count-count.result c.count-count.ensures least.0 least.1
    c.in-Some.thread
    (rw (← c.self.view_is) at (sym c.in-Some.is ∙ c.ready_among.ensures)))

pub returns-in-None : goal.returns-in-None
returns-in-None c =
    let a = c.self.inside in
    let least = least-either c.args.start c.count-count.result c.min-start.result c.min-start.ensures in
    c.ready_among-in-None.ensures
    ∙ rw (← c.self.view_is)
    (second_ready a c.args.start c.min-start.result c.count-count.result c.count-count.ensures least.0 least.1
    (rw (← c.self.view_is) at (sym c.in-None.is ∙ c.ready_among.ensures)))
