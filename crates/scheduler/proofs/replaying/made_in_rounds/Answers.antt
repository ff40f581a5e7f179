use Rattle.std.proofs.Common.{◌≡◌, ◌∙◌, List, ap, subst, sym}
use Rattle.model.specs.ClassListings.{ClassListing}
use Rattle.model.specs.Journals.{JournalValue}
use Rattle.model.specs.Machines.{Recorded, opened}
use Rattle.scheduler.specs.Replaying.{with_all}
use Rattle.scheduler.proofs.Making.{all_is}
use Rattle.scheduler.proofs.RoundRows.{rounds-keep}
use Rattle.scheduler.proofs.replaying.made_in_rounds.Goals as goal

pub returns-then-are_same : goal.returns-then-are_same
returns-then-are_same g c =
    let j = g.J.JournalParts.journal_of c.args.journal.now in
    let v = c.set_workers.new.self in
    let w = c.rounds.new.self in
    let keeps : w ≡ with_all v w.journal.rows = subst (λ (x : Recorded). x ≡ with_all v x.journal.rows)
    (sym c.rounds.ensures.world) (rounds-keep c.rounds_of.result v 0 c.collected_first-gc.result) in
    let rows : w.journal.rows ≡ j.rows =
    sym (c.rows-3.ensures.value ∙ ap (λ (x : JournalValue). x.rows) c.journal.ensures)
    ∙ c.are_same.ensures c.if-are_same.true ∙ c.rows-4.ensures in
    keeps
    ∙ all_is c.args.program.now j c.in-Ok-new.world v c.shape.result c.limits.result c.workers-2.result w.journal.rows
    (c.in-Ok-new.ensures.opened
    ∙ ap (λ (p : List ClassListing). opened p c.shape.result c.limits.result) c.in-Ok.ensures)
    c.set_workers.ensures c.shape.ensures c.limits.ensures c.workers-2.ensures rows
