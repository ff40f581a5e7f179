use Rattle.std.proofs.Common.{◌∙◌, Decides, inl, subst, sym, true≢false}
use Rattle.model.specs.Machines.{Recorded}
use Rattle.model.specs.Shows.{Shows}
use Rattle.model.specs.Worlds.{World}
use Rattle.scheduler.specs.OnCells.{cells_of, heap_on}
use Rattle.scheduler.proofs.Making.{turn_notes}
use Rattle.comparison.proofs.Compared.{agreed_if}
use Rattle.comparison.proofs.checking.agrees_after.Goals as goal

pub returns-then-not-is_row-clause-agrees : goal.returns-then-not-is_row-clause-agrees
returns-then-not-is_row-clause-agrees g c = inl (λ e.
    true≢false (sym (c.is_row.ensures.1 (c.turn_row-made.ensures.row ∙ e)) ∙ c.if-not-is_row.true))

pub returns-clause-world : goal.returns-clause-world
returns-clause-world g c = λ agrees.
    c.turn_row-made.ensures.world
    ∙ turn_notes c.args.world.now c.args.row
    (sym c.turn_row-made.ensures.row ∙ c.is_row.ensures.0 c.if-not-is_row.false)

pub returns-clause-agrees : goal.returns-clause-agrees
returns-clause-agrees g c =
    let made = sym c.turn_row-made.ensures.row ∙ c.is_row.ensures.0 c.if-not-is_row.false in
    let after = c.turn_row-made.ensures.world ∙ turn_notes c.args.world.now c.args.row made in
    let shown = c.in_ok-shown.shown in
    agreed_if g.R.Reference.shown g.R.Reference.beside c.args.world.now c.args.row _ shown made c.in_ok-follow.ensures
    (subst (λ (v : Recorded). Decides shown (Shows (heap_on (cells_of v)) (g.R.Reference.shown c.follow.new.self)))
    after
    (subst (λ (w : World). Decides shown (Shows (heap_on (cells_of c.turn_row-made.new.world)) w)) c.world.ensures
    c.in_ok-shown.ensures))
