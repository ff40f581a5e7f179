use Rattle.std.proofs.Common.{◌∙◌, Some, ap, sym}
use Rattle.ideal_run.specs.Successors.{Successor}
use Rattle.exploring.proofs.StartLemmas.{moved_not, moved_to}
use Rattle.exploring.proofs.starts.after_move.Goals as goal

pub returns-in-None : goal.returns-in-None
returns-in-None c =
    λ earlier met under.
    moved_not c.args.transitions.now earlier c.args.world.now met c.args.turn
    (sym c.in-None.is ∙ c.in_ok-successor.ensures)

pub returns-in_ok-canonical-in-Some : goal.returns-in_ok-canonical-in-Some
returns-in_ok-canonical-in-Some c =
    λ earlier met under.
    let a : Successor = record { world = c.made.inside.world; asks = c.made.inside.asks } in
    moved_to c.args.transitions.now earlier c.args.world.now met c.args.turn under a
    (ap (λ (y : Successor). Some y) c.made.view_is ∙ sym c.in-Some.is ∙ c.in_ok-successor.ensures)
    c.in_ok-canonical-in-Some.field-0 c.in_ok-canonical-in-Some.ensures.is
