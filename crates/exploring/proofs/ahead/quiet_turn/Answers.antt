use Rattle.std.proofs.Common.{◌∙◌, Bool, Some, ap, sym}
use Rattle.ideal_run.specs.Successors.{Successor}
use Rattle.exploring.proofs.AheadLemmas.{no_fault}
use Rattle.exploring.proofs.ahead.quiet_turn.Goals as goal

pub returns : goal.returns
returns c = (
  ap (λ (b : Bool). Some (let y : Successor = record { world = c.made.inside.world; asks = b } in y)) (sym c.if-made.false)
      ∙ ap (λ (y : Successor). Some y) c.made.view_is ∙ sym c.in-Some.is ∙ c.in_ok-made.ensures,
  no_fault c.made.inside.world c.fault.result c.is_some.result c.fault.ensures c.is_some.ensures c.if-is_some.false,
)
