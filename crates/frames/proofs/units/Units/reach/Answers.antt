use Rattle.std.proofs.Common.{◌-◌, ◌++◌, ℕ, replicate, ap, ◌∙◌}
use Rattle.values.specs.declared.slots.Slot.TheVariants.{Unset}
use Rattle.frames.proofs.SlotLemmas.{reached}
use Rattle.frames.proofs.units.Units.reach.Goals as goal

pub returns-then-len-count : goal.returns-then-len-count
returns-then-len-count c =
    let slots = c.self.inside.slots in
    rw (← c.self.view_is)
    (reached slots.items c.grow.new.slots.items c.args.count
    (c.grow.ensures.items ∙ ap (λ (n : ℕ). slots.items ++ replicate (c.args.count - n) Unset) slots.ok.0))
