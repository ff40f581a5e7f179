use Rattle.std.proofs.Common.{replicate}
use Rattle.values.specs.declared.slots.Slot.TheVariants.{Unset}
use Rattle.frames.proofs.SlotLemmas.{between, unset-slots}
use Rattle.frames.proofs.units.Units.unset.Goals as goal

pub returns : goal.returns
returns c =
    let items = between c.self.inside.slots.items (replicate c.args.count Unset) _ c.args.base c.args.count
    c.unset.ensures.items in
    rw (← c.self.view_is, ← unset-slots c.args.count) items
