use Rattle.std.proofs.Common.{◌∙◌}
use Rattle.model.specs.Naming.{named_field}
use Rattle.join.specs.ReadBack.{birth_read}
use Rattle.instructions.proofs.StaticsShown.{next_static}
use Rattle.instructions.proofs.state.showing.fields_holding.Goals as goal

pub loop-slot-preserved : goal.loop-slot-preserved
loop-slot-preserved c =
    next_static (named_field (birth_read c.args.heap.now.account.cells)) c.args.keys.now c.args.slots.now
    c.loop-slot.slot
    c.index-keys-slot.result c.slot_value.result c.loop-slot.views.items c.push.new.self.items
    c.in_ok-field_holding.field-0
    c.requires c.index-keys-slot.is c.slot_value.ensures c.in_ok-field_holding.ensures c.in_ok-push.ensures.items
    ∙ c.loop-slot.invariant
