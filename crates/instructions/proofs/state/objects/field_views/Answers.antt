use Rattle.std.proofs.Common.{◌∙◌, pos}
use Rattle.model.specs.declared.values.Value.TheVariants.{Int}
use Rattle.model.specs.Naming.{named_field}
use Rattle.join.specs.ReadBack.{birth_read}
use Rattle.instructions.proofs.FieldsShown.{next_shown}
use Rattle.instructions.proofs.state.objects.field_views.Goals as goal

pub loop-place-preserved : goal.loop-place-preserved
loop-place-preserved c =
    next_shown (named_field (birth_read c.args.heap.now.account.cells)) c.args.fields.now c.args.words.now
    c.loop-place.place
    c.index-fields-place.result (Int (pos 0)) c.loop-place.views.items c.push.new.self.items c.in_ok-field_view.field-0
    c.loop-place-test.true c.requires c.index-fields-place.is c.in_ok-field_view.ensures c.in_ok-push.ensures.items
    ∙ c.loop-place.invariant
