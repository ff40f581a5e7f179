use Rattle.std.proofs.Common.{◌∙◌}
use Rattle.instructions.proofs.ObjectsShown.{enough_fields}
use Rattle.instructions.proofs.state.objects.contents_view.Goals as goal

pub fields_of-requires : goal.fields_of-requires
fields_of-requires c =
    enough_fields c.args.program.now c.args.kind c.in-Instance.class c.args.words.now c.as_bytes.result.now
    c.requires c.in-Instance.is (c.as_bytes.ensures ∙ c.in_ok-class-in-Instance.ensures)
