use Rattle.std.proofs.Common.{◌∙◌, ap, slice_get, sym}
use Rattle.std.specs.Option.{option_map}
use Rattle.model.specs.Views.{contents_in}
use Rattle.cells.specs.Objects.{monitor_if, object_if, thread_if, words_if}
use Rattle.join.specs.ReadBack.{birth_read}
use Rattle.instructions.proofs.ObjectsShown.{held_is, object_is}
use Rattle.instructions.proofs.StoredLemmas.{held-stored}
use Rattle.instructions.proofs.state.objects.object_view.Goals as goal

pub contents_view-requires : goal.contents_view-requires
contents_view-requires c =
    let program = c.args.program.now in
    let objects = c.args.heap.now.objects in
    held_is program (object_if (slice_get objects c.args.cell)) c.in-Some.kind c.deref.result.now
    (held-stored program objects c.args.cell c.requires.stored)
    (sym c.in-Some.is ∙ c.kind.ensures
    ∙ ap (λ os. option_map (λ object. object.kind) (object_if (slice_get os c.args.cell))) c.cells-cells.ensures)
    (c.deref.ensures.value ∙ c.in_ok-words.ensures ∙ ap (λ os. words_if (object_if (slice_get os c.args.cell)))
    c.cells-cells.ensures)

pub returns : goal.returns
returns c =
    object_is c.args.program.now (birth_read c.args.heap.now.account.cells) c.args.heap.now.objects c.args.cell
    c.in-Some.kind c.deref.result.now
    (contents_in c.in_ok-contents.contents) (record { owner = c.monitor.inside.owner; count = c.monitor.inside.count })
    c.thread.result
    (sym c.in-Some.is ∙ c.kind.ensures
    ∙ ap (λ os. option_map (λ object. object.kind) (object_if (slice_get os c.args.cell))) c.cells-cells.ensures)
    (c.deref.ensures.value ∙ c.in_ok-words.ensures ∙ ap (λ os. words_if (object_if (slice_get os c.args.cell)))
    c.cells-cells.ensures)
    c.in_ok-contents.ensures
    (c.monitor.view_is ∙ c.monitor-monitor.ensures ∙ ap (λ os. monitor_if (object_if (slice_get os c.args.cell)))
    c.cells-cells.ensures)
    (c.thread.ensures ∙ ap (λ os. thread_if (object_if (slice_get os c.args.cell))) c.cells-cells.ensures)
