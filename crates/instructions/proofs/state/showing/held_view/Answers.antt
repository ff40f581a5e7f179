use Rattle.std.proofs.Common.{◌∙◌, ap, map, slice_get, sym}
use Rattle.std.specs.Option.{option_map}
use Rattle.model.specs.Naming.{named_value}
use Rattle.cells.specs.Objects.{monitor_if, object_if, thread_if, words_if}
use Rattle.join.specs.ReadBack.{birth_read}
use Rattle.instructions.specs.HeldViews.{kind_in}
use Rattle.instructions.proofs.HeldShown.{held_is}
use Rattle.instructions.proofs.state.showing.held_view.Goals as goal

pub returns : goal.returns
returns c =
    let births = birth_read c.args.heap.now.account.cells in
    held_is c.args.program.now births c.args.birth c.args.heap.now.objects c.args.cell c.in-Some.kind
    (kind_in c.in_ok-of.of) c.in_ok-words.words.items
    (record { owner = c.monitor.inside.owner; count = c.monitor.inside.count }) c.thread.result
    (sym c.in-Some.is ∙ c.kind.ensures
    ∙ ap (λ os. option_map (λ object. object.kind) (object_if (slice_get os c.args.cell))) c.cells-cells.ensures)
    c.in_ok-of.ensures
    (c.in_ok-words.ensures ∙ ap (map (named_value births)) (c.deref.ensures.value ∙ c.in_ok-values.ensures
    ∙ ap (λ os. words_if (object_if (slice_get os c.args.cell))) c.cells-cells.ensures))
    (c.monitor.view_is ∙ c.monitor-monitor.ensures ∙ ap (λ os. monitor_if (object_if (slice_get os c.args.cell)))
    c.cells-cells.ensures)
    (c.thread.ensures ∙ ap (λ os. thread_if (object_if (slice_get os c.args.cell))) c.cells-cells.ensures)
