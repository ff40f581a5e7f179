use Rattle.std.proofs.Common.{◌∙◌, ap, subst, sym}
use Rattle.linking.specs.Selections.{gathered, IsClassTable}
use Rattle.linking.specs.Selectors.{selectors}
use Rattle.linking.proofs.SelectedRowLemmas.{class-table}
use Rattle.linking.proofs.SelectionTableLemmas.{by-selector}
use Rattle.linking.proofs.selection.table_of.Goals as goal

pub returns : goal.returns
returns c =
    λ same.
    let program = c.args.classes.now in
    let class = c.args.class.now in
    let tells = c.in_ok-gathered.ensures in
    record {
      rows_are = subst (IsClassTable program class) (sym c.in_ok-rows.ensures.rows)
          (class-table program class c.in_ok-gathered.gathered.rows.entries c.in_ok-rows.ensures.ordered tells);
      by_selector_are = by-selector program class (gathered c.in_ok-gathered.gathered) c.as_slice.result.now
          c.in_ok-by_selector.by_selector.items (selectors program) tells
          c.in_ok-by_selector.ensures (c.as_slice.ensures ∙ ap selectors same);
    }
