use Rattle.std.proofs.Common.{arith, subst, sym}
use Rattle.resolve.specs.Numbers.{all_classes}
use Rattle.linking.specs.Selections.{IsClassTable}
use Rattle.linking.proofs.SelectionTableLemmas.{table-at}
use Rattle.linking.proofs.selection.Selection.table.Goals as goal

pub returns : goal.returns
returns c =
    λ program is k at.
    subst (IsClassTable program k.name) (sym c.as_slice.ensures.value)
    (table-at program c.args.self.now.tables.items (all_classes program) c.args.class c.index.result.now k is at
    c.index.ensures (omega arith)).rows_are
