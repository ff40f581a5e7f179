use Rattle.std.proofs.Common.{arith}
use Rattle.resolve.specs.Numbers.{all_classes}
use Rattle.linking.specs.SelectionTables.{IsTableOf}
use Rattle.linking.proofs.SelectionTableLemmas.{got, got-none, row-found, row-missing, table-at}
use Rattle.linking.proofs.selection.Selection.row.Goals as goal

pub returns-in-Some : goal.returns-in-Some
returns-in-Some c =
    λ program is k n d at selector.
    let table : IsTableOf program k.name c.index.result.now =
    table-at program c.args.self.now.tables.items (all_classes program) c.args.class c.index.result.now k is at
    c.index.ensures (omega arith) in
    row-found program k.name n d c.index.result.now.by_selector.items c.args.selector table.by_selector_are selector
    c.in-Some.row.now
    (got c.deref.result.now c.index.result.now.by_selector.items c.args.selector c.in-Some.row.now c.deref.ensures.value
    c.in-Some.ensures.lookup.0 c.in-Some.ensures.lookup.1)

pub returns-in-None : goal.returns-in-None
returns-in-None c =
    λ program is k n d at selector.
    let table : IsTableOf program k.name c.index.result.now =
    table-at program c.args.self.now.tables.items (all_classes program) c.args.class c.index.result.now k is at
    c.index.ensures (omega arith) in
    absurd (row-missing program k.name n d c.index.result.now.by_selector.items c.args.selector table.by_selector_are
    selector
    (got-none c.deref.result.now c.index.result.now.by_selector.items c.args.selector c.deref.ensures.value
    c.in-None.ensures.lookup.0))
