use Rattle.std.proofs.Common.{◌∙◌, ◌+◌, ap, arith, List, ℕ, subst, sym, take}
use Rattle.model.specs.ClassListings.{ClassListing}
use Rattle.resolve.specs.Numbers.{all_classes}
use Rattle.linking.specs.declared.selection.ClassTable.{ClassTable}
use Rattle.linking.specs.SelectionTables.{AreTables, IsTableOf}
use Rattle.linking.proofs.SelectionTableLemmas.{tables-all, tables-next}
use Rattle.linking.proofs.selection.tables_of.Goals as goal

pub loop-number-preserved : goal.loop-number-preserved
loop-number-preserved c =
    let program = c.args.classes.now in
    let table = c.in_ok-table_of.field-0 in
    subst (λ (ts : List ClassTable). AreTables program ts (take (c.loop-number.number + 1) (all_classes program)))
    (sym c.in_ok-push.ensures.items)
    (tables-next program c.loop-number.tables.items (all_classes program) c.loop-number.number table
    c.class-class.result.now c.class-class.ensures
    c.loop-number.invariant
    (subst (λ (name : List ℕ). IsTableOf program name table) (c.as_bytes.ensures
    ∙ ap (λ (x : ClassListing). x.name) c.class.view_is)
    (c.in_ok-table_of.ensures c.requires)))

pub returns : goal.returns
returns c = tables-all c.args.classes.now c.loop-number.tables.items (all_classes c.args.classes.now)
    c.loop-number.number (omega arith) c.loop-number.invariant
