use Rattle.std.proofs.Common.{◌∙◌, ap, arith, List, sym}
use Rattle.model.specs.declared.listings.Method.{Method}
use Rattle.model.specs.ClassListings.{ClassListing}
use Rattle.model.specs.Classes.Named.{or_else}
use Rattle.model.specs.Classes.Subclasses.{enough_steps}
use Rattle.linking.specs.Selections.{first_row, gathered}
use Rattle.linking.proofs.SelectionLemmas.{gathers-missing, gathers-next, gathers-over}
use Rattle.linking.proofs.selection_rows.ClassRows.of_class.Goals as goal

pub returns-in_default : goal.returns-in_default
returns-in_default c =
    gathers-missing c.args.classes.now c.args.class.now (enough_steps c.args.classes.now) c.loop.counter c.loop.next.now
    (gathered c.loop.rows)
    c.loop.invariant c.in_default.ensures.class

pub loop-preserved : goal.loop-preserved
loop-preserved c =
    gathers-next c.args.classes.now c.args.class.now (enough_steps c.args.classes.now) c.loop.counter c.in-Some.number
    c.loop.next.now c.as_bytes-next.result.now
    c.class-declaring.result.now (gathered c.loop.rows) (gathered c.add_methods.new.self) c.loop.invariant (omega arith)
    c.class-declaring.ensures
    (sym c.in-Some.ensures.class ∙ c.class-declaring.ensures)
    (c.as_bytes-next.ensures ∙ ap (λ (x : ClassListing). x.superclass) c.declaring.view_is)
    (λ n d. c.in_ok-add_methods.ensures n d
    ∙ ap (λ (ms : List Method). or_else (gathered c.loop.rows n d) (first_row c.in-Some.number 0 n d ms))
    (c.deref.ensures.value ∙ ap (λ (x : ClassListing). x.methods) c.declaring.view_is))

pub returns : goal.returns
returns c =
    gathers-over c.args.classes.now c.args.class.now (enough_steps c.args.classes.now) c.loop.counter c.loop.next.now
    (gathered c.loop.rows)
    c.loop.invariant (omega arith)
