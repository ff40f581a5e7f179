use Rattle.std.proofs.Common.{[], ◌∷◌}
use Rattle.model.specs.ClassFiles.Items.Item.{interface_item}
use Rattle.assembler.specs.Numbering.{reference_items}
use Rattle.assembler.proofs.NumberingBuilding.{interface_entry}
use Rattle.assembler.proofs.StayingLaws.{item_found, item_only, first_refused}
use Rattle.assembler.proofs.pool_numbers.Numbers.interface_method.Goals as goal

pub entry-requires : goal.entry-requires
entry-requires c = (interface_entry c.args.self.now c.reference.new.self c.args.member.now c.in_ok-class.class
    c.in_ok-class.names c.reference.ensures.pool c.in_ok-class.ensures.found).0

pub returns-in_err-class-clause-only : goal.returns-in_err-class-clause-only
returns-in_err-class-clause-only c = first_refused c.from_residual.result c.in_err-class.field-0.0 c.args.self.now
    (reference_items c.args.member.now) (interface_item c.args.member.now ∷ []) c.from_residual.ensures.1
    c.in_err-class.ensures.only

pub returns-clause-found : goal.returns-clause-found
returns-clause-found c =
    let m = c.args.member.now in
    let says = interface_entry c.args.self.now c.reference.new.self m c.in_ok-class.class c.in_ok-class.names
    c.reference.ensures.pool c.in_ok-class.ensures.found in
    item_found c.args.self.now c.reference.new.self c.entry.new.self (reference_items m) _ (interface_item m)
    c.entry.result (λ later. (c.in_ok-class.ensures.found later).0) says.1 c.entry.ensures.found

pub returns-clause-only : goal.returns-clause-only
returns-clause-only c =
    let m = c.args.member.now in
    let says = interface_entry c.args.self.now c.reference.new.self m c.in_ok-class.class c.in_ok-class.names
    c.reference.ensures.pool c.in_ok-class.ensures.found in
    item_only c.args.self.now c.reference.new.self (reference_items m) _ (interface_item m) c.entry.result
    (λ later. (c.in_ok-class.ensures.found later).0) says.1 c.entry.ensures.only
