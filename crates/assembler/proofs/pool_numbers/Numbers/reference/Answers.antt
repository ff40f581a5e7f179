use Rattle.model.specs.ClassFiles.Items.{class_items, name_items}
use Rattle.model.specs.ClassFiles.Items.Item.{class_item, name_item}
use Rattle.assembler.specs.Numbering.{number_of}
use Rattle.assembler.proofs.StayingLaws.{stays_then, first_refused, second_refused}
use Rattle.assembler.proofs.pool_numbers.Numbers.reference.Goals as goal

pub returns-in_err-class-clause-only : goal.returns-in_err-class-clause-only
returns-in_err-class-clause-only c =
    let m = c.args.member.now in
    first_refused c.from_residual.result c.in_err-class.field-0.0 c.args.self.now (class_items m.class)
    (name_items m.name m.descriptor) c.from_residual.ensures.1 c.in_err-class.ensures.only

pub returns-in_err-names-clause-only : goal.returns-in_err-names-clause-only
returns-in_err-names-clause-only c =
    let m = c.args.member.now in
    second_refused c.from_residual-in_err-names.result c.in_err-names.field-0.0 c.args.self.now c.class.new.self
    (class_items m.class) (name_items m.name m.descriptor) c.from_residual-in_err-names.ensures.1
    (λ later. (c.in_ok-class.ensures.found later).0) c.in_err-names.ensures.only

pub returns-clause-found : goal.returns-clause-found
returns-clause-found c =
    let m = c.args.member.now in
    stays_then c.args.self.now c.class.new.self c.name_and_type.new.self (class_items m.class)
    (name_items m.name m.descriptor) (λ items. number_of items (class_item m.class))
    (λ items. number_of items (name_item m.name m.descriptor)) c.in_ok-class.class c.in_ok-names.names
    c.in_ok-class.ensures.found c.in_ok-names.ensures.found
