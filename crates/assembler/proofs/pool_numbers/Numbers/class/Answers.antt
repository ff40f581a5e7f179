use Rattle.std.proofs.Common.{[], ◌∷◌}
use Rattle.model.specs.ClassFiles.Items.Item.{text_item, class_item}
use Rattle.assembler.proofs.NumberingBuilding.{class_entry}
use Rattle.assembler.proofs.StayingLaws.{item_found, item_only, first_refused}
use Rattle.assembler.proofs.pool_numbers.Numbers.class.Goals as goal

pub entry-requires : goal.entry-requires
entry-requires c = (class_entry c.args.self.now c.text.new.self c.args.name.now c.in_ok-text.text c.text.ensures.pool
    c.in_ok-text.ensures.found).0

pub returns-in_err-text-clause-only : goal.returns-in_err-text-clause-only
returns-in_err-text-clause-only c = first_refused c.from_residual.result c.in_err-text.field-0.0 c.args.self.now
    (text_item c.args.name.now ∷ []) (class_item c.args.name.now ∷ []) c.from_residual.ensures.1
    c.in_err-text.ensures.only

pub returns-clause-found : goal.returns-clause-found
returns-clause-found c =
    let says = class_entry c.args.self.now c.text.new.self c.args.name.now c.in_ok-text.text c.text.ensures.pool
    c.in_ok-text.ensures.found in
    item_found c.args.self.now c.text.new.self c.entry.new.self (text_item c.args.name.now ∷ []) _
    (class_item c.args.name.now) c.entry.result (λ later. (c.in_ok-text.ensures.found later).0) says.1
    c.entry.ensures.found

pub returns-clause-only : goal.returns-clause-only
returns-clause-only c =
    let says = class_entry c.args.self.now c.text.new.self c.args.name.now c.in_ok-text.text c.text.ensures.pool
    c.in_ok-text.ensures.found in
    item_only c.args.self.now c.text.new.self (text_item c.args.name.now ∷ []) _ (class_item c.args.name.now)
    c.entry.result (λ later. (c.in_ok-text.ensures.found later).0) says.1 c.entry.ensures.only
