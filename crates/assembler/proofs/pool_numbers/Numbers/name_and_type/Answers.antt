use Rattle.std.proofs.Common.{[], ◌∷◌}
use Rattle.model.specs.ClassFiles.Items.Item.{text_item, name_item}
use Rattle.assembler.specs.Assembled.{HasRoom}
use Rattle.assembler.specs.Numbering.{number_of}
use Rattle.assembler.proofs.NumberingBuilding.{name_entry}
use Rattle.assembler.proofs.StayingLaws.{item_found, item_only, stays_then, first_fails, first_refused, second_refused}
use Rattle.assembler.proofs.pool_numbers.Numbers.name_and_type.Goals as goal

pub entry-requires : goal.entry-requires
entry-requires c =
    let name = text_item c.args.name.now in
    let type = text_item c.args.descriptor.now in
    let both = stays_then c.args.self.now c.text.new.self c.text-2.new.self (name ∷ []) (type ∷ [])
    (λ items. number_of items name) (λ items. number_of items type) c.in_ok-name.name
    c.in_ok-descriptor.descriptor c.in_ok-name.ensures.found c.in_ok-descriptor.ensures.found in
    (name_entry c.args.self.now c.text-2.new.self c.args.name.now c.args.descriptor.now c.in_ok-name.name
    c.in_ok-descriptor.descriptor c.text-2.ensures.pool both).0

pub returns-in_err-name-clause-only : goal.returns-in_err-name-clause-only
returns-in_err-name-clause-only c =
    let others = text_item c.args.descriptor.now ∷ name_item c.args.name.now c.args.descriptor.now ∷ [] in
    first_refused c.from_residual.result c.in_err-name.field-0.0 c.args.self.now (text_item c.args.name.now ∷ []) others
    c.from_residual.ensures.1 c.in_err-name.ensures.only

pub returns-in_err-descriptor-clause-only : goal.returns-in_err-descriptor-clause-only
returns-in_err-descriptor-clause-only c =
    let type = text_item c.args.descriptor.now in
    let both = name_item c.args.name.now c.args.descriptor.now in
    second_refused c.from_residual-in_err-descriptor.result c.in_err-descriptor.field-0.0 c.args.self.now
    c.text.new.self (text_item c.args.name.now ∷ []) (type ∷ both ∷ []) c.from_residual-in_err-descriptor.ensures.1
    (λ later. (c.in_ok-name.ensures.found later).0)
    (first_fails HasRoom c.text.new.self (type ∷ []) (both ∷ []) c.in_err-descriptor.ensures.only)

pub returns-clause-found : goal.returns-clause-found
returns-clause-found c =
    let name = text_item c.args.name.now in
    let type = text_item c.args.descriptor.now in
    let both = stays_then c.args.self.now c.text.new.self c.text-2.new.self (name ∷ []) (type ∷ [])
    (λ items. number_of items name) (λ items. number_of items type) c.in_ok-name.name
    c.in_ok-descriptor.descriptor c.in_ok-name.ensures.found c.in_ok-descriptor.ensures.found in
    let says = name_entry c.args.self.now c.text-2.new.self c.args.name.now c.args.descriptor.now c.in_ok-name.name
    c.in_ok-descriptor.descriptor c.text-2.ensures.pool both in
    item_found c.args.self.now c.text-2.new.self c.entry.new.self (name ∷ type ∷ []) _
    (name_item c.args.name.now c.args.descriptor.now) c.entry.result (λ later. (both later).0) says.1
    c.entry.ensures.found

pub returns-clause-only : goal.returns-clause-only
returns-clause-only c =
    let name = text_item c.args.name.now in
    let type = text_item c.args.descriptor.now in
    let both = stays_then c.args.self.now c.text.new.self c.text-2.new.self (name ∷ []) (type ∷ [])
    (λ items. number_of items name) (λ items. number_of items type) c.in_ok-name.name
    c.in_ok-descriptor.descriptor c.in_ok-name.ensures.found c.in_ok-descriptor.ensures.found in
    let says = name_entry c.args.self.now c.text-2.new.self c.args.name.now c.args.descriptor.now c.in_ok-name.name
    c.in_ok-descriptor.descriptor c.text-2.ensures.pool both in
    item_only c.args.self.now c.text-2.new.self (name ∷ type ∷ []) _ (name_item c.args.name.now c.args.descriptor.now)
    c.entry.result (λ later. (both later).0) says.1 c.entry.ensures.only
