use Rattle.std.proofs.Common.{[], ◌∷◌, codes, Option, Some, ℕ}
use Rattle.model.specs.ClassFiles.Items.{value_item}
use Rattle.model.specs.ClassFiles.Items.Item.{text_item}
use Rattle.model.specs.declared.class_files.ConstantValue.{ConstantValue}
use Rattle.assembler.specs.Numbering.{number_of}
use Rattle.assembler.proofs.StayingLaws as laws
use Rattle.assembler.proofs.numbered_class.numbered_value.Goals as goal

pub returns-in_err-name-clause-only : goal.returns-in_err-name-clause-only
returns-in_err-name-clause-only c =
    rw c.in-Some.is (laws.first_refused c.from_residual.result c.in_err-name.field-0.0 c.args.numbers.now
    (text_item (codes "ConstantValue") ∷ []) (value_item c.in-Some.value ∷ []) c.from_residual.ensures.1
    c.in_err-name.ensures.only)

pub returns-in_err-value-clause-only : goal.returns-in_err-value-clause-only
returns-in_err-value-clause-only c =
    rw c.in-Some.is
    (laws.second_refused c.from_residual-in_err-value.result c.in_err-value.field-0.0 c.args.numbers.now
    c.attribute.new.self (text_item (codes "ConstantValue") ∷ []) (value_item c.in-Some.value ∷ [])
    c.from_residual-in_err-value.ensures.1 (λ later. (c.in_ok-name.ensures.found later).0)
    c.in_err-value.ensures.only)

pub returns-clause-found : goal.returns-clause-found
returns-clause-found c =
    let name = text_item (codes "ConstantValue") in
    let value = value_item c.in-Some.value in
    let both = laws.stays_then c.args.numbers.now c.attribute.new.self c.constant.new.numbers (name ∷ []) (value ∷ [])
    (λ items. number_of items name) (λ items. number_of items value) c.in_ok-name.name c.in_ok-value.value
    c.in_ok-name.ensures.found c.in_ok-value.ensures.found in
    let entry : ℕ × ℕ → Option ConstantValue = λ x. Some (record { name = x.0; value = x.1 }) in
    rw c.in-Some.is (laws.stays_as c.args.numbers.now c.constant.new.numbers (name ∷ value ∷ [])
    (λ items. (number_of items name, number_of items value)) (c.in_ok-name.name, c.in_ok-value.value) entry both)
