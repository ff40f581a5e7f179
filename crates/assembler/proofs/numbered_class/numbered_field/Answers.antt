use Rattle.std.proofs.Common.{[], ◌∷◌, ◌++◌, Option, ℕ}
use Rattle.std.specs.Option.{option_map}
use Rattle.model.specs.ClassFiles.Items.{value_items}
use Rattle.model.specs.ClassFiles.Items.Item.{text_item}
use Rattle.model.specs.declared.class_files.ConstantValue.{ConstantValue}
use Rattle.model.specs.declared.class_files.FieldEntry.{FieldEntry}
use Rattle.assembler.specs.Assembled.{HasRoom}
use Rattle.assembler.specs.Numbering.{number_of, numbered_value}
use Rattle.assembler.proofs.StayingLaws as laws
use Rattle.assembler.proofs.numbered_class.numbered_field.Goals as goal

pub returns-in_err-text-clause-only : goal.returns-in_err-text-clause-only
returns-in_err-text-clause-only c =
    let f = c.args.field.now in
    laws.first_refused c.from_residual.result c.in_err-text.field-0.0 c.args.numbers.now (text_item f.name ∷ [])
    (text_item f.descriptor ∷ value_items f.constant) c.from_residual.ensures.1 c.in_err-text.ensures.only

pub returns-in_err-text-2-clause-only : goal.returns-in_err-text-2-clause-only
returns-in_err-text-2-clause-only c =
    let f = c.args.field.now in
    laws.second_refused c.from_residual-in_err-text-2.result c.in_err-text-2.field-0.0 c.args.numbers.now
    c.text.new.self (text_item f.name ∷ []) (text_item f.descriptor ∷ value_items f.constant)
    c.from_residual-in_err-text-2.ensures.1 (λ later. (c.in_ok-text.ensures.found later).0)
    (laws.first_fails HasRoom c.text.new.self (text_item f.descriptor ∷ []) (value_items f.constant)
    c.in_err-text-2.ensures.only)

pub returns-in_err-numbered_value-clause-only : goal.returns-in_err-numbered_value-clause-only
returns-in_err-numbered_value-clause-only c =
    let f = c.args.field.now in
    laws.second_refused c.from_residual-in_err-numbered_value.result c.in_err-numbered_value.field-0.0
    c.args.numbers.now c.text.new.self (text_item f.name ∷ []) (text_item f.descriptor ∷ value_items f.constant)
    c.from_residual-in_err-numbered_value.ensures.1 (λ later. (c.in_ok-text.ensures.found later).0)
    (laws.second_fails HasRoom c.text.new.self c.text-2.new.self (text_item f.descriptor ∷ []) (value_items f.constant)
    (λ items. number_of items (text_item f.descriptor)) c.in_ok-text-2.field-0 c.in_ok-text-2.ensures.found
    c.in_err-numbered_value.ensures.only)

pub returns-clause-found : goal.returns-clause-found
returns-clause-found c =
    let value : ℕ × (ℕ × Option ConstantValue) → FieldEntry = λ x. record {
      flags = c.args.field.now.flags;
      name = x.0;
      descriptor = x.1.0;
      constant = x.1.1;
    } in
    laws.stays_as c.args.numbers.now c.numbered_value.new.numbers ((text_item c.args.field.now.name ∷ [])
    ++ ((text_item c.args.field.now.descriptor ∷ []) ++ (value_items c.args.field.now.constant)))
    (λ items. (
      number_of items (text_item c.args.field.now.name),
      (
        number_of items (text_item c.args.field.now.descriptor),
        (option_map (numbered_value items) c.args.field.now.constant),
      ),
    )) (
      c.in_ok-text.field-0,
      (c.in_ok-text-2.field-0, c.in_ok-numbered_value.field-0),
    ) value
    (laws.stays_then c.args.numbers.now c.text.new.self c.numbered_value.new.numbers
    (text_item c.args.field.now.name ∷ []) ((text_item c.args.field.now.descriptor ∷ [])
    ++ (value_items c.args.field.now.constant)) (λ items. number_of items (text_item c.args.field.now.name))
    (λ items. (
      number_of items (text_item c.args.field.now.descriptor),
      (option_map (numbered_value items) c.args.field.now.constant),
    )) c.in_ok-text.field-0 (
      c.in_ok-text-2.field-0,
      c.in_ok-numbered_value.field-0,
    ) c.in_ok-text.ensures.found (laws.stays_then c.text.new.self c.text-2.new.self
    c.numbered_value.new.numbers (text_item c.args.field.now.descriptor ∷ [])
    (value_items c.args.field.now.constant) (λ items. number_of items (text_item c.args.field.now.descriptor))
    (λ items. (option_map (numbered_value items) c.args.field.now.constant)) c.in_ok-text-2.field-0
    c.in_ok-numbered_value.field-0 c.in_ok-text-2.ensures.found c.in_ok-numbered_value.ensures.found))
