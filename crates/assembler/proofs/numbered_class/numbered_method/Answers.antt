use Rattle.std.proofs.Common.{◌≡◌, [], ◌∷◌, ◌++◌, List, Option, ℕ}
use Rattle.std.specs.Option.{option_map}
use Rattle.model.specs.ClassFiles.Codes.{CodePart}
use Rattle.model.specs.ClassFiles.Items.{Item, with_items, code_items, method_items}
use Rattle.model.specs.ClassFiles.Items.Item.{text_item}
use Rattle.model.specs.ClassFiles.Methods.{MethodPart}
use Rattle.assembler.specs.Assembled.{HasRoom, HasCode, assembled_code}
use Rattle.assembler.specs.Numbering.{number_of}
use Rattle.assembler.specs.declared.error.AsmError.TheVariants as error
use Rattle.assembler.proofs.StayingLaws as laws
use Rattle.assembler.proofs.numbered_class.numbered_method.Goals as goal

pub returns-in_err-text-clause-only : goal.returns-in_err-text-clause-only
returns-in_err-text-clause-only c =
    laws.given_on c.from_residual.result c.in_err-text.field-0.0 (λ e. (later : List Item)
    → HasRoom (with_items c.args.numbers.now (method_items c.args.method.now ++ later))
    → HasCode (with_items c.args.numbers.now (method_items c.args.method.now ++ later)) c.args.method.now.code
    → e ≡ error.Memory) c.from_residual.ensures.1
    (λ later room code. (laws.first_fails (λ items. HasRoom items × HasCode items c.args.method.now.code)
    c.args.numbers.now (text_item c.args.method.now.name ∷ []) ((text_item c.args.method.now.descriptor ∷ [])
    ++ (code_items c.args.method.now.code)) (λ later p. c.in_err-text.ensures.only later p.0)) later (room, code))

pub returns-in_err-text-2-clause-only : goal.returns-in_err-text-2-clause-only
returns-in_err-text-2-clause-only c =
    laws.given_on c.from_residual-in_err-text-2.result c.in_err-text-2.field-0.0 (λ e. (later : List Item)
    → HasRoom (with_items c.args.numbers.now (method_items c.args.method.now ++ later))
    → HasCode (with_items c.args.numbers.now (method_items c.args.method.now ++ later)) c.args.method.now.code
    → e ≡ error.Memory) c.from_residual-in_err-text-2.ensures.1
    (λ later room code. (laws.second_fails (λ items. HasRoom items × HasCode items c.args.method.now.code)
    c.args.numbers.now c.text.new.self (text_item c.args.method.now.name ∷ [])
    ((text_item c.args.method.now.descriptor ∷ []) ++ (code_items c.args.method.now.code))
    (λ items. number_of items (text_item c.args.method.now.name)) c.in_ok-text.field-0 c.in_ok-text.ensures.found
    (laws.first_fails (λ items. HasRoom items × HasCode items c.args.method.now.code) c.text.new.self
    (text_item c.args.method.now.descriptor ∷ []) (code_items c.args.method.now.code)
    (λ later p. c.in_err-text-2.ensures.only later p.0))) later (room, code))

pub returns-in_err-code-clause-only : goal.returns-in_err-code-clause-only
returns-in_err-code-clause-only c =
    laws.given_on c.from_residual-in_err-code.result c.in_err-code.field-0.0 (λ e. (later : List Item)
    → HasRoom (with_items c.args.numbers.now (method_items c.args.method.now ++ later))
    → HasCode (with_items c.args.numbers.now (method_items c.args.method.now ++ later)) c.args.method.now.code
    → e ≡ error.Memory) c.from_residual-in_err-code.ensures.1
    (λ later room code. (laws.second_fails (λ items. HasRoom items × HasCode items c.args.method.now.code)
    c.args.numbers.now c.text.new.self (text_item c.args.method.now.name ∷ [])
    ((text_item c.args.method.now.descriptor ∷ []) ++ (code_items c.args.method.now.code))
    (λ items. number_of items (text_item c.args.method.now.name)) c.in_ok-text.field-0 c.in_ok-text.ensures.found
    (laws.second_fails (λ items. HasRoom items × HasCode items c.args.method.now.code) c.text.new.self
    c.text-2.new.self (text_item c.args.method.now.descriptor ∷ []) (code_items c.args.method.now.code)
    (λ items. number_of items (text_item c.args.method.now.descriptor)) c.in_ok-text-2.field-0
    c.in_ok-text-2.ensures.found (λ later p. c.in_err-code.ensures.only later p.0 p.1))) later (room, code))

pub returns-clause-found : goal.returns-clause-found
returns-clause-found c =
    let value : ℕ × (ℕ × Option CodePart) → MethodPart = λ x. record {
      flags = c.args.method.now.flags;
      name = x.0;
      descriptor = x.1.0;
      code = x.1.1;
    } in
    laws.stays_as c.args.numbers.now c.code.new.numbers ((text_item c.args.method.now.name ∷ [])
    ++ ((text_item c.args.method.now.descriptor ∷ []) ++ (code_items c.args.method.now.code)))
    (λ items. (
      number_of items (text_item c.args.method.now.name),
      (
        number_of items (text_item c.args.method.now.descriptor),
        (option_map (assembled_code items) c.args.method.now.code),
      ),
    )) (
      c.in_ok-text.field-0,
      (c.in_ok-text-2.field-0, c.in_ok-code.field-0),
    ) value (laws.stays_then c.args.numbers.now c.text.new.self
    c.code.new.numbers (text_item c.args.method.now.name ∷ []) ((text_item c.args.method.now.descriptor ∷ [])
    ++ (code_items c.args.method.now.code)) (λ items. number_of items (text_item c.args.method.now.name))
    (λ items. (
      number_of items (text_item c.args.method.now.descriptor),
      (option_map (assembled_code items) c.args.method.now.code),
    )) c.in_ok-text.field-0 (
      c.in_ok-text-2.field-0,
      c.in_ok-code.field-0,
    ) c.in_ok-text.ensures.found (laws.stays_then c.text.new.self c.text-2.new.self
    c.code.new.numbers (text_item c.args.method.now.descriptor ∷ []) (code_items c.args.method.now.code)
    (λ items. number_of items (text_item c.args.method.now.descriptor))
    (λ items. (option_map (assembled_code items) c.args.method.now.code)) c.in_ok-text-2.field-0
    c.in_ok-code.field-0 c.in_ok-text-2.ensures.found c.in_ok-code.ensures.found))
