use Rattle.std.proofs.Common.{◌≡◌, ◌++◌, List, true, sym, ◌∙◌, subst, Some}
use Rattle.std.proofs.lemmas.Result.{err_from_is_err_and}
use Rattle.model.specs.ClassFiles.Codes.{CodePart}
use Rattle.model.specs.ClassFiles.Items.{Item, with_items, code_items}
use Rattle.model.specs.CodeListings.{CodeListing}
use Rattle.model.specs.Texts.Spelled.{stand_from}
use Rattle.assembler.specs.Assembled.{Stays, HasRoom, HasCode, assembled_code}
use Rattle.assembler.specs.declared.error.AsmError.TheVariants as error
use Rattle.assembler.proofs.StandingLaws as laws
use Rattle.assembler.proofs.numbered_code.numbered_code.Goals as goal

pub returns-in_err-encode-clause-only : goal.returns-in_err-encode-clause-only
returns-in_err-encode-clause-only c =
    let q = err_from_is_err_and c.from_residual-in_err-encode.result c.from_residual-in_err-encode.ensures.1 in
    let code : CodeListing = record {
      max_stack = c.code.inside.max_stack;
      max_locals = c.code.inside.max_locals;
      rows = c.code.inside.rows.items;
      instructions = c.code.inside.instructions.items;
    } in
    let old = c.args.numbers.now in
    let only : (later : List Item) → HasRoom (with_items old (code_items (Some code) ++ later))
    → HasCode (with_items old (code_items (Some code) ++ later)) (Some code)
    → q.0 ≡ error.Memory = λ later room has.
    q.2 (c.in_err-encode.ensures.only has.0 _ has.1
    (laws.has_bytes old c.attribute.new.self c.instructions.new.numbers c.rows.new.numbers code c.as_slice.result.now
    c.as_slice-2.result.now c.in_ok-name.name c.in_ok-instructions.instructions.items c.in_ok-rows.rows.items
    c.as_slice.ensures.value c.as_slice-2.ensures.value
    c.in_ok-name.ensures.found c.in_ok-instructions.ensures.found c.in_ok-rows.ensures.found later
    ∙ sym c.as_slice-3.ensures.value)) in
    rw q.1 (subst (λ (l : CodeListing). (later : List Item) → HasRoom (with_items old (code_items (Some l) ++ later))
    → HasCode (with_items old (code_items (Some l) ++ later)) (Some l) → q.0 ≡ error.Memory) c.code.view_is only)

pub returns-clause-found : goal.returns-clause-found
returns-clause-found c =
    let code : CodeListing = record {
      max_stack = c.code.inside.max_stack;
      max_locals = c.code.inside.max_locals;
      rows = c.code.inside.rows.items;
      instructions = c.code.inside.instructions.items;
    } in
    let at : stand_from 0 code.instructions ≡ true = subst (λ (l : CodeListing). stand_from 0 l.instructions ≡ true)
    (sym c.code.view_is) c.requires in
    let part : CodePart = record {
      name = c.in_ok-name.name;
      max_stack = code.max_stack;
      max_locals = code.max_locals;
      instructions = c.in_ok-encode.field-0;
      rows = c.in_ok-rows.rows.items;
    } in
    subst (λ (l : CodeListing). Stays {A = CodePart} c.args.numbers.now (code_items (Some l)) c.rows.new.numbers
    (λ items. assembled_code items l) part) c.code.view_is
    (laws.code_stays c.args.numbers.now c.attribute.new.self c.instructions.new.numbers c.rows.new.numbers code
    c.as_slice.result.now c.as_slice-2.result.now c.in_ok-name.name c.in_ok-instructions.instructions.items
    c.in_ok-rows.rows.items c.as_slice.ensures.value c.as_slice-2.ensures.value
    c.in_ok-name.ensures.found c.in_ok-instructions.ensures.found c.in_ok-rows.ensures.found c.in_ok-encode.field-0 at
    (c.in_ok-encode.ensures.found ∙ c.as_slice-3.ensures.value) c.in_ok-encode.ensures.code)
