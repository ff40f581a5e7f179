use Rattle.std.proofs.Common.{◌≡◌, [], ◌++◌, List, sym, ◌∙◌, ap, subst, append-nil}
use Rattle.std.proofs.lemmas.Result.{err_from_is_err_and}
use Rattle.std.specs.List.{AllByRecursion}
use Rattle.model.specs.ClassFiles.Classes.{ClassPart}
use Rattle.model.specs.ClassFiles.Items.{Item, with_items, listing_items}
use Rattle.classfile.specs.Classes.{IsClass}
use Rattle.assembler.specs.Assembled.{HasRoom, HasCode, assembled}
use Rattle.assembler.specs.Numbering.{IsPool}
use Rattle.assembler.specs.declared.error.AsmError.TheVariants as error
use Rattle.assembler.proofs.FileLaws as laws
use Rattle.assembler.proofs.StayingLaws.{given_on}
use Rattle.assembler.proofs.numbered_class.class_file.Goals as goal

pub returns-in_err-body-clause-only : goal.returns-in_err-body-clause-only
returns-in_err-body-clause-only c =
    let old = c.args.numbers in
    let l = c.args.listing.now in
    let items = listing_items l in
    let all : with_items old items ≡ with_items old (items ++ []) = ap (with_items old) (sym (append-nil items)) in
    given_on c.from_residual.result c.in_err-body.field-0.0 (λ e. IsClass (assembled (with_items old items) l)
    → e ≡ error.Memory) c.from_residual.ensures.1
    (λ is.
    c.in_err-body.ensures.only [] (subst HasRoom all (laws.has_room (with_items old items) l is))
    (subst (λ (xs : List Item). AllByRecursion (λ m. HasCode xs m.code) l.methods) all
    (laws.have_code (with_items old items) l is)))

pub returns-in_err-finish-clause-only : goal.returns-in_err-finish-clause-only
returns-in_err-finish-clause-only c =
    let q = err_from_is_err_and c.from_residual-in_err-finish.result c.from_residual-in_err-finish.ensures.1 in
    let made = laws.made_is c.args.numbers c.body.new.numbers c.args.listing.now c.in_ok-body.body
    c.in_ok-body.ensures.found in
    rw q.1 (λ is. q.2 (c.in_err-finish.ensures.only (subst (λ (f : ClassPart). IsClass f) (sym made) is)))

pub returns-clause-found : goal.returns-clause-found
returns-clause-found c =
    let found = c.in_ok-body.ensures.found in (
      c.in_ok-finish.ensures.made ∙ laws.made_is c.args.numbers c.body.new.numbers c.args.listing.now c.in_ok-body.body
          found,
      subst IsPool (sym (laws.whole c.args.numbers c.body.new.numbers c.args.listing.now c.in_ok-body.body found))
          c.in_ok-finish.ensures.pool,
    )
