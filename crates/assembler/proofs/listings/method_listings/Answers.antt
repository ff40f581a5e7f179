use Rattle.std.proofs.Common.{◌≡◌, true, map}
use Rattle.std.specs.List.{list_all}
use Rattle.std.specs.Vec.Iter.{into_iter_items}
use Rattle.model.specs.Texts.Assembling.{method_assembles}
use Rattle.model.specs.Texts.ListingOfTree.{method_listing}
use Rattle.assembler.specs.declared.error.AsmError.TheVariants as error
use Rattle.assembler.proofs.Bools.{and_tells}
use Rattle.assembler.proofs.StayingLaws.{given_on}
use Rattle.assembler.proofs.listings.method_listings.Goals as goal

pub returns-in_err-listing-clause-only : goal.returns-in_err-listing-clause-only
returns-in_err-listing-clause-only c =
    let narrow = c.args.narrow.now in
    let all = list_all method_assembles (map (method_listing narrow) c.args.methods.items) ≡ true in
    given_on c.from_residual.result c.in_err-listing.field-0.0 (λ e. all → e ≡ error.Memory) c.from_residual.ensures.1
    (λ whole.
    let rest = rw c.in-Some.ensures.steps.0 at c.loop-method.invariant.assemble whole in
    c.in_err-listing.ensures.only (and_tells (method_assembles (method_listing narrow c.in-Some.method))
    (list_all method_assembles (map (method_listing narrow) (into_iter_items c.next.new.self))) rest).0)
