use Rattle.std.proofs.Common.{◌<◌, ◌^◌, ◌≡◌, [], true, sym, ◌∙◌, ap, subst}
use Rattle.std.specs.List.{list_all}
use Rattle.model.specs.ClassFiles.Items.{with_items, listing_items}
use Rattle.model.specs.ClassListings.{ClassListing}
use Rattle.model.specs.Texts.Assembling.{assembles}
use Rattle.model.specs.Texts.Flags.{has}
use Rattle.model.specs.Texts.ListingOfTree.{listing_of}
use Rattle.model.specs.Texts.Widths.{used_in_methods}
use Rattle.classfile.specs.Classes.{IsClass}
use Rattle.assembler.specs.Assembled.{code_stands, assembled}
use Rattle.assembler.specs.Checks.{has_short_lists, method_is_right}
use Rattle.assembler.specs.declared.error.AsmError.TheVariants as error
use Rattle.assembler.proofs.SmallLaws.{has_class}
use Rattle.assembler.proofs.StayingLaws.{given_on}
use Rattle.assembler.proofs.JoinedLaws.{joined}
use Rattle.assembler.proofs.TreeLaws as laws
use Rattle.assembler.proofs.assembling.assemble.Goals as goal
use Rattle.assembler.proofs.assembling.assemble.Goals.{then-has_super-via-then-has_super}
use Rattle.assembler.proofs.assembling.assemble.Goals.{then-has_super-via-else-has_super+then-not-has_short_lists}

pub returns-then-has_super-clause-only : goal.returns-then-has_super-clause-only
unfolding assembles
returns-then-has_super-clause-only c spelled whole =
    let l = c.in_ok-listing.ensures.found.0 in
    elim c.then-has_super.branch [
      | then-has_super-via-then-has_super w ↦
          let wrong = sym w.if-has_super.true ∙ c.has_super.ensures.is ∙ ap (λ k. has k.flags.0 0x0020) l
          ∙ laws.no_super (listing_of c.args.tree) spelled in
          cc
      | then-has_super-via-else-has_super+then-not-has_short_lists w ↦
          let wrong = sym w.if-not-has_short_lists.true ∙ w.has_short_lists.ensures ∙ ap has_short_lists l
          ∙ laws.short_lists (listing_of c.args.tree) whole in
          cc
    ]

pub returns-in_err-ints-clause-only : goal.returns-in_err-ints-clause-only
returns-in_err-ints-clause-only c spelled whole =
    let t = c.args.tree in
    let same = c.as_slice-2.ensures.value ∙ c.in_ok-used.ensures ∙ ap used_in_methods (c.as_slice.ensures.value
    ∙ ap (λ t. t.methods) c.tree.view_is) in
    given_on c.from_residual-in_err-ints.result c.in_err-ints.field-0.0 (λ e. e ≡ error.Memory)
    c.from_residual-in_err-ints.ensures.1
    (c.in_err-ints.ensures.only (listing_items (listing_of t)) (laws.tree_room t c.new-numbers.result []
    c.as_slice-2.result.now c.new-numbers.ensures same (has_class t spelled whole)))

pub class_file-requires : goal.class_file-requires
class_file-requires c = subst (λ (l : ClassListing). list_all (λ m. code_stands m.code) l.methods ≡ true)
    (sym c.in_ok-listing.ensures.found.0) (laws.listing_stands c.args.tree)

pub returns-in_err-file-clause-only : goal.returns-in_err-file-clause-only
returns-in_err-file-clause-only c spelled whole =
    let same = c.as_slice-2.ensures.value ∙ c.in_ok-used.ensures ∙ ap used_in_methods (c.as_slice.ensures.value
    ∙ ap (λ t. t.methods) c.tree.view_is) in
    let pool = laws.tree_pool c.args.tree c.new-numbers.result c.ints.new.self c.as_slice-2.result.now
    c.new-numbers.ensures same c.in_ok-ints.ensures.added c.in_ok-listing.listing c.in_ok-listing.ensures.found.0
    in
    given_on c.from_residual-in_err-file.result c.in_err-file.field-0.0 (λ e. e ≡ error.Memory)
    c.from_residual-in_err-file.ensures.1
    (c.in_err-file.ensures.only (subst IsClass (sym pool) (has_class c.args.tree spelled whole)))

pub returns-clause-made : goal.returns-clause-made
returns-clause-made c =
    let same = c.as_slice-2.ensures.value ∙ c.in_ok-used.ensures ∙ ap used_in_methods (c.as_slice.ensures.value
    ∙ ap (λ t. t.methods) c.tree.view_is) in
    let pool = laws.tree_pool c.args.tree c.new-numbers.result c.ints.new.self c.as_slice-2.result.now
    c.new-numbers.ensures same c.in_ok-ints.ensures.added c.in_ok-listing.listing c.in_ok-listing.ensures.found.0
    in
    c.in_ok-file.ensures.found.0 ∙ pool

pub returns-clause-found : goal.returns-clause-found
returns-clause-found c =
    let t = c.args.tree in
    let l = c.in_ok-listing.ensures.found.0 in
    let items = with_items c.ints.new.self (listing_items c.in_ok-listing.listing) in
    let same = c.as_slice-2.ensures.value ∙ c.in_ok-used.ensures ∙ ap used_in_methods (c.as_slice.ensures.value
    ∙ ap (λ t. t.methods) c.tree.view_is) in
    let pool = laws.tree_pool t c.new-numbers.result c.ints.new.self c.as_slice-2.result.now c.new-numbers.ensures same
    c.in_ok-ints.ensures.added c.in_ok-listing.listing l in
    let items_are = laws.tree_items_are t c.new-numbers.result c.ints.new.self c.as_slice-2.result.now
    c.new-numbers.ensures same c.in_ok-ints.ensures.added c.in_ok-listing.listing l in
    let short = sym (ap has_short_lists l) ∙ sym c.has_short_lists.ensures ∙ c.if-not-has_short_lists.false in
    let right = sym (ap (λ k. list_all method_is_right k.methods) l) ∙ c.in_ok-listing.ensures.found.1 in
    let super = sym (ap (λ k. has k.flags.0 0x0020) l) ∙ sym c.has_super.ensures.is ∙ c.if-has_super.false in
    let fits = subst (λ (k : ClassListing). k.flags.0 < 2 ^ 16) l c.has_super.ensures.fits in
    joined c.in_ok-file.file items (assembled items c.in_ok-listing.listing) t items_are pool right short super fits
    c.in_ok-file.ensures.found.0 c.in_ok-file.ensures.found.1
