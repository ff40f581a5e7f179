use Rattle.std.proofs.Common.{◌≡◌, ◌∙◌, sym, subst, Bool, true, false, IfErr}
use Rattle.model.specs.ClassListings.{ClassListing}
use Rattle.launcher.specs.Launching.{IsListingBy, LacksMemory, begins_as_class}
use Rattle.launcher.proofs.sources.source_listing.Goals as goal

pub returns-then-begins_as_class-clause-refused : goal.returns-then-begins_as_class-clause-refused
returns-then-begins_as_class-clause-refused c =
    let is_class : begins_as_class c.args.source.now ≡ true = sym c.begins_as_class.ensures ∙ c.if-begins_as_class.true
    in
    subst (λ (b : Bool). IfErr c.class_listing.result (λ e. (LacksMemory e → ⊥) → (listing : ClassListing)
    → IsListingBy b c.args.source.now listing → ⊥))
    (sym is_class) c.class_listing.ensures.refused

pub returns-else-begins_as_class-clause-refused : goal.returns-else-begins_as_class-clause-refused
returns-else-begins_as_class-clause-refused c =
    let is_text : begins_as_class c.args.source.now ≡ false = sym c.begins_as_class.ensures ∙ c.if-begins_as_class.false
    in
    subst (λ (b : Bool). IfErr c.text_listing.result (λ e. (LacksMemory e → ⊥) → (listing : ClassListing)
    → IsListingBy b c.args.source.now listing → ⊥))
    (sym is_text) c.text_listing.ensures.refused
