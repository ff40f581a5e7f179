use Rattle.std.proofs.Common.{◌+◌, List, Some, length, ap, sym, ◌∙◌}
use Rattle.model.specs.ClassListings.{ClassListing}
use Rattle.resolve.specs.Numbers.{class_number}
use Rattle.resolve.proofs.NumberLemmas.{number-own, number-there, place_after}
use Rattle.resolve.proofs.classes.Classes.place.Goals as goal

pub returns-in-Some : goal.returns-in-Some
returns-in-Some c =
    number-there c.self.inside.index c.args.name.now c.in-Some.number c.in-Some.ensures.first
    ∙ ap (λ (p : List ClassListing). class_number p c.args.name.now) c.self.view_is

pub returns-in_err-builtin_number-in-None : goal.returns-in_err-builtin_number-in-None
returns-in_err-builtin_number-in-None c =
    c.from_residual.ensures
    ∙ ap (place_after (length c.self.inside.index)) c.in_err-builtin_number-in-None.ensures
    ∙ number-own c.self.inside.index c.args.name.now c.in-None.ensures.first
    ∙ ap (λ (p : List ClassListing). class_number p c.args.name.now) c.self.view_is

pub returns-in_ok-builtin_number-in-None : goal.returns-in_ok-builtin_number-in-None
returns-in_ok-builtin_number-in-None c =
    ap (λ (p : List ClassListing). Some (length p + c.in_ok-builtin_number-in-None.field-0)) (c.program.ensures
    ∙ sym c.self.view_is)
    ∙ ap (place_after (length c.self.inside.index)) c.in_ok-builtin_number-in-None.ensures
    ∙ number-own c.self.inside.index c.args.name.now c.in-None.ensures.first
    ∙ ap (λ (p : List ClassListing). class_number p c.args.name.now) c.self.view_is
