use Rattle.std.proofs.Common.{ℕ, List, ◌++◌, map, ap, ◌∙◌}
use Rattle.model.specs.ClassListings.{ClassListing}
use Rattle.model.specs.Classes.Builtin.{builtin_classes}
use Rattle.linking.proofs.class_numbers.names_of.Goals as goal

pub returns : goal.returns
unfolding builtin_classes
returns c =
    c.in_ok-add_own_names.ensures
    ∙ ap (λ (xs : List (List ℕ)). xs ++ map (λ (c : ClassListing). c.name) builtin_classes) c.in_ok-names.ensures
