use Rattle.std.specs.Prelude.{List, map, Vec}
use Rattle.std.specs.Global.{Global}
use Rattle.model.specs.declared.values.Kind.{Kind}
use Rattle.model.specs.ClassListings.{ClassListing}
use Rattle.model.specs.Signatures.{argument_kinds}
use Rattle.linking.specs.Selectors.{Signature, selectors}

-- the kinds of the arguments that a call of each selector takes
abbrev pub selector_arguments : List ClassListing → List (List Kind)
selector_arguments program = map (λ (s : Signature). argument_kinds s.1) (selectors program)

-- a list for each vector
abbrev pub lists : List (Vec Kind Global) → List (List Kind)
lists kinds = map (λ (k : Vec Kind Global). k.items) kinds
