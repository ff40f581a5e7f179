use Rattle.std.specs.Prelude.{List, Bool, false, Option, Some, None}
use Rattle.model.specs.declared.values.Kind.{Kind}
use Rattle.model.specs.ClassListings.{ClassListing}
use Rattle.model.specs.Frames.{Frame}
use Rattle.model.specs.Table.Returns.{same_result}
use Rattle.linking.specs.MethodFacts.{MethodFacts}
pub use Rattle.linking.specs.MethodTables.{facts_if, facts_in}

-- What a turn asks of the method of a frame, by its place in the tables.

abbrev pub is_initializer_in : Option MethodFacts → Bool
is_initializer_in None = false
is_initializer_in (Some facts) = facts.is_initializer

-- whether a frame runs a class initializer
abbrev pub runs_initializer_in : List ClassListing → Frame → Bool
runs_initializer_in program f = is_initializer_in (facts_in program f.method)

-- whether a method's result is of this kind
abbrev pub gives_in : Option Kind → Option MethodFacts → Bool
gives_in kind None = false
gives_in kind (Some facts) = same_result kind facts.kind
